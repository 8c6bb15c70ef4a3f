-- `counts::add_log` meets its contract: the entries of all kinds go into an array, and back after the log.
-- Assumes nothing.
use Rattle.std.proofs.Common.{List, ℕ, drop, ◌++◌, ap}
use Rattle.uses.specs.Uses.{kind_count}
use Rattle.capi.proofs.CallLaws.{log_added_lem}
use Rattle.capi.proofs.counts.add_log.Goals as goal

pub returns : goal.returns
returns c =
    log_added_lem c.args.counts.now c.copy_from_slice.ensures.after c.requires _ _ _ c.add_log-answer.result c.add_log-answer.ensures.answers (ap (λ (xs : List ℕ). xs ++ drop kind_count c.args.counts.now) c.copy_from_slice-2.ensures.after)
