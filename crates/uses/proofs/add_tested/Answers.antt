-- `add_tested` meets its contract: an unsound log, one too many, or one that is added.
-- Assumes nothing.
use native.Mathlib.Omega.{arith}
use Rattle.std.proofs.Common.{rules}
use Rattle.std.proofs.lemmas.Result.{err_from_is_err_and}
use Rattle.search.proofs.BlockLaws.{kinds-few}
use Rattle.uses.specs.Uses.{use_counts_of}
use Rattle.uses.proofs.AddLaws.{add-unsound, add_full, users-long, add_done_lem}
use Rattle.uses.proofs.add_tested.Goals as goal

pub returns-in_err-node_users : goal.returns-in_err-node_users
returns-in_err-node_users c =
    let p = err_from_is_err_and c.from_residual.result c.from_residual.ensures.1 in
    rw (p.1, p.2) (add-unsound _ _ _ (use_counts_of c.args.uses.now c.args.logs) c.in_err-node_users.ensures.answers)

pub returns-then-logs-ge-LOGS_MOST : goal.returns-then-logs-ge-LOGS_MOST
returns-then-logs-ge-LOGS_MOST c = add_full _ _ _ c.in_ok-node_users.ensures.answers _ (search rules)

pub slice_bounds-tally-end : goal.slice_bounds-tally-end
slice_bounds-tally-end c =
    let long = users-long _ _ _ c.in_ok-node_users.ensures.answers in
    search rules

pub tally-requires : goal.tally-requires
tally-requires c =
    let long = users-long _ _ _ c.in_ok-node_users.ensures.answers in
    record {
      kind_value = (c.requires.0, omega (arith, long, kinds-few _ c.requires.0));
      sums_len = (search rules, c.requires.1);
    }

pub returns : goal.returns
returns c =
    add_done_lem _ _ _ c.in_ok-node_users.ensures.answers _ (kinds-few _ c.requires.0) (search rules) c.tally.ensures
