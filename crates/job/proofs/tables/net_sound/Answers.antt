-- `tables::net_sound` meets its contract: marks of the source alone say which sinks are sound, and the marks that were set are cleared.
-- Assumes nothing.
use mathlib.Core.Bool.{not}
use Rattle.std.proofs.Common.{ap}
use mathlib.Core.Path.{sym, ◌∙◌}
use native.Mathlib.Omega.{arith}
use Prim.Native.Nat.{◌<◌}
use lib.ListN.{length, length-set}
use Rattle.price.proofs.TestLaws.{true≢false}
use Rattle.search.proofs.KeptLaws.{refused, passed}
use Rattle.job.proofs.SinkMarkLaws.{free_source, free-below, unmarked_again}
use Rattle.job.proofs.tables.net_sound.Goals as goal

pub returns-then-not-mark_sinks : goal.returns-then-not-mark_sinks
returns-then-not-mark_sinks c =
    let within = free_source _ c.args.from _ c.args.seen.now c.requires.by_index (omega arith) in
    record {
      value = sym (sym within ∙ refused c.mark_sinks.ensures.value (ap not c.if-not-mark_sinks.true));
      v_after = λ e. absurd (true≢false (sym e));
    }

pub unmark_sinks-requires : goal.unmark_sinks-requires
unmark_sinks-requires c = λ i l.
    let free = passed c.mark_sinks.ensures.value (ap not c.if-not-mark_sinks.false) in
    omega (arith, free-below _ c.args.sinks.now _ free i l, c.mark_sinks.auto.seen, length-set c.args.seen.now c.args.from 1)

pub returns : goal.returns
returns c =
    let free = passed c.mark_sinks.ensures.value (ap not c.if-not-mark_sinks.false) in
    let below : c.args.from < length c.args.seen.now = omega (arith, c.requires.n_in_bounds) in
    let within = free_source _ c.args.from c.args.sinks.now c.args.seen.now c.requires.by_index below in
    let marked = c.mark_sinks.ensures.stored (c.mark_sinks.ensures.value ∙ free) in
    record {
      value = sym (sym within ∙ free);
      v_after = λ e. unmarked_again c.args.seen.now c.args.from c.requires.by_index below marked c.unmark_sinks.ensures;
    }
