-- `search::aimed_turn::run` meets its contract. The invariant: from any turn that stood at its beginning where the loop begins, it has come this far. The measure is
-- how many nodes are not expanded, lack an estimate or wait to spread theirs.
-- Assumes nothing.
use mathlib.Core.List.{List}
use Prim.Native.Nat.{ℕ, ◌+◌, ◌-◌}
use lib.ListN.{length}
use Rattle.search.specs.Distance.{far}
use Rattle.search.specs.Turn.{weighed_congestion}
use Rattle.search.proofs.aimed_turn.AimState.{blanks}
use Rattle.search.proofs.aimed_turn.AimRun.{TurnOver, Turning}
use Rattle.search.proofs.aimed_turn.run.Given as goal

abbrev pub invariant-loop-f : goal.invariant-loop-f
invariant-loop-f l =
    (w : List ℕ)
    (o : TurnOver l.tables.kind.now l.tables.capacity.now l.tables.first_edge.now l.tables.edge_target.now l.back.first_back.now l.back.back_source.now (weighed_congestion l.prices.weighting l.prices.delay.now l.prices.factor l.prices.history.now l.prices.others.now) l.in_tree l.sinks w l.scale)
    → Turning o l.initial.work l.initial.head l.initial.f.count l.initial.f.lacking far far 0 0 → Turning o l.work l.head l.f.count l.f.lacking l.r.best l.r.low l.level l.expanded

abbrev pub decreases-loop-f : goal.decreases-loop-f
decreases-loop-f l =
    (length l.tables.kind.now - l.expanded) + (blanks (length l.tables.kind.now) l.work + l.f.count)
