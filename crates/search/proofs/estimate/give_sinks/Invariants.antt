-- `search::estimate::give_sinks` meets its contract. The invariant: the unjoined sinks at places below i have estimate 0.
-- Assumes nothing.
use mathlib.Core.List.{List}
use mathlib.Core.Path.{◌≡◌}
use Prim.Native.Nat.{ℕ}
use lib.ListN.{length}
use Rattle.search.specs.Block.{graph_of}
use Rattle.search.specs.Clamped.{clamped_base}
use Rattle.search.specs.Estimates.{lacking_in, SinksGiven}
use Rattle.search.proofs.estimate.give_sinks.Given as goal

abbrev pub invariant-loop-sink : goal.invariant-loop-sink
invariant-loop-sink l =
    ((sources : List ℕ) → SinksGiven (graph_of l.kind l.back.first_back.now sources) (clamped_base l.kind) l.scale l.in_tree l.sinks l.initial.work l.work l.head l.f.count l.sink-index)
    × (l.f.lacking ≡ lacking_in (length l.kind) l.work)
