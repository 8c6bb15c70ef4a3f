-- `search::estimate::give_before` meets its contract. The invariant: the places of v's row below e have been passed.
-- Assumes nothing.
use mathlib.Core.Path.{◌≡◌}
use lib.ListN.{length}
use Rattle.search.specs.Block.{graph_of}
use Rattle.search.specs.Clamped.{clamped_base}
use Rattle.search.specs.Buckets.{Lined}
use Rattle.search.specs.Estimates.{lacking_in}
use Rattle.search.proofs.estimate.EstimateSteps.{GivingRow}
use Rattle.search.proofs.estimate.give_before.Given as goal

abbrev pub invariant-loop-e : goal.invariant-loop-e
invariant-loop-e l =
    ((k : Lined (length l.kind) (clamped_base l.kind) l.scale l.initial.work l.initial.head l.initial.f.count l.estimate)
    → GivingRow (graph_of l.kind l.back.first_back.now l.back.back_source.now) (clamped_base l.kind) l.scale l.v l.estimate l.initial.work l.work l.initial.head l.head l.initial.f.count l.f.count l.e k)
    × (l.f.lacking ≡ lacking_in (length l.kind) l.work)
