-- What the private functions that choose a turn's sinks do. Only their contracts cite this file: no caller has to believe it.
-- Assumes nothing.
use Rattle.std.specs.Prelude.{Bool, true, List, ◌≡◌, ℕ, ◌≤◌, ◌<◌, length, get_or}
use Rattle.std.proofs.Math.Seq.{slice}
use Rattle.price.specs.Bounds.{criticality_most}
use Rattle.search.specs.Distance.{tree_has}
use Rattle.negotiation.specs.Order.{sinks_tried, weighting_due}
use Rattle.negotiation.specs.declared.order.Tried.{Tried}

-- a net's sinks stand in table 7 from one place to below another, each a node that has its mark; in a timed job with their criticalities
pub record SinksReady (timed : Bool) (sinks criticalities : List ℕ) (from to : ℕ) (marks : List ℕ) : Type 0 where
  pub order : from ≤ to
  pub within : to ≤ length sinks
  pub nodes : (p : ℕ) → from ≤ p → p < to → get_or sinks p 0 < length marks
  pub criticalities-long : timed ≡ true → length criticalities ≡ length sinks
  pub criticality_most_lem : timed ≡ true → (p : ℕ) → p < length sinks → get_or criticalities p 0 ≤ criticality_most

-- what a turn tries of them
pub record TriedSinks (timed : Bool) (marks sinks criticalities : List ℕ) (from to : ℕ) (r : Tried) : Type 0 where
  pub weighting-is : r.weighting ≡ weighting_due timed (tree_has marks) (slice from to sinks) (slice from to criticalities)
  pub tried : slice r.from r.to sinks ≡ sinks_tried timed (tree_has marks) (slice from to sinks) (slice from to criticalities)
  pub order : r.from ≤ r.to
  pub within : r.to ≤ length sinks
