-- Request 2.9, "Sinks go by falling criticality, ties as listed": what is promised of the sink whose turn it is, beside its definition.
-- Assumes nothing.
use Rattle.std.specs.Prelude.{true, false, List, [], ◌∷◌, ◌≡◌, ℕ, ◌≤◌, ◌<◌, length, get_or}
use Rattle.price.specs.Lists.{has}
use Rattle.job.specs.Job.{Job, nodes, nets, net_sinks, net_criticalities}
use Rattle.job.specs.Tables.{SoundJob, exceeds}
use Rattle.job.specs.Join.{joined}
use Rattle.negotiation.specs.Order.{turn_sinks, turn_weighting}

-- one sink of net i is due where it has this tree: at a place in the net's list
pub record OneDue (j : Job) (i : ℕ) (tree : List ℕ) : Type 0 where
  pub place : ℕ
  pub within : place < length (net_sinks j i)
  -- a turn tries that sink and no other, and weighs delay by its criticality
  pub alone : turn_sinks j i tree ≡ get_or (net_sinks j i) place 0 ∷ []
  pub weighs : (turn_weighting j i tree).criticality ≡ get_or (net_criticalities j i) place 0
  -- "a sink already in the tree is joined without a turn"
  pub unjoined : has (get_or (net_sinks j i) place 0) tree ≡ false
  -- "by falling criticality": none that is not joined has a higher one
  pub highest :
      (p : ℕ) → p < length (net_sinks j i) → has (get_or (net_sinks j i) p 0) tree ≡ false
      → get_or (net_criticalities j i) p 0 ≤ get_or (net_criticalities j i) place 0
  -- "ties as listed": none before it in the list that is not joined has the same
  pub first_listed :
      (p : ℕ) → p < place → has (get_or (net_sinks j i) p 0) tree ≡ false
      → get_or (net_criticalities j i) p 0 < get_or (net_criticalities j i) place 0

-- of every timed job that isn't refused by 5 or 15: whatever its tree, as long as a net has a sink that is not joined, one is due
abbrev pub SinksFall : Job → Type 0
SinksFall j =
    SoundJob j → exceeds (nodes j) j.terms ≡ false → j.terms.timed ≡ true
    → (i sink : ℕ) (tree : List ℕ) → i < nets j → has sink (net_sinks (joined j) i) ≡ true → has sink tree ≡ false
    → OneDue (joined j) i tree
