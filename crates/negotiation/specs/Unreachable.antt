-- Which sinks have a path from their source, and what refusal 7 says of a job.
-- Assumes nothing.
use Rattle.std.specs.Prelude.{true, false, List, [], ◌∷◌, ◌≡◌, ℕ, ◌≤◌, ◌<◌, length, get_or}
use Rattle.price.specs.Lists.{has}
use Rattle.search.specs.Paths.{Walk}
use Rattle.search.specs.Replies.{work_needed}
use Rattle.job.specs.Job.{Job, nodes, nets, source, net_sinks}
use Rattle.job.specs.Tables.{SoundJob, exceeds}
use Rattle.job.specs.Join.{joined}
use Rattle.negotiation.specs.Outcome.{route_reply}

-- a path from net i's source to a node
abbrev pub Reachable : Job → ℕ → ℕ → Type 0
Reachable j i v = (path : List ℕ) × Walk j.block (source j i) path v

-- "every sink has a path from its source"
abbrev pub AllReachable : Job → Type 0
AllReachable j = (i s : ℕ) → i < nets j → has s (net_sinks j i) ≡ true → Reachable j i s

-- "first net, first sink place in it (from 0), without a path"
pub record FirstUnreachable (j : Job) (net place : ℕ) : Type 0 where
  pub net-below : net < nets j
  pub place_below : place < length (net_sinks j net)
  pub no_path : Reachable j net (get_or (net_sinks j net) place 0) → ⊥
  pub sinks_before : (p : ℕ) → p < place → Reachable j net (get_or (net_sinks j net) p 0)
  pub nets_before : (i s : ℕ) → i < net → has s (net_sinks j i) ≡ true → Reachable j i s

-- what refusal 7 means, and that every job with sound tables and enough work memory, not too large, of which this is so is refused by it.
-- Request 2.3: "7 gives the first net's number and the place among its joined sinks"
pub record UnreachableRefused (j : Job) (work log : List ℕ) : Type 0 where
  pub means : (net place : ℕ) → (route_reply j work log).refusal ≡ 7 ∷ net ∷ place ∷ [] → FirstUnreachable (joined j) net place
  pub given :
      SoundJob j → exceeds (nodes j) j.terms ≡ false → work_needed (nodes j) ≤ length work → (net place : ℕ)
      → FirstUnreachable (joined j) net place
      → (route_reply j work log).refusal ≡ 7 ∷ net ∷ place ∷ []
