-- What the private functions that take up a lent log do: each record is tested in one pass over its path, with marks for the nodes of the
-- tree and those passed, and goals for the sinks that the turn tries. Only their contracts cite this file: no caller has to believe it.
-- Assumes nothing.
use Rattle.std.specs.Prelude.{Option, Some, None}
use Rattle.std.specs.Prelude.{Bool, true, false, List, [], ◌∷◌, ◌≡◌, ℕ, ◌+◌, ◌*◌, ◌/◌, ◌%◌, ◌^◌, ◌≤◌, ◌<◌, eqb, leb, length, get_or, set}
use Rattle.price.specs.Bounds.{timed_nodes_most}
use Rattle.price.specs.Test.{choose, both}
use Rattle.search.specs.Block.{Block, nodes, has_edge}
use Rattle.search.specs.Tables.{Sound}
use Rattle.search.specs.Distance.{far}
use Rattle.search.specs.Turn.{Congestion, Turn}
use Rattle.search.specs.Priceable.{PriceReady}
use Rattle.negotiation.specs.Resume.{record_path, whole_record, ends_at, cost_of}
use Rattle.job.specs.Steps.{Stored}

-- 1 for the last node of a path, else 0, by the nodes after it
abbrev pub last_mark : List ℕ → ℕ
last_mark [] = 1
last_mark (v ∷ rest) = 0

-- a step from u to v goes along an edge to a node without a mark, and is the last one where that is a goal, and only there
unfoldable pub step_passes : Block → (goals marks : List ℕ) → (u v last : ℕ) → Bool
step_passes b goals marks u v last = both (has_edge b u v) (both (eqb (get_or marks v 0) 0) (eqb (get_or goals v 0) last))

-- the steps from node u on, each of which leaves a mark: the cost so far with the prices of the nodes reached, nothing where one strays
unfoldable pub steps_cost : Block → (ℕ → ℕ) → (goals marks : List ℕ) → ℕ → ℕ → List ℕ → List ℕ
steps_cost b price goals marks u cost [] = cost ∷ []
steps_cost b price goals marks u cost (v ∷ rest) =
    choose (step_passes b goals marks u v (last_mark rest)) (steps_cost b price goals (set marks v 1) v (cost + price v) rest) []

-- the same of a whole path, whose first node has a mark
unfoldable pub pass_cost : Block → (ℕ → ℕ) → (goals marks : List ℕ) → List ℕ → List ℕ
pass_cost b price goals marks [] = []
pass_cost b price goals marks (u ∷ rest) = choose (eqb (get_or marks u 0) 1) (steps_cost b price goals marks u 0 rest) []

-- a turn can be tested: tables and numbers keep their rules, each node has its mark and goal, and the place is within the log
pub record RecordReady (b : Block) (c : Congestion) (goals marks log : List ℕ) (at : ℕ) : Type 0 where
  pub sound : Sound b
  pub prices : (v : ℕ) → v < nodes b → PriceReady b.kinds b.capacities c v
  pub nodes-few : c.weighting.timed ≡ true → nodes b ≤ timed_nodes_most
  pub marks_long : length marks ≡ nodes b
  pub goals-long : length goals ≡ nodes b
  pub within : at ≤ length log

-- a pass can be made: all that, at the place where the path ends, and the path has words, no more than there are nodes
pub record PassReady (b : Block) (c : Congestion) (goals marks log : List ℕ) (from to : ℕ) : Type 0 where
  pub turn : RecordReady b c goals marks log to
  pub some : from < to
  pub few : to ≤ from + nodes b

-- what a pass gives, as a list
abbrev pub costs_of : Option ℕ → List ℕ
costs_of (Some cost) = cost ∷ []
costs_of None = []

-- the nodes of a path that passes are marked; one that strays may leave any marks
abbrev pub PathMarked : Option ℕ → (path marks marks' : List ℕ) → Type 0
PathMarked (Some cost) path marks marks' = Stored 1 path marks marks'
PathMarked None path marks marks' = Unit {0}

-- a cost is there, and the record's two words are those of it
abbrev pub cost_is : List ℕ → List ℕ → Bool
cost_is ws [] = false
cost_is ws (cost ∷ costs) = both (eqb (get_or ws 3 0) (cost % 2 ^ 32)) (eqb (get_or ws 4 0) (cost / 2 ^ 32))

-- the cost that the record's two words name
abbrev pub named_cost : List ℕ → ℕ
named_cost ws = get_or ws 3 0 + get_or ws 4 0 * 2 ^ 32

-- the words begin with a whole record of this iteration and net, whose path, of two to so many nodes, ends at its sink
unfoldable pub frame_follows : (most iteration net : ℕ) → List ℕ → Bool
frame_follows most iteration net ws =
    both (whole_record ws)
    (both (leb 2 (get_or ws 5 0))
    (both (leb (get_or ws 5 0) most)
    (both (eqb (get_or ws 0 0) iteration)
    (both (eqb (get_or ws 1 0) net)
    (ends_at (get_or ws 2 0) (record_path ws))))))

-- the words begin with a turn that follows, by one pass over its path
unfoldable pub turn_passes : Block → (ℕ → ℕ) → (goals marks : List ℕ) → (iteration net : ℕ) → List ℕ → Bool
turn_passes b price goals marks iteration net ws =
    both (frame_follows (nodes b) iteration net ws) (cost_is ws (pass_cost b price goals marks (record_path ws)))

-- what a turn costs, where that is asked for
unfoldable pub least_asked : Bool → Turn → ℕ
least_asked asked t = choose asked (cost_of t) far
