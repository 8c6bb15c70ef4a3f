-- What the private functions of the router do to its lists. Only their contracts cite this file: no caller has to believe it.
-- Assumes nothing.
use Rattle.std.specs.Prelude.{Option, Some, None, Result, Ok, Err}
use Rattle.std.specs.Prelude.{Bool, true, not, List, [], ◌∷◌, ◌++◌, ◌≡◌, ℕ, ◌+◌, ◌*◌, ◌-◌, ◌^◌, ◌≤◌, ◌<◌, eqb, ltb, length, get_or}
use Rattle.std.specs.Prelude.{take, drop, set}
use Rattle.std.proofs.Math.Seq.{slice}
use Rattle.price.specs.Test.{choose, both, either}
use Rattle.price.specs.Lists.{every, has}
use Rattle.price.specs.Bounds.{factor_most}
use Rattle.search.specs.Block as block
use Rattle.search.specs.Block.{Block}
use Rattle.search.specs.Tables.{Sound}
use Rattle.search.specs.Turn.{Congestion, price_at, Turn, joins, stuck}
use Rattle.search.specs.Aimed.{weight_at, expanded}
use Rattle.search.specs.ByTarget.{ListsBack}
use Rattle.search.specs.Replies.{node_sound, sink_list_sound}
use Rattle.search.specs.Priceable.{Weighable}
use Rattle.search.specs.declared.Joins.{Joins}
use Rattle.search.specs.declared.Back.{Back}
use Rattle.search.specs.Block.{back_in}
use Rattle.job.specs.Job.{Job, nets}
use Rattle.negotiation.specs.Outcome.{unreachable_net, unreachable_place}
use Rattle.negotiation.specs.TariffSteps.{logged_tariff}
use Rattle.negotiation.specs.declared.tariff.Tariff.{Tariff}
use Rattle.negotiation.specs.declared.turns.NoRoom.{NoRoom}
use Rattle.negotiation.specs.declared.reach.Missing.{Missing}
use Rattle.negotiation.specs.Records.{record_of, words, encode, decode, path_nodes}
use Rattle.job.specs.Steps.{AllBelow, Stored}

-- each of these nodes that was not marked has one user less, and all are marked
pub record Dropped (n : ℕ) (xs users marks users' marks' : List ℕ) : Type 0 where
  pub users-long : length users' ≡ length users
  pub marks_set : Stored 1 xs marks marks'
  pub users-at : (v : ℕ) → v < n → get_or users' v 0 ≡ get_or users v 0 - choose (both (has v xs) (eqb (get_or marks v 0) 0)) 1 0

-- each of these nodes that was marked has one user more, and none is marked
pub record UsersAdded (n : ℕ) (xs users marks users' marks' : List ℕ) : Type 0 where
  pub users-long : length users' ≡ length users
  pub marks_cleared : Stored 0 xs marks marks'
  pub users-at : (v : ℕ) → v < n → get_or users' v 0 ≡ get_or users v 0 + choose (both (has v xs) (eqb (get_or marks v 0) 1)) 1 0

-- nodes that are not marked have a user, so that one can go
abbrev pub CanDrop : ℕ → List ℕ → List ℕ → List ℕ → Type 0
CanDrop n xs users marks = (v : ℕ) → v < n → has v xs ≡ true → get_or marks v 0 ≡ 0 → 1 ≤ get_or users v 0

-- what the code counts users in: 16 bits
abbrev pub users_most : ℕ
users_most = 65535

-- marked nodes have room for one user more
abbrev pub CanAddMarked : ℕ → List ℕ → List ℕ → Type 0
CanAddMarked n users marks = (v : ℕ) → v < n → get_or marks v 0 ≡ 1 → get_or users v 0 < users_most

-- the words are whole records, and their nodes are nodes
pub record Whole (n : ℕ) (ws : List ℕ) : Type 0 where
  pub whole : encode (decode ws) ≡ ws
  pub nodes-below : AllBelow n (path_nodes (decode ws))

-- entries from a place on stay
pub record SameFrom (lo : ℕ) (old new : List ℕ) : Type 0 where
  pub long : length new ≡ length old
  pub high : (k : ℕ) → lo ≤ k → get_or new k 0 ≡ get_or old k 0

-- a turn is not refused: tables and numbers keep their rules, and there is work memory
pub record TurnReady (b : Block) (c : Congestion) (marks work : List ℕ) : Type 0 where
  pub sound : Sound b
  pub enough : 8 * block.nodes b ≤ length work
  pub numbers : (v : ℕ) → v < block.nodes b → node_sound c marks v ≡ true
  pub factor_most_lem : c.factor ≤ factor_most
  pub weighable : c.weighting.timed ≡ true → Weighable (block.nodes b) c

-- the answer of the test before iteration 1: net and place of the first sink without a path, none where every sink has one
abbrev pub missing : Job → List ℕ
missing j = choose (ltb (unreachable_net j) (nets j)) (unreachable_net j ∷ unreachable_place j ∷ []) []

abbrev pub reach_numbers : Option Missing → List ℕ
reach_numbers None = []
reach_numbers (Some m) = m.net ∷ m.place ∷ []

-- ---- a net's old and new tree

-- no node is marked
abbrev pub NoMarks : ℕ → List ℕ → Type 0
NoMarks n marks = (v : ℕ) → v < n → get_or marks v 0 ≡ 0

-- a net's tree stands in the log between two places, and each node of it has a user
pub record RipReady (n from to : ℕ) (log users marks : List ℕ) : Type 0 where
  pub users-long : length users ≡ n
  pub marks_long : length marks ≡ n
  pub order : from ≤ to
  pub within : to ≤ length log
  pub whole : Whole n (slice from to log)
  pub no_marks : NoMarks n marks
  pub used : (v : ℕ) → v < n → has v (path_nodes (decode (slice from to log))) ≡ true → 1 ≤ get_or users v 0

-- each node of the old tree has one user less
pub record RippedUp (n : ℕ) (tree users marks users' marks' : List ℕ) : Type 0 where
  pub users-long : length users' ≡ length users
  pub marks_long : length marks' ≡ length marks
  pub no_marks : NoMarks n marks'
  pub users-at : (v : ℕ) → v < n → get_or users' v 0 ≡ get_or users v 0 - choose (has v tree) 1 0

-- the nodes of the records between two places are marked, and there is room for one user more
pub record CountReady (n from to : ℕ) (log users marks : List ℕ) : Type 0 where
  pub users-long : length users ≡ n
  pub marks_long : length marks ≡ n
  pub order : from ≤ to
  pub within : to ≤ length log
  pub whole : Whole n (slice from to log)
  pub marked : (v : ℕ) → v < n → get_or marks v 0 ≡ choose (has v (path_nodes (decode (slice from to log)))) 1 0
  pub room : (v : ℕ) → v < n → get_or users v 0 < users_most

-- each node of the tree has one user more
pub record TreeCounted (n : ℕ) (tree users marks users' marks' : List ℕ) : Type 0 where
  pub users-long : length users' ≡ length users
  pub marks_long : length marks' ≡ length marks
  pub no_marks : NoMarks n marks'
  pub users-at : (v : ℕ) → v < n → get_or users' v 0 ≡ get_or users v 0 + choose (has v tree) 1 0

-- ---- the nets that an iteration takes

-- a node has no more users than its capacity
abbrev pub roomy : (capacities users : List ℕ) → ℕ → Bool
roomy capacities users v = not (ltb (get_or capacities v 0) (get_or users v 0))

-- one of these nodes has more
unfoldable pub some_over : (capacities users vs : List ℕ) → Bool
some_over capacities users vs = not (every (roomy capacities users) vs)

-- net k has sinks, and all such nets are due, or a node of its records in the log is overfull
abbrev pub takes : (all : Bool) (capacities first_sinks log from to users : List ℕ) → ℕ → Bool
takes all capacities first_sinks log from to users k =
    both (ltb (get_or first_sinks k 0) (get_or first_sinks (k + 1) 0))
    (either all (some_over capacities users (path_nodes (decode (slice (get_or from k 0) (get_or to k 0) log)))))

-- every net has its place in each list, and its tree stands in the log
pub record DueReady (capacities first_sinks log from to users : List ℕ) : Type 0 where
  pub capacities-long : length capacities ≡ length users
  pub firsts-long : length first_sinks ≡ length from + 1
  pub to-long : length to ≡ length from
  pub order : (k : ℕ) → k < length from → get_or from k 0 ≤ get_or to k 0
  pub within : (k : ℕ) → k < length from → get_or to k 0 ≤ length log
  pub whole : (k : ℕ) → k < length from → Whole (length users) (slice (get_or from k 0) (get_or to k 0) log)

-- ---- a net in an iteration

-- net i has its place in each list, and its tree stands in the log
pub record BeginReady (log sources first_sinks : List ℕ) (i : ℕ) (dues from to users marks : List ℕ) : Type 0 where
  pub source-listed : i < length sources
  pub source-node : get_or sources i 0 < length marks
  pub sinks-listed : i + 1 < length first_sinks
  pub sinks-order : get_or first_sinks i 0 ≤ get_or first_sinks (i + 1) 0
  pub due-listed : i < length dues
  pub from_listed : i < length from
  pub to-listed : i < length to
  pub old : RipReady (length marks) (get_or from i 0) (get_or to i 0) log users marks

-- a net that is due has dropped its old tree, and its source is marked
pub record Begun (log sources first_sinks : List ℕ) (i : ℕ) (from to users marks : List ℕ) (left : ℕ) (users' marks' : List ℕ)
    : Type 0 where
  pub left_is : left ≡ get_or first_sinks (i + 1) 0 - get_or first_sinks i 0
  pub bare : List ℕ
  pub ripped : RippedUp (length marks) (path_nodes (decode (slice (get_or from i 0) (get_or to i 0) log))) users marks users' bare
  pub marks_is : marks' ≡ set bare (get_or sources i 0) 1

-- a net that is not due leaves all as it is
pub record Idle (left : ℕ) (users marks users' marks' : List ℕ) : Type 0 where
  pub none_left : left ≡ 0
  pub users-same : users' ≡ users
  pub marks_same : marks' ≡ marks

-- net i has its place in each list; if it is due, its new tree can be counted
pub record EndReady (log : List ℕ) (i first until : ℕ) (dues users marks from to : List ℕ) : Type 0 where
  pub due-listed : i < length dues
  pub from_listed : i < length from
  pub to-listed : i < length to
  pub countable : (get_or dues i 0 ≡ 0 → ⊥) → CountReady (length marks) first until log users marks

-- a net that is due counts its new tree, and keeps where it stands
pub record Ended (log : List ℕ) (i first until : ℕ) (users marks from to users' marks' from' to' : List ℕ) : Type 0 where
  pub counted : TreeCounted (length marks) (path_nodes (decode (slice first until log))) users marks users' marks'
  pub from_is : from' ≡ set from i first
  pub to_is : to' ≡ set to i until

-- one that is not leaves all as it is
pub record Passed (users marks from to users' marks' from' to' : List ℕ) : Type 0 where
  pub users-same : users' ≡ users
  pub marks_same : marks' ≡ marks
  pub from_same : from' ≡ from
  pub to_same : to' ≡ to

-- ---- one turn

-- no turn was made
pub record Skipped (t : Turn) (log marks log' marks' : List ℕ) : Type 0 where
  pub is_stuck : t ≡ stuck
  pub log-same : log' ≡ log
  pub marks_same : marks' ≡ marks

-- the next record does not fit
pub record Overflows (t : Turn) (tariff : Tariff) (log log' : List ℕ) : Type 0 where
  pub place : ℕ
  pub cost : ℕ
  pub path : List ℕ
  pub is-turn : t ≡ joins place cost path
  pub no_room : length log < tariff.words + (6 + length path)
  pub log-same : log' ≡ log

-- the turn is logged, with the nodes that it expanded, and its path is marked
pub record TurnLogged (t : Turn) (expanded : ℕ) (tariff : Tariff) (net : ℕ) (sinks log marks : List ℕ) (tariff' : Tariff)
    (log' marks' : List ℕ) : Type 0 where
  pub place : ℕ
  pub cost : ℕ
  pub path : List ℕ
  pub is-turn : t ≡ joins place cost path
  pub room : tariff.words + (6 + length path) ≤ length log
  pub log_is :
      log'
      ≡ take tariff.words log
      ++ (words (record_of tariff.iteration net (get_or sinks place 0) cost path) ++ drop (tariff.words + (6 + length path)) log)
  pub marks_set : Stored 1 path marks marks'
  pub tariff_is : tariff' ≡ logged_tariff tariff (6 + length path) expanded

-- what a turn did, by cases
abbrev pub TurnDone :
    (r : Result (Option Tariff) NoRoom) (t : Turn) (expanded : ℕ) (tariff : Tariff) (net : ℕ) (sinks log marks log' marks' : List ℕ)
    → Type 0
TurnDone (Ok None) t expanded tariff net sinks log marks log' marks' = Skipped t log marks log' marks'
TurnDone (Err full) t expanded tariff net sinks log marks log' marks' = Overflows t tariff log log'
TurnDone (Ok (Some tariff')) t expanded tariff net sinks log marks log' marks' =
    TurnLogged t expanded tariff net sinks log marks tariff' log' marks'

-- what the search answers where nothing is refused: the turn, whose path stands at the beginning of the work slice; past 8 × nodes entries
-- that stays
abbrev pub PathFound : (n : ℕ) (t : Turn) (work : List ℕ) (r : Option Joins) (work' : List ℕ) → Type 0
PathFound n t work (Some j) work' =
    (t ≡ joins j.place j.cost (take j.length work')) × (length (take j.length work') ≡ j.length) × SameFrom (8 * n) work work'
PathFound n t work None work' = (t ≡ stuck) × SameFrom (8 * n) work work'

-- how many nodes a turn expands by the search that is chosen: none are counted with the plain one
abbrev pub turn_count : Bool → Block → Congestion → (marks sinks : List ℕ) → ℕ
turn_count aimed b c marks sinks = choose aimed (expanded b (price_at b c) (weight_at b c.weighting) marks sinks) 0

-- a turn can be made: nothing is refused, the words written are within the log, and no count overflows
pub record CanTurn (b : Block) (c : Congestion) (tariff : Tariff) (sinks marks work log : List ℕ) : Type 0 where
  pub ready : TurnReady b c marks work
  pub marks_long : length marks ≡ block.nodes b
  pub sinks_sound_lem : sink_list_sound (block.nodes b) sinks ≡ true
  pub within : tariff.words ≤ length log
  pub few-turns : tariff.turns ≤ tariff.words
  pub few-expanded : tariff.expanded + block.nodes b < 2 ^ 64

-- a search that aims is lent the block's edges by their target; the other one needs none
abbrev pub BackLent : Bool → Block → Back → Type 0
BackLent aimed b back = aimed ≡ true → ListsBack b (back_in b.kinds back)
