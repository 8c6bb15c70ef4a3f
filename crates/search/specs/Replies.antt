-- What the calls of the search answer and leave in the work slice, as the numbers of document 01's table "Numbers for a stopped call".
-- Assumes nothing.
use Rattle.std.specs.Prelude.{Bool, true, false, not, List, [], ◌∷◌, ◌++◌, ℕ, ◌+◌, ◌*◌, ◌-◌, ◌<◌, leb, ltb, eqb, length, get_or, take}
use Rattle.std.specs.Prelude.{drop, replicate, zero, suc, Option, Some, None, Result, Ok, Err}
use Rattle.price.specs.Test.{choose, both}
use Rattle.price.specs.Bounds.{factor_most, others_most, nodes_most, criticality_most, timed_nodes_most}
use Rattle.price.specs.Lists.{every, first_below}
use Rattle.price.specs.Timed.{history_bound}
use Rattle.price.specs.declared.Weighting.{Weighting}
use Rattle.search.specs.Block.{Block, nodes}
use Rattle.search.specs.Tables.{edges_most, faulty_table, delays_sound}
use Rattle.search.specs.Paths.{CheapestPath, NoPath}
use Rattle.search.specs.Distance.{LeastCost, tree_has, distances}
use Rattle.search.specs.Turn.{Congestion, price_at, Turn, joins, stuck, turn}
use Rattle.search.specs.Clamped.{clamped_price}
use Rattle.search.specs.declared.Refusal.{Refusal}
use Rattle.search.specs.declared.Refusal.TheVariants.{BadTable, ShortWork, BadNumber, TooLarge}
use Rattle.search.specs.declared.Joins.{Joins}
use Rattle.search.specs.declared.BadTable as bad

-- "Work memory is enough from 8 × nodes entries."
abbrev pub work_needed : ℕ → ℕ
work_needed n = 8 * n

-- the work slice with these entries at its beginning and 0 up to 8 × nodes; "Entries past what is named stay."
unfoldable pub cleared : ℕ → List ℕ → List ℕ → List ℕ
cleared n first work = first ++ (replicate (work_needed n - length first) 0 ++ drop (work_needed n) work)

-- the list has an entry at this place, and it is at most so much
abbrev pub bounded : ℕ → List ℕ → ℕ → Bool
bounded most xs v = both (ltb v (length xs)) (leb (get_or xs v 0) most)

-- the list has a history at this place, from 1 to so much
abbrev pub history_bounded : ℕ → List ℕ → ℕ → Bool
history_bounded most xs v = both (ltb v (length xs)) (both (leb 1 (get_or xs v 0)) (leb (get_or xs v 0) most))

-- row 13 for a node: its history, others and tree mark are there and within their bounds
unfoldable pub node_sound : Congestion → List ℕ → ℕ → Bool
node_sound c marks v =
    both (history_bounded (history_bound c.weighting) c.histories v) (both (bounded others_most c.others v) (bounded 1 marks v))

-- "the lowest node whose history or others is bad or whose tree mark isn't 0 or 1, or that one of the lists lacks"; the node count where
-- there is none
unfoldable pub bad_node : ℕ → Congestion → List ℕ → ℕ
bad_node n c marks = first_below (λ v. not (node_sound c marks v)) n

-- the numbers of a refusal: "5, table", "6, 8 × nodes" and "13, place"
abbrev pub bad_table : ℕ → List ℕ
bad_table table = 5 ∷ table ∷ []

abbrev pub short_work : ℕ → List ℕ
short_work needed = 6 ∷ needed ∷ []

abbrev pub bad_number : ℕ → List ℕ
bad_number place = 13 ∷ place ∷ []

-- request 2.9: "number 15 with the node count and the limit when a timed job exceeds either"; a timed search "gives 15 with limit 0"
abbrev pub too_large : ℕ → List ℕ
too_large n = 15 ∷ n ∷ 0 ∷ []

-- "A timed job has at most 1,024 nodes"
abbrev pub too_many : Weighting → ℕ → Bool
too_many w n = both w.timed (ltb timed_nodes_most n)

-- a timed turn's criticality is beyond its bound
abbrev pub bad_criticality : Weighting → Bool
bad_criticality w = both w.timed (ltb criticality_most w.criticality)

-- the first refusal that is due, none where nothing is refused, for the faulty table or 0, and so many nodes and work entries:
-- 5, 15 "after 5 in router, resume and search", 6, 13 for a node, "then 13 with the node count for a bad factor"; "a timed search alone
-- gives a bad criticality place nodes + 1"
unfoldable pub refusal_of : ℕ → ℕ → Congestion → List ℕ → ℕ → List ℕ
refusal_of table n c marks work_length =
    choose (leb 1 table) (bad_table table)
    (choose (too_many c.weighting n) (too_large n)
    (choose (ltb work_length (work_needed n)) (short_work (work_needed n))
    (choose (ltb (bad_node n c marks) n) (bad_number (bad_node n c marks))
    (choose (ltb factor_most c.factor) (bad_number n)
    (choose (bad_criticality c.weighting) (bad_number (n + 1)) [])))))

-- ---- the search called alone

-- the refusal's numbers, and the work slice afterwards
pub record SearchReply : Type 0 where
  pub refusal : List ℕ
  pub work : List ℕ

-- 01's numbers for each refusal
abbrev pub refusal_numbers : Refusal → List ℕ
refusal_numbers (BadTable table) = bad_table table
refusal_numbers (ShortWork needed) = short_work needed
refusal_numbers (BadNumber place) = bad_number place
refusal_numbers (TooLarge n) = too_large n

-- 01's numbers for each case of the answer
abbrev pub search_refusal : Result (Unit {0}) Refusal → List ℕ
search_refusal (Ok _) = []
search_refusal (Err refusal) = refusal_numbers refusal

-- the distances unless something is refused; a refusal leaves the work slice as it was
abbrev pub search_unless_refused : List ℕ → List ℕ → List ℕ → SearchReply
search_unless_refused [] done work = record { refusal = []; work = done }
search_unless_refused (k ∷ ks) done work = record { refusal = k ∷ ks; work = work }

-- "Otherwise the first nodes entries of the work slice hold the distances .. and the next 7 × nodes hold 0."
unfoldable pub search_reply : Block → Congestion → List ℕ → List ℕ → SearchReply
search_reply b c marks work =
    search_unless_refused (refusal_of (faulty_table b) (nodes b) c marks (length work))
    (cleared (nodes b) (distances b (price_at b c) marks) work)
    work

-- 9 for bad delays in a timed turn, else 0
abbrev pub faulty_delays : Weighting → ℕ → List ℕ → ℕ
faulty_delays w n delays = choose (both w.timed (not (delays_sound n delays))) 9 0

-- the lowest of tables 1 to 4 that breaks its rule, in a timed search else 9 for bad delays, 0 where all is sound: "In timed jobs alone 4
-- and 5 cover both."
unfoldable pub faulty_with_delays : Block → Congestion → ℕ
faulty_with_delays b c = choose (leb 1 (faulty_table b)) (faulty_table b) (faulty_delays c.weighting (nodes b) c.delays)

-- the same search in a timed job, for a sink of one criticality
unfoldable pub timed_search_reply : Block → Congestion → List ℕ → List ℕ → SearchReply
timed_search_reply b c marks work =
    search_unless_refused (refusal_of (faulty_with_delays b c) (nodes b) c marks (length work))
    (cleared (nodes b) (distances b (price_at b c) marks) work)
    work

-- the answer with the work slice at the call's end
abbrev pub search_reply_of : Result (Unit {0}) Refusal → List ℕ → SearchReply
search_reply_of r work = record { refusal = search_refusal r; work = work }

-- the same in terms of paths alone: a search that isn't refused leaves for each node the least cost of a path from the tree
abbrev pub LeavesLeastCosts : Block → (ℕ → ℕ) → List ℕ → Result (Unit {0}) Refusal → List ℕ → Type 0
LeavesLeastCosts b price marks (Ok _) work = (v : ℕ) → v < nodes b → LeastCost b price (tree_has marks) v (get_or work v 0)
LeavesLeastCosts b price marks (Err _) work = Unit {0}

-- ---- the cheapest path of one turn

-- "at most 4,096"
abbrev pub sinks_most : ℕ
sinks_most = 4096

-- a list of sinks is short enough and each is a node
unfoldable pub sink_list_sound : ℕ → List ℕ → Bool
sink_list_sound n sinks = both (leb (length sinks) sinks_most) (every (λ s. ltb s n) sinks)

-- the lowest of tables 1 to 4 that breaks its rule, else 7 for a bad list of sinks, else 9 for bad delays in a timed job, 0 where all is
-- sound
unfoldable pub faulty_with_sinks : Block → Congestion → List ℕ → ℕ
faulty_with_sinks b c sinks =
    choose (leb 1 (faulty_table b)) (faulty_table b) (choose (sink_list_sound (nodes b) sinks) (faulty_with_delays b c) 7)

-- the refusal's numbers; place, cost and path length of the joined sink, none where there is none; and the work slice afterwards
pub record PathReply : Type 0 where
  pub refusal : List ℕ
  pub joined : List ℕ
  pub work : List ℕ

abbrev pub turn_numbers : Turn → List ℕ
turn_numbers (joins place cost path) = place ∷ cost ∷ length path ∷ []
turn_numbers stuck = []

abbrev pub turn_path : Turn → List ℕ
turn_path (joins place cost path) = path
turn_path stuck = []

-- the path stands at the beginning of the work slice, from tree to sink; the rest of its first 3 × nodes entries hold 0, and those past
-- them stay
unfoldable pub read_off : ℕ → List ℕ → List ℕ → List ℕ
read_off n path work = path ++ (replicate (3 * n - length path) 0 ++ drop (3 * n) work)

abbrev pub turn_reply : ℕ → List ℕ → Turn → PathReply
turn_reply n work t = record { refusal = []; joined = turn_numbers t; work = read_off n (turn_path t) work }

-- in a timed job: few enough nodes, and a delay for each
abbrev pub timed_fitting : Bool → ℕ → ℕ → Bool
timed_fitting false n delays = true
timed_fitting true n delays = both (leb n timed_nodes_most) (leb n delays)

-- every list has the length that its rule asks: tables 1 to 4, the work slice, the lists of the nodes, and the sinks
unfoldable pub fitting_lengths : ℕ → ℕ → ℕ → ℕ → ℕ → ℕ → ℕ → ℕ → ℕ → Bool
fitting_lengths n capacities first_edges edge_targets work histories others marks sinks =
    both (leb 1 n)
    (both (leb n nodes_most)
    (both (eqb capacities n)
    (both (eqb first_edges (n + 1))
    (both (leb edge_targets edges_most)
    (both (leb (work_needed n) work)
    (both (leb n histories)
    (both (leb n others)
    (both (leb n marks) (leb sinks sinks_most)))))))))

-- the same of the lists themselves, without the delays and with them
abbrev pub lengths_fitting : Block → Congestion → List ℕ → List ℕ → List ℕ → Bool
lengths_fitting b c marks sinks work =
    fitting_lengths (nodes b) (length b.capacities) (length b.first_edges) (length b.edge_targets) (length work)
    (length c.histories) (length c.others) (length marks) (length sinks)

abbrev pub fitting : Block → Congestion → List ℕ → List ℕ → List ℕ → Bool
fitting b c marks sinks work =
    both (lengths_fitting b c marks sinks work) (timed_fitting c.weighting.timed (nodes b) (length c.delays))

-- what the search and the rule of the sinks refuse; none where they refuse nothing
abbrev pub path_due : Block → Congestion → List ℕ → List ℕ → List ℕ → List ℕ
path_due b c marks sinks work = refusal_of (faulty_with_sinks b c sinks) (nodes b) c marks (length work)

-- Where every length is right, the turn, whatever the entries are: a number that prices a node is read within its bounds, a target or a
-- sink that is no node is passed over, a row ends where table 4 does, and a node is in the tree where its mark is 1. Where a length is
-- wrong, what is due; then something is.
unfoldable pub path_reply : Block → Congestion → List ℕ → List ℕ → List ℕ → PathReply
path_reply b c marks sinks work =
    choose (fitting b c marks sinks work)
    (turn_reply (nodes b) work (turn b (clamped_price b.kinds b.capacities c) marks sinks))
    (record { refusal = path_due b c marks sinks work; joined = []; work = work })

-- 01's numbers for each case of the answer
abbrev pub path_refusal : Result (Option Joins) Refusal → List ℕ
path_refusal (Ok _) = []
path_refusal (Err refusal) = refusal_numbers refusal

abbrev pub path_numbers : Result (Option Joins) Refusal → List ℕ
path_numbers (Ok (Some j)) = j.place ∷ j.cost ∷ j.length ∷ []
path_numbers (Ok None) = []
path_numbers (Err _) = []

-- the answer with the work slice at the call's end
abbrev pub path_reply_of : Result (Option Joins) Refusal → List ℕ → PathReply
path_reply_of r work = record { refusal = path_refusal r; joined = path_numbers r; work = work }

-- the same in terms of paths alone: a sink that is joined is joined by a cheapest path, which stands at the beginning of the work slice;
-- where the turn is stuck there is no path
abbrev pub JoinsCheapest : Block → (ℕ → ℕ) → List ℕ → List ℕ → Result (Option Joins) Refusal → List ℕ → Type 0
JoinsCheapest b price marks sinks (Ok (Some j)) work =
    CheapestPath b price (tree_has marks) sinks (get_or sinks j.place 0) j.cost (take j.length work)
JoinsCheapest b price marks sinks (Ok None) work = NoPath b (tree_has marks) sinks
JoinsCheapest b price marks sinks (Err _) work = Unit {0}

-- a test of tables as a result: the lowest table that breaks its rule is refused, 0 stands for none
abbrev pub tested : ℕ → Result (Unit {0}) bad.BadTable
tested zero = Ok tt
tested (suc table) = Err (record { table = suc table })
