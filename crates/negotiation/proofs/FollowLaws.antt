-- One record that follows the job: what its test says, clause by clause, and that its words are the log's.
-- Assumes nothing.
use mathlib.Core.Bool.{Bool, true, false, not}
use mathlib.Core.List.{List, [], ◌∷◌}
use mathlib.Core.Path.{◌≡◌, refl, sym, ◌∙◌, ap}
use Prim.Native.Nat.{ℕ, ◌+◌, ◌-◌, ◌/◌, ◌%◌, ◌^◌, ◌≤◌}
use native.Mathlib.Omega.{arith}
use lib.Dec.{eqb, leb}
use lib.ListN.{length, get_or, take, drop, length-drop}
use lib.Seq.{length-take-le, take-add}
use borrow.Author.Tests.{eqb-true, eq-eqb, leb-true, not-true}
use Rattle.price.specs.Test.{both}
use Rattle.price.specs.Lists.{every, neighbours, has, distinct}
use Rattle.price.proofs.TestLaws.{true≢false, both_left, both_right}
use Rattle.search.specs.Block.{has_edge}
use Rattle.search.specs.Paths.{path_cost}
use Rattle.job.specs.Job.{Job}
use Rattle.negotiation.specs.Records.{words}
use Rattle.negotiation.specs.Order.{turn_sinks}
use Rattle.negotiation.specs.Machine.{State}
use Rattle.negotiation.specs.Resume.{record_path, record_in, whole_record, unjoined, first_alone, ends_at, no_other, path_follows, cost_follows, turn_price, turn_follows}

-- ---- the path

-- what a path that follows has
pub record PathHolds (j : Job) (i : ℕ) (tree : List ℕ) (sink : ℕ) (path : List ℕ) : Type 0 where
  pub edges : neighbours (has_edge j.block) path ≡ true
  pub once : distinct path ≡ true
  pub begins : has (get_or path 0 0) tree ≡ true
  pub new-nodes : every (λ v. not (has v tree)) (drop 1 path) ≡ true
  pub ends : get_or path (length path - 1) 0 ≡ sink
  pub sink-listed : has sink (turn_sinks j i tree) ≡ true
  pub sink_open : has sink tree ≡ false
  pub alone : no_other (turn_sinks j i tree) tree sink path ≡ true

module _ (j : Job) (i : ℕ) (tree : List ℕ) (sink : ℕ) (path : List ℕ) where
  pub path_holds : path_follows j i tree sink path ≡ true → PathHolds j i tree sink path
  unfolding path_follows first_alone ends_at unjoined
  path_holds f =
      let others : Bool = no_other (turn_sinks j i tree) tree sink path in
      let sinks : Bool = both (unjoined (turn_sinks j i tree) tree sink) others in
      let end : Bool = both (ends_at sink path) sinks in
      let first : Bool = both (first_alone tree path) end in
      let nodes : Bool = both (distinct path) first in
      let with-nodes : nodes ≡ true = both_right (neighbours (has_edge j.block) path) nodes f in
      let with_first : first ≡ true = both_right (distinct path) first with-nodes in
      let with-end : end ≡ true = both_right (first_alone tree path) end with_first in
      let with-sinks : sinks ≡ true = both_right (ends_at sink path) sinks with-end in
      let alone : first_alone tree path ≡ true = both_left (first_alone tree path) end with_first in
      let lacking : unjoined (turn_sinks j i tree) tree sink ≡ true = both_left (unjoined (turn_sinks j i tree) tree sink) others with-sinks in
      record {
        edges = both_left (neighbours (has_edge j.block) path) nodes f;
        once = both_left (distinct path) first with-nodes;
        begins = both_left (has (get_or path 0 0) tree) (every (λ v. not (has v tree)) (drop 1 path)) alone;
        new-nodes = both_right (has (get_or path 0 0) tree) (every (λ v. not (has v tree)) (drop 1 path)) alone;
        ends = eqb-true (get_or path (length path - 1) 0) sink (both_left (ends_at sink path) sinks with-end);
        sink-listed = both_left (has sink (turn_sinks j i tree)) (not (has sink tree)) lacking;
        sink_open = not-true (has sink tree) (both_right (has sink (turn_sinks j i tree)) (not (has sink tree)) lacking);
        alone = both_right (unjoined (turn_sinks j i tree) tree sink) others with-sinks;
      }

  pub path_follows_lem : PathHolds j i tree sink path → path_follows j i tree sink path ≡ true
  unfolding path_follows first_alone ends_at unjoined
  path_follows_lem h =
      rw (h.edges, h.once, h.begins, h.new-nodes, eq-eqb (get_or path (length path - 1) 0) sink h.ends, h.sink-listed, h.sink_open) h.alone

-- it has two nodes at least: its first is in the tree, and the sink, its last, is not
pub path_two : (j : Job) (i : ℕ) (tree : List ℕ) (sink : ℕ) (path : List ℕ) → PathHolds j i tree sink path → 2 ≤ length path
path_two j i tree sink [] h = absurd (true≢false (sym h.begins ∙ ap (λ (x : ℕ). has x tree) h.ends ∙ h.sink_open))
path_two j i tree sink (u ∷ []) h = absurd (true≢false (sym h.begins ∙ ap (λ (x : ℕ). has x tree) h.ends ∙ h.sink_open))
path_two j i tree sink (u ∷ v ∷ rest) h = omega arith

pub first_there :
    (j : Job) (i : ℕ) (tree : List ℕ) (sink : ℕ) (path : List ℕ) → PathHolds j i tree sink path
    → (u : ℕ) × (rest : List ℕ) × (path ≡ u ∷ rest) × (has u tree ≡ true)
first_there j i tree sink [] h = absurd (let two = path_two j i tree sink [] h in omega arith)
first_there j i tree sink (u ∷ rest) h = (u, rest, refl, h.begins)

-- ---- the record

-- what a turn that follows has
pub record Follows (j : Job) (s : State) (i : ℕ) (tree ws : List ℕ) : Type 0 where
  pub is_whole : whole_record ws ≡ true
  pub iteration-is : get_or ws 0 0 ≡ s.iteration
  pub net-is : get_or ws 1 0 ≡ i
  pub path : PathHolds j i tree (get_or ws 2 0) (record_path ws)
  pub cost : cost_follows (turn_price j s i tree) ws ≡ true

module _ (j : Job) (s : State) (i : ℕ) (tree ws : List ℕ) where
  pub follows_of : turn_follows j s i tree ws ≡ true → Follows j s i tree ws
  unfolding turn_follows
  follows_of f =
      let cost : Bool = cost_follows (turn_price j s i tree) ws in
      let path : Bool = path_follows j i tree (get_or ws 2 0) (record_path ws) in
      let net : Bool = both (eqb (get_or ws 1 0) i) (both path cost) in
      let names : Bool = both (eqb (get_or ws 0 0) s.iteration) net in
      let with-names : names ≡ true = both_right (whole_record ws) names f in
      let with-net : net ≡ true = both_right (eqb (get_or ws 0 0) s.iteration) net with-names in
      let with-path : both path cost ≡ true = both_right (eqb (get_or ws 1 0) i) (both path cost) with-net in
      record {
        is_whole = both_left (whole_record ws) names f;
        iteration-is = eqb-true (get_or ws 0 0) s.iteration (both_left (eqb (get_or ws 0 0) s.iteration) net with-names);
        net-is = eqb-true (get_or ws 1 0) i (both_left (eqb (get_or ws 1 0) i) (both path cost) with-net);
        path = path_holds j i tree (get_or ws 2 0) (record_path ws) (both_left path cost with-path);
        cost = both_right path cost with-path;
      }

  pub turn_follows_lem : Follows j s i tree ws → turn_follows j s i tree ws ≡ true
  unfolding turn_follows
  turn_follows_lem f =
      rw (
        f.is_whole,
        eq-eqb (get_or ws 0 0) s.iteration f.iteration-is,
        eq-eqb (get_or ws 1 0) i f.net-is,
        path_follows_lem j i tree (get_or ws 2 0) (record_path ws) f.path,
      )
      f.cost

-- ---- its words

module _ (ws : List ℕ) (w : whole_record ws ≡ true) where
  pub whole_six : 6 ≤ length ws
  unfolding whole_record
  whole_six = leb-true 6 (length ws) (both_left (leb 6 (length ws)) (leb (6 + get_or ws 5 0) (length ws)) w)

  pub whole_long : 6 + get_or ws 5 0 ≤ length ws
  unfolding whole_record
  whole_long = leb-true (6 + get_or ws 5 0) (length ws) (both_right (leb 6 (length ws)) (leb (6 + get_or ws 5 0) (length ws)) w)

  -- its path is as long as it says
  pub path-long : length (record_path ws) ≡ get_or ws 5 0
  path-long =
      let long = length-drop 6 ws in
      let whole = whole_long in
      length-take-le (get_or ws 5 0) (drop 6 ws) (omega arith)

-- the words of the record that follows are the log's
pub words-there :
    (price : ℕ → ℕ) (ws : List ℕ) → whole_record ws ≡ true → cost_follows price ws ≡ true
    → words (record_in price ws) ≡ take (6 + get_or ws 5 0) ws
unfolding cost_follows words
words-there price [] w c = absurd (let h = whole_six [] w in omega arith)
words-there price (a ∷ []) w c = absurd (let h = whole_six (a ∷ []) w in omega arith)
words-there price (a ∷ b ∷ []) w c = absurd (let h = whole_six (a ∷ b ∷ []) w in omega arith)
words-there price (a ∷ b ∷ d ∷ []) w c = absurd (let h = whole_six (a ∷ b ∷ d ∷ []) w in omega arith)
words-there price (a ∷ b ∷ d ∷ e ∷ []) w c = absurd (let h = whole_six (a ∷ b ∷ d ∷ e ∷ []) w in omega arith)
words-there price (a ∷ b ∷ d ∷ e ∷ f ∷ []) w c = absurd (let h = whole_six (a ∷ b ∷ d ∷ e ∷ f ∷ []) w in omega arith)
words-there price (a ∷ b ∷ d ∷ e ∷ f ∷ n ∷ rest) w c =
    let ws : List ℕ = a ∷ b ∷ d ∷ e ∷ f ∷ n ∷ rest in
    let cost : ℕ = path_cost price (take n rest) in
    let long : 6 + n ≤ length ws = whole_long ws w in
    let low : e ≡ cost % 2 ^ 32 = eqb-true e (cost % 2 ^ 32) (both_left (eqb e (cost % 2 ^ 32)) (eqb f (cost / 2 ^ 32)) c) in
    let high : f ≡ cost / 2 ^ 32 = eqb-true f (cost / 2 ^ 32) (both_right (eqb e (cost % 2 ^ 32)) (eqb f (cost / 2 ^ 32)) c) in
    let six : take (6 + n) ws ≡ a ∷ b ∷ d ∷ e ∷ f ∷ n ∷ take n rest = take-add 6 n ws in
    rw (length-take-le n rest (omega arith), ← low, ← high) (sym six)
