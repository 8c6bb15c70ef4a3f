-- The N lines: what one gives by its numbers, and what holds between two of them.
--     node-other, -shape, -beyond, -wrong, -taken   an N line
--     NodesRead                                 between two N lines
-- Assumes nothing.
use mathlib.Core.Bool.{Bool, true, false}
use mathlib.Core.List.{List, [], ◌∷◌, ◌++◌}
use mathlib.Core.Path.{◌≡◌, refl, sym, ◌∙◌, ap, subst}
use Prim.Native.Nat.{ℕ, suc, ◌+◌, ◌-◌, ◌≤◌, ◌<◌}
use native.Mathlib.Numerals.{add-one}
use native.Mathlib.Omega.{arith}
use lib.Dec.{eqb}
use lib.ListN.{length, get_or, take, drop, set, length-set}
use lib.Seq.{length-take-le, take-suc-set}
use borrow.Author.Tests.{lt-ltb, le-ltb, le-leb, lt-leb, eq-eqb, ne_eqb}
use Rattle.price.specs.Test.{choose}
use Rattle.text.specs.Lines.{letter_n, taken, line}
use Rattle.text.specs.JobText.{values, refused, node_within, node_line, taking, part, stopped, onward, node_lists, with_node, node_lines}
use Rattle.text.specs.Steps.{row, After, fields_at, four_of, node_at, NodePlace}
use Rattle.std.specs.Prelude.{Option}
use Rattle.std.specs.Prelude.{Some, None}
use Rattle.std.specs.Prelude.{Result}
use Rattle.std.specs.Prelude.{Ok, Err}
use Rattle.text.specs.declared.fields.LineFields.{LineFields}
use Rattle.text.specs.declared.place.LineFault.{LineFault}
use Rattle.text.specs.declared.nodes.Node.{Node}
use Rattle.text.proofs.JudgedLaws.{line-malformed, line_taken, judged-beyond, judged_wrong, judged-taken, onward-taking}

-- ---- an N line

module _ (n a b c d : ℕ) where
  pub node-beyond-count : n ≤ a → node_within n (a ∷ b ∷ c ∷ d ∷ []) ≡ false
  unfolding node_within
  node-beyond-count l = rw (le-ltb a n l)

  module _ (l : a < n) where
    pub node-beyond_kind : 53 < b → node_within n (a ∷ b ∷ c ∷ d ∷ []) ≡ false
    unfolding node_within
    node-beyond_kind k = rw (lt-ltb a n l, lt-leb b 53 k)

    module _ (k : b ≤ 53) where
      pub node-beyond-least : c < 1 → node_within n (a ∷ b ∷ c ∷ d ∷ []) ≡ false
      unfolding node_within
      node-beyond-least m = rw (lt-ltb a n l, le-leb b 53 k, lt-leb 1 c m)

      module _ (m : 1 ≤ c) where
        pub node-beyond-most : 255 < c → node_within n (a ∷ b ∷ c ∷ d ∷ []) ≡ false
        unfolding node_within
        node-beyond-most t = rw (lt-ltb a n l, le-leb b 53 k, le-leb 1 c m, lt-leb c 255 t)

        pub node-beyond_delay : c ≤ 255 → 1000 < d → node_within n (a ∷ b ∷ c ∷ d ∷ []) ≡ false
        unfolding node_within
        node-beyond_delay t s = rw (lt-ltb a n l, le-leb b 53 k, le-leb 1 c m, le-leb c 255 t, lt-leb d 1000 s)

        pub node_within_lem : c ≤ 255 → d ≤ 1000 → node_within n (a ∷ b ∷ c ∷ d ∷ []) ≡ true
        unfolding node_within
        node_within_lem t s = rw (lt-ltb a n l, le-leb b 53 k, le-leb 1 c m, le-leb c 255 t, le-leb d 1000 s)

-- a line has four numbers or three; the fourth counts as 0 where it is missing
pub node-numbers : (timed : Bool) → choose timed 4 3 ≤ 4
node-numbers true = omega arith
node-numbers false = omega arith

numbers_four : (timed : Bool) (a b c d : ℕ) → four_of (take (choose timed 4 3) (a ∷ b ∷ c ∷ d ∷ [])) ≡ a ∷ b ∷ c ∷ choose timed d 0 ∷ []
numbers_four true a b c d = refl
numbers_four false a b c d = refl

module _
    (timed : Bool) (n v at : ℕ) (text : List ℕ) {count : ℕ} {r : Option LineFields} (numbers : count ≡ choose timed 4 3)
    (read : fields_at count text r ≡ line letter_n count (drop at text)) where
  pub node_shape : r ≡ None → refused 1 ≡ taking four_of (node_line timed n v (drop at text))
  unfolding node_line
  node_shape e = rw (← numbers, line-malformed count text read e)

  module _ {l : LineFields} {delay : ℕ} (e : r ≡ Some l) (weighed : delay ≡ choose timed l.fourth 0) where
    shape : line letter_n (choose timed 4 3) (drop at text) ≡ taken (take (choose timed 4 3) (l.first ∷ l.second ∷ l.third ∷ l.fourth ∷ [])) (drop l.next text)
    shape = rw (← numbers) (line_taken count text read e)

    four : four_of (take (choose timed 4 3) (l.first ∷ l.second ∷ l.third ∷ l.fourth ∷ [])) ≡ l.first ∷ l.second ∷ l.third ∷ delay ∷ []
    four = rw weighed (numbers_four timed l.first l.second l.third l.fourth)

    within : node_within n (take (choose timed 4 3) (l.first ∷ l.second ∷ l.third ∷ l.fourth ∷ [])) ≡ node_within n (l.first ∷ l.second ∷ l.third ∷ delay ∷ [])
    unfolding node_within
    within = ap (node_within n) four

    first : get_or (take (choose timed 4 3) (l.first ∷ l.second ∷ l.third ∷ l.fourth ∷ [])) 0 0 ≡ l.first
    first = ap (λ (vs : List ℕ). get_or vs 0 0) four

    pub node-beyond : node_within n (l.first ∷ l.second ∷ l.third ∷ delay ∷ []) ≡ false → refused 2 ≡ taking four_of (node_line timed n v (drop at text))
    unfolding node_line
    node-beyond w = sym (ap (taking four_of) (judged-beyond (node_within n) (λ vs. eqb (get_or vs 0 0) v) shape (within ∙ w)))

    pub node_wrong : node_within n (l.first ∷ l.second ∷ l.third ∷ delay ∷ []) ≡ true → (l.first ≡ v → ⊥) → refused 3 ≡ taking four_of (node_line timed n v (drop at text))
    unfolding node_line
    node_wrong w o = sym (ap (taking four_of) (judged_wrong (node_within n) (λ vs. eqb (get_or vs 0 0) v) shape (within ∙ w) (rw first (ne_eqb l.first v o))))

    pub node-taken :
        node_within n (l.first ∷ l.second ∷ l.third ∷ delay ∷ []) ≡ true → l.first ≡ v
        → values (v ∷ l.second ∷ l.third ∷ delay ∷ []) (drop l.next text) ≡ taking four_of (node_line timed n v (drop at text))
    unfolding node_line
    node-taken w o =
        ap (λ (x : ℕ). values (x ∷ l.second ∷ l.third ∷ delay ∷ []) (drop l.next text)) (sym o)
        ∙ ap (λ (vs : List ℕ). values vs (drop l.next text)) (sym four)
        ∙ sym (ap (taking four_of) (judged-taken (node_within n) (λ vs. eqb (get_or vs 0 0) v) shape (within ∙ w) (rw first (eq-eqb l.first v o))))

-- ---- between two N lines

-- a line that is read, and one that is refused
module _ (timed : Bool) (n k v line : ℕ) (kinds capacities delays bs : List ℕ) (long : length kinds ≡ v) where
  lines_are :
      node_lines timed n (suc k) (node_lists kinds capacities delays) line bs
      ≡ onward (taking four_of (node_line timed n v bs)) line (λ vs rest. node_lines timed n k (with_node (node_lists kinds capacities delays) vs) (line + 1) rest)
  unfolding node_lines
  lines_are =
      rw (← long)
      (sym (onward-taking four_of (node_line timed n (length kinds) bs) line (λ vs rest. node_lines timed n k (with_node (node_lists kinds capacities delays) vs) (line + 1) rest)))

  node_step :
      {a b c d : ℕ} {rest : List ℕ} → values (a ∷ b ∷ c ∷ d ∷ []) rest ≡ taking four_of (node_line timed n v bs)
      → node_lines timed n (suc k) (node_lists kinds capacities delays) line bs
      ≡ node_lines timed n k (node_lists (kinds ++ (b ∷ [])) (capacities ++ (c ∷ [])) (delays ++ (d ∷ []))) (line + 1) rest
  node_step e = lines_are ∙ rw (← e)

  node_stop : {m : ℕ} → refused m ≡ taking four_of (node_line timed n v bs) → node_lines timed n (suc k) (node_lists kinds capacities delays) line bs ≡ stopped m line
  node_stop e = lines_are ∙ rw (← e)

-- the nodes below v are in the tables, and the next line is at this place
pub record NodesRead (timed : Bool) (text : List ℕ) (from first nodes : ℕ) (kinds₀ capacities₀ delays₀ kinds capacities delays : List ℕ) (at line v : ℕ) : Type 0 where
  pub read : v ≤ nodes
  pub kinds-same : length kinds ≡ length kinds₀
  pub capacities-same : length capacities ≡ length capacities₀
  pub delays-same : length delays ≡ length delays₀
  pub at_most : at ≤ length text
  pub line-most : line ≤ at + 1
  pub rest_is :
      node_lines timed nodes nodes (node_lists [] [] []) first (drop from text)
      ≡ node_lines timed nodes (nodes - v) (node_lists (take v kinds) (take v capacities) (take v delays)) line (drop at text)

pub nodes-none :
    (timed : Bool) (text : List ℕ) (from first nodes : ℕ) (kinds capacities delays : List ℕ) → from ≤ length text → first ≤ from + 1
    → NodesRead timed text from first nodes kinds capacities delays kinds capacities delays from first 0
nodes-none timed text from first nodes kinds capacities delays a l =
    let all : nodes - 0 ≡ nodes = omega arith in
    record { read = omega arith; kinds-same = refl; capacities-same = refl; delays-same = refl; at_most = a; line-most = l; rest_is = rw all }

module _
    {timed : Bool} {text : List ℕ} {from first nodes : ℕ} {kinds₀ capacities₀ delays₀ kinds capacities delays : List ℕ} {at line v : ℕ}
    (room : (nodes ≤ length kinds₀) × (nodes ≤ length capacities₀) × (nodes ≤ length delays₀))
    (s : NodesRead timed text from first nodes kinds₀ capacities₀ delays₀ kinds capacities delays at line v) where
  module _ (l : v < nodes) where
    kinds_read : length (take v kinds) ≡ v
    kinds_read = length-take-le v kinds (omega (arith, s.kinds-same, room.0))

    left : nodes - v ≡ suc (nodes - (v + 1))
    left = omega arith

    pub nodes-more :
        {r : Result Node LineFault} {n : Node} → r ≡ Ok n → node_at v text r ≡ taking four_of (node_line timed nodes v (drop at text)) → NodePlace at text r
        → NodesRead timed text from first nodes kinds₀ capacities₀ delays₀ (set kinds v n.kind) (set capacities v n.capacity) (set delays v n.delay) n.next (line + 1) (v + 1)
    nodes-more {r} {n} e answered p =
        let place : After (at + 1) text n.next = subst (λ (x : Result Node LineFault). NodePlace at text x) e p in
        record {
          read = omega arith;
          kinds-same = length-set kinds v n.kind ∙ s.kinds-same;
          capacities-same = length-set capacities v n.capacity ∙ s.capacities-same;
          delays-same = length-set delays v n.delay ∙ s.delays-same;
          at_most = place.1;
          line-most = omega (arith, s.line-most, place.0);
          rest_is =
              s.rest_is
              ∙ rw (left, add-one v, take-suc-set kinds v n.kind (omega (arith, s.kinds-same, room.0)), take-suc-set capacities v n.capacity (omega (arith, s.capacities-same, room.1)), take-suc-set delays v n.delay (omega (arith, s.delays-same, room.2)))
              (node_step timed nodes (nodes - suc v) v line (take v kinds) (take v capacities) (take v delays) (drop at text) kinds_read (sym (ap (node_at v text) e) ∙ answered));
        }

    pub nodes_stop :
        {r : Result Node LineFault} {k : LineFault} → r ≡ Err k → node_at v text r ≡ taking four_of (node_line timed nodes v (drop at text))
        → stopped (row k) line ≡ node_lines timed nodes nodes (node_lists [] [] []) first (drop from text)
    nodes_stop e answered =
        sym (s.rest_is ∙ rw left (node_stop timed nodes (nodes - (v + 1)) v line (take v kinds) (take v capacities) (take v delays) (drop at text) kinds_read (sym (ap (node_at v text) e) ∙ answered)))

  pub nodes-end :
      nodes ≤ v
      → part (node_lists (take nodes kinds) (take nodes capacities) (take nodes delays)) line (drop at text)
      ≡ node_lines timed nodes nodes (node_lists [] [] []) first (drop from text)
  unfolding node_lines
  nodes-end l =
      let all : v ≡ nodes = omega (arith, s.read) in
      let none : nodes - nodes ≡ 0 = omega arith in
      sym (s.rest_is ∙ rw (all, none))
