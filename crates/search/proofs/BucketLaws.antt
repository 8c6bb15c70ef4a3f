-- Laws of the nodes that wait to spread their estimates, in buckets by their levels.
--     NoneFrom, none-.., lowest-here       the loop that looks for the least level at which a node waits
--     chain-..                             the nodes of a bucket, one after the other
--     lined-others, lined-kept             a store that leaves links and estimates of waiting nodes, of all
--     lined_some, lined-lowest, lined-none  who waits, by the heads and by the count
--     lined-add, lined-take                one node more waits, one less
-- Assumes nothing.
use mathlib.Core.Bool.{Bool, true, false}
use mathlib.Core.List.{List, [], ◌∷◌}
use mathlib.Core.Logic.{⊎_elim}
use mathlib.Core.Path.{◌≡◌, refl, sym, ◌∙◌, ap, subst}
use Prim.Native.Nat.{ℕ, ◌+◌, ◌-◌, ◌%◌, ◌≤◌, ◌<◌}
use native.Mathlib.Omega.{arith}
use lib.Dec.{eqb}
use lib.ListN.{get_or, set, length-set}
use borrow.Author.Tests.{eq-eqb, ne_eqb}
use Rattle.price.specs.Test.{choose}
use Rattle.price.specs.Lists.{has, distinct, count_below, first_below}
use Rattle.price.proofs.TestLaws.{le_or_lt, same_or_not, true≢false, never_true}
use Rattle.price.proofs.BelowLaws.{first_below-below, first_below_holds, count_most_lem, count_less, count_one, count_zero}
use Rattle.search.specs.Distance.{far}
use Rattle.search.specs.Layout.{link_at, estimate_at}
use Rattle.search.specs.Buckets.{buckets, Chain, ends, goes, Waiting, AtLevel, Lined, waits, LowestFrom}
use Rattle.search.proofs.DistinctLaws.{has_first, has_rest, distinct_cons, distinct_first, distinct_rest}
use Rattle.search.proofs.StoreLaws.{store_here, store_other}

-- ---- the loop that looks for a level

-- from `from` on no node waits below this level
pub record NoneFrom (head : List ℕ) (from level : ℕ) : Type 0 where
  pub least : from ≤ level
  pub none : (k : ℕ) → from ≤ k → k < level → get_or head (k % buckets) 0 ≡ 0

module _ {head : List ℕ} {from level : ℕ} (s : NoneFrom head from level) where
  -- within a round, since some bucket has a node
  pub none-room : (b : ℕ) × (b < buckets) × (get_or head b 0 ≡ 0 → ⊥) → level < from + buckets
  none-room (b, h, some) =
      ⊎_elim
      (λ (far : from + buckets ≤ level).
      let k : ℕ = from + (b + buckets - from % buckets) % buckets in
      let e : k % buckets ≡ b = omega arith in
      let z : get_or head (k % buckets) 0 ≡ 0 = s.none k (omega arith) (omega arith) in
      absurd (some (rw e at z)))
      (λ (h : level < from + buckets). h)
      (le_or_lt (from + buckets) level)

  pub lowest-here : (b : ℕ) × (b < buckets) × (get_or head b 0 ≡ 0 → ⊥) → (get_or head (level % buckets) 0 ≡ 0 → ⊥) → LowestFrom head from level
  lowest-here waits some = record { least = s.least; within = none-room waits; some = some; none = s.none }

-- ---- lists

has_other : (x u : ℕ) (ys : List ℕ) → (x ≡ u → ⊥) → has x (u ∷ ys) ≡ has x ys
unfolding has
has_other x u ys d = rw (ne_eqb x u d)

has-none : (x : ℕ) → has x [] ≡ true → ⊥
unfolding has
has-none x h = true≢false (sym h)

-- where some are counted there is one
some_below : (t : ℕ → Bool) (n : ℕ) → 0 < count_below t n → (v : ℕ) × (v < n) × (t v ≡ true)
some_below t n some =
    ⊎_elim
    (λ (l : n ≤ first_below t n).
    let z : count_below t n ≡ 0 = count_zero t n (λ k h. first_below-below t n k (omega arith)) in
    absurd (omega arith))
    (λ (l : first_below t n < n). (first_below t n, l, first_below_holds t n l))
    (le_or_lt n (first_below t n))

-- where one passes, some are counted, and where one does not, not all are
pub one_below : (t : ℕ → Bool) (n v : ℕ) → v < n → t v ≡ true → 0 < count_below t n
one_below t n v h e = let l : count_below (λ x. false) n < count_below t n = count_less t (λ x. false) n v (λ x k q. absurd (true≢false (sym q))) h e refl in omega arith

not_all_below : (t : ℕ → Bool) (n v : ℕ) → v < n → t v ≡ false → count_below t n < n
not_all_below t n v h e =
    let l : count_below t n < count_below (λ x. true) n = count_less (λ x. true) t n v (λ x k q. refl) h refl e in
    omega (arith, count_most_lem (λ x. true) n)

-- ---- the nodes of a bucket

-- the first of them
record First (n : ℕ) (w : List ℕ) (k : ℕ) (vs : List ℕ) : Type 0 where
  node : ℕ
  rest : List ℕ
  is-node : node < n
  entry : k ≡ node + 1
  list : vs ≡ node ∷ rest
  chain : Chain n w (link_at n w node) rest

module _ {n : ℕ} {w : List ℕ} where
  -- the same nodes, where their links are the same
  chain_same : {w' : List ℕ} {k : ℕ} {vs : List ℕ} → Chain n w k vs → ((x : ℕ) → has x vs ≡ true → x < n → link_at n w' x ≡ link_at n w x) → Chain n w' k vs
  chain_same (ends e) f = ends e
  chain_same {w'} (goes {v = v} {vs = vs} e h c) f =
      goes e h (subst (λ (j : ℕ). Chain n w' j vs) (sym (f v (has_first v vs) h)) (chain_same c (λ x m l. f x (has_rest x v vs m) l)))

  chain_some : {k : ℕ} {vs : List ℕ} (x : ℕ) → Chain n w k vs → has x vs ≡ true → k ≡ 0 → ⊥
  chain_some x (ends e) m z = has-none x m
  chain_some x (goes e h c) m z = omega arith

  chain_first : {k : ℕ} {vs : List ℕ} → Chain n w k vs → (k ≡ 0 → ⊥) → First n w k vs
  chain_first (ends e) some = absurd (some e)
  chain_first (goes {v = v} {vs = vs} e h c) some = record { node = v; rest = vs; is-node = h; entry = e; list = refl; chain = c }

  -- an entry is at most n
  chain_most : {k : ℕ} {vs : List ℕ} → Chain n w k vs → k ≤ n
  chain_most (ends e) = omega arith
  chain_most (goes e h c) = omega arith

-- ---- who waits

module _ {n : ℕ} {base : ℕ → ℕ} {scale : ℕ} {w head : List ℕ} {count least : ℕ} (l : Lined n base scale w head count least) where
  -- a node in a bucket waits
  in_bucket : (b x : ℕ) → b < buckets → has x (l.inside b) ≡ true → waits l x ≡ true
  in_bucket b x h m = let e : l.level x % buckets ≡ b = l.waiting.placed b x h m in subst (λ (j : ℕ). has x (l.inside j) ≡ true) (sym e) m

  -- one that does not is in none
  in_none : (x : ℕ) → waits l x ≡ false → (b : ℕ) → b < buckets → has x (l.inside b) ≡ true → ⊥
  in_none x out b h m = true≢false (sym (in_bucket b x h m) ∙ out)

  -- its bucket has a head
  waits_head : (x : ℕ) → waits l x ≡ true → get_or head (l.level x % buckets) 0 ≡ 0 → ⊥
  waits_head x m = chain_some x (l.waiting.chains (l.level x % buckets) (omega arith)) m

  -- the first node of a bucket that is not empty
  first_of : (r : ℕ) → (get_or head (r % buckets) 0 ≡ 0 → ⊥) → First n w (get_or head (r % buckets) 0) (l.inside (r % buckets))
  first_of r some = chain_first (l.waiting.chains (r % buckets) (omega arith)) some

  first_has : (r : ℕ) (f : First n w (get_or head (r % buckets) 0) (l.inside (r % buckets))) → has f.node (l.inside (r % buckets)) ≡ true
  first_has r f = rw f.list (has_first f.node f.rest)

  -- it waits at this level, where that is within a round
  first_level : (r : ℕ) (f : First n w (get_or head (r % buckets) 0) (l.inside (r % buckets))) → least ≤ r → r < least + buckets → l.level f.node ≡ r
  first_level r f from to =
      let e : l.level f.node % buckets ≡ r % buckets = l.waiting.placed (r % buckets) f.node (omega arith) (first_has r f) in
      let a = l.at_level f.node (in_bucket (r % buckets) f.node (omega arith) (first_has r f)) in
      omega (arith, a.low, a.high)

  -- some node waits, so `lowest` may be asked
  pub lined_some : 0 < count → (b : ℕ) × (b < buckets) × (get_or head b 0 ≡ 0 → ⊥)
  lined_some some =
      let p = some_below (waits l) n (rw l.counted at some) in
      (l.level p.0 % buckets, omega arith, waits_head p.0 p.2)

  -- at the level that it finds no node waits lower, and one waits there
  pub lined-lowest :
      {r : ℕ} → LowestFrom head least r
      → (k : Lined n base scale w head count r) × ((x : ℕ) → waits k x ≡ waits l x) × ((x : ℕ) → k.level x ≡ l.level x)
      × ((v : ℕ) × (waits k v ≡ true) × (k.level v ≡ r))
  lined-lowest {r} s =
      let k : Lined n base scale w head count r =
      record {
        level = l.level;
        inside = l.inside;
        waiting = l.waiting;
        at_level = λ v m.
            let a = l.at_level v m in
            record {
              node = a.node;
              known = a.known;
              sum = a.sum;
              low =
                  ⊎_elim
                  (λ (q : r ≤ l.level v). q)
                  (λ (q : l.level v < r). absurd (waits_head v m (s.none (l.level v) a.low q)))
                  (le_or_lt r (l.level v));
              high = omega (arith, a.high, s.least);
            };
        counted = l.counted;
      } in
      let f = first_of r s.some in
      (k, λ x. refl, λ x. refl, (f.node, in_bucket (r % buckets) f.node (omega arith) (first_has r f), first_level r f s.least s.within))

-- links and estimates of the nodes that wait stay
abbrev lined_but :
    {n scale count least : ℕ} {base : ℕ → ℕ} {w w' head : List ℕ} (l : Lined n base scale w head count least)
    → ((x : ℕ) → waits l x ≡ true → x < n → link_at n w' x ≡ link_at n w x) → ((x : ℕ) → waits l x ≡ true → x < n → estimate_at n w' x ≡ estimate_at n w x)
    → Lined n base scale w' head count least
lined_but l links estimates =
    record {
      level = l.level;
      inside = l.inside;
      waiting =
          record {
            heads = l.waiting.heads;
            chains = λ b h. chain_same (l.waiting.chains b h) (λ x m i. links x (in_bucket l b x h m) i);
            once = l.waiting.once;
            placed = l.waiting.placed;
          };
      at_level = λ v m.
          let a = l.at_level v m in
          let e = estimates v m a.node in
          record {
            node = a.node;
            known = rw e a.known;
            sum = rw e a.sum;
            low = a.low;
            high = a.high;
          };
      counted = l.counted;
    }

-- none waits where none is counted
pub lined-none : {n : ℕ} {base : ℕ → ℕ} {scale : ℕ} {w head : List ℕ} {least : ℕ} (l : Lined n base scale w head 0 least) → (v : ℕ) → v < n → waits l v ≡ false
lined-none {n} l v h = never_true (waits l v) (λ e. omega (arith, one_below (waits l) n v h e, l.counted))

-- ---- stores elsewhere

-- a store that leaves links and estimates of the nodes that wait
pub lined-others :
    {n scale count least : ℕ} {base : ℕ → ℕ} {w w' head : List ℕ} (l : Lined n base scale w head count least)
    → ((x : ℕ) → waits l x ≡ true → x < n → link_at n w' x ≡ link_at n w x) → ((x : ℕ) → waits l x ≡ true → x < n → estimate_at n w' x ≡ estimate_at n w x)
    → (k : Lined n base scale w' head count least) × ((x : ℕ) → waits k x ≡ waits l x) × ((x : ℕ) → k.level x ≡ l.level x)
lined-others l links estimates = (lined_but l links estimates, λ x. refl, λ x. refl)

-- one that leaves those of all nodes
pub lined-kept :
    {n scale count least : ℕ} {base : ℕ → ℕ} {w w' head : List ℕ} → ((x : ℕ) → x < n → link_at n w' x ≡ link_at n w x)
    → ((x : ℕ) → x < n → estimate_at n w' x ≡ estimate_at n w x) → (l : Lined n base scale w head count least)
    → (k : Lined n base scale w' head count least) × ((x : ℕ) → waits k x ≡ waits l x) × ((x : ℕ) → k.level x ≡ l.level x)
lined-kept {n} {scale} {count} {least} {base} {w} {w'} {head} links estimates l = lined-others l (λ x m h. links x h) (λ x m h. estimates x h)

-- ---- one node more

module _
    {n : ℕ} {base : ℕ → ℕ} {scale : ℕ} {w w' head : List ℕ} {count least : ℕ} (l : Lined n base scale w head count least)
    (u level : ℕ) (out : waits l u ≡ false) (at : AtLevel n base scale least w' u level)
    (Link-here : link_at n w' u ≡ get_or head (level % buckets) 0)
    (link_other : (x : ℕ) → x < n → (x ≡ u → ⊥) → link_at n w' x ≡ link_at n w x)
    (estimate_other : (x : ℕ) → x < n → (x ≡ u → ⊥) → estimate_at n w' x ≡ estimate_at n w x) where
  abbrev more-level : ℕ → ℕ
  more-level x = choose (eqb x u) level (l.level x)

  abbrev more-inside : ℕ → List ℕ
  more-inside b = choose (eqb b (level % buckets)) (u ∷ l.inside b) (l.inside b)

  abbrev more_head : List ℕ
  more_head = set head (level % buckets) (u + 1)

  level-here : more-level u ≡ level
  level-here = rw (eq-eqb u u refl)

  level_other : (x : ℕ) → (x ≡ u → ⊥) → more-level x ≡ l.level x
  level_other x d = rw (ne_eqb x u d)

  inside-here : more-inside (level % buckets) ≡ u ∷ l.inside (level % buckets)
  inside-here = rw (eq-eqb (level % buckets) (level % buckets) refl)

  inside_other : (b : ℕ) → (b ≡ level % buckets → ⊥) → more-inside b ≡ l.inside b
  inside_other b d = rw (ne_eqb b (level % buckets) d)

  -- the others are where they were
  has_more : (x b : ℕ) → (x ≡ u → ⊥) → has x (more-inside b) ≡ has x (l.inside b)
  has_more x b d =
      ⊎_elim
      (λ (e : b ≡ level % buckets). subst (λ (j : ℕ). has x (more-inside j) ≡ has x (l.inside j)) (sym e) (ap (has x) inside-here ∙ has_other x u _ d))
      (λ (e : b ≡ level % buckets → ⊥). ap (has x) (inside_other b e))
      (same_or_not b (level % buckets))

  chain_more : (b : ℕ) → b < buckets → Chain n w' (get_or head b 0) (l.inside b)
  chain_more b h = chain_same (l.waiting.chains b h) (λ x m i. link_other x i (λ (e : x ≡ u). in_none l u out b h (rw e at m)))

  more-waiting : Waiting n w' more_head more-level more-inside
  more-waiting =
      record {
        heads = length-set head (level % buckets) (u + 1) ∙ l.waiting.heads;
        chains = λ b h.
            ⊎_elim
            (λ (e : b ≡ level % buckets).
            subst (λ (j : ℕ). Chain n w' (get_or more_head j 0) (more-inside j)) (sym e)
            (subst (λ (vs : List ℕ). Chain n w' (get_or more_head (level % buckets) 0) vs) (sym inside-here)
            (goes (store_here head (level % buckets) (u + 1) (omega (arith, l.waiting.heads))) at.node
            (subst (λ (j : ℕ). Chain n w' j (l.inside (level % buckets))) (sym Link-here) (chain_more (level % buckets) (omega arith))))))
            (λ (e : b ≡ level % buckets → ⊥).
            subst (λ (vs : List ℕ). Chain n w' (get_or more_head b 0) vs) (sym (inside_other b e))
            (subst (λ (j : ℕ). Chain n w' j (l.inside b)) (sym (store_other head (level % buckets) (u + 1) b e)) (chain_more b h)))
            (same_or_not b (level % buckets));
        once = λ b h.
            ⊎_elim
            (λ (e : b ≡ level % buckets).
            subst (λ (j : ℕ). distinct (more-inside j) ≡ true) (sym e)
            (ap distinct inside-here
            ∙ distinct_cons u _ (never_true _ (in_none l u out (level % buckets) (omega arith))) (l.waiting.once (level % buckets) (omega arith))))
            (λ (e : b ≡ level % buckets → ⊥). ap distinct (inside_other b e) ∙ l.waiting.once b h)
            (same_or_not b (level % buckets));
        placed = λ b v h m.
            ⊎_elim
            (λ (q : v ≡ u).
            ⊎_elim
            (λ (e : b ≡ level % buckets). subst (λ (x : ℕ). more-level x % buckets ≡ b) (sym q) (ap (λ (j : ℕ). j % buckets) level-here ∙ sym e))
            (λ (e : b ≡ level % buckets → ⊥).
            let z : has u (l.inside b) ≡ true = sym (ap (has u) (inside_other b e)) ∙ subst (λ (x : ℕ). has x (more-inside b) ≡ true) q m in
            absurd (in_none l u out b h z))
            (same_or_not b (level % buckets)))
            (λ (q : v ≡ u → ⊥). ap (λ (j : ℕ). j % buckets) (level_other v q) ∙ l.waiting.placed b v h (sym (has_more v b q) ∙ m))
            (same_or_not v u);
      }

  -- the others wait as before, and u waits
  more_other : (x : ℕ) → (x ≡ u → ⊥) → has x (more-inside (more-level x % buckets)) ≡ waits l x
  more_other x d = ap (λ (j : ℕ). has x (more-inside (j % buckets))) (level_other x d) ∙ has_more x (l.level x % buckets) d

  more-here : has u (more-inside (more-level u % buckets)) ≡ true
  more-here = ap (λ (j : ℕ). has u (more-inside (j % buckets))) level-here ∙ ap (has u) inside-here ∙ has_first u _

  abbrev more-lined : Lined n base scale w' more_head (count + 1) least
  more-lined =
      record {
        level = more-level;
        inside = more-inside;
        waiting = more-waiting;
        at_level = λ v m.
            ⊎_elim
            (λ (q : v ≡ u). subst (λ (x : ℕ). AtLevel n base scale least w' x (more-level x)) (sym q) (subst (AtLevel n base scale least w' u) (sym level-here) at))
            (λ (q : v ≡ u → ⊥).
            let a = l.at_level v (sym (more_other v q) ∙ m) in
            let e = estimate_other v a.node q in
            subst (AtLevel n base scale least w' v) (sym (level_other v q))
            (record { node = a.node; known = rw e a.known; sum = rw e a.sum; low = a.low; high = a.high }))
            (same_or_not v u);
        counted =
            ap (λ (j : ℕ). j + 1) l.counted
            ∙ sym (count_one (waits l) (λ x. has x (more-inside (more-level x % buckets))) n u at.node out more-here (λ x h d. sym (more_other x d)));
      }

  pub lined-add : (k : Lined n base scale w' more_head (count + 1) least) × (waits k u ≡ true) × ((x : ℕ) → (x ≡ u → ⊥) → waits k x ≡ waits l x)
  lined-add = (more-lined, more-here, more_other)

-- ---- one node less

-- node v is out of the buckets; it waited at the least level
pub record TakenOut {n : ℕ} {base : ℕ → ℕ} {scale : ℕ} {w head : List ℕ} {count least : ℕ} (l : Lined n base scale w head count least) (v : ℕ) (head' : List ℕ) : Type 0 where
  pub node : v < n
  pub waited : waits l v ≡ true
  pub at_least : l.level v ≡ least
  pub rest : Lined n base scale w head' (count - 1) least
  pub gone : waits rest v ≡ false
  pub others : (x : ℕ) → (x ≡ v → ⊥) → waits rest x ≡ waits l x

module _
    {n : ℕ} {base : ℕ → ℕ} {scale : ℕ} {w head : List ℕ} {count least : ℕ} (l : Lined n base scale w head count least)
    (f : First n w (get_or head (least % buckets) 0) (l.inside (least % buckets))) where
  abbrev less-inside : ℕ → List ℕ
  less-inside b = choose (eqb b (least % buckets)) f.rest (l.inside b)

  abbrev less_head : List ℕ
  less_head = set head (least % buckets) (link_at n w f.node)

  rest_here : less-inside (least % buckets) ≡ f.rest
  rest_here = rw (eq-eqb (least % buckets) (least % buckets) refl)

  rest_other : (b : ℕ) → (b ≡ least % buckets → ⊥) → less-inside b ≡ l.inside b
  rest_other b d = rw (ne_eqb b (least % buckets) d)

  first_once : distinct (f.node ∷ f.rest) ≡ true
  first_once = sym (ap distinct f.list) ∙ l.waiting.once (least % buckets) (omega arith)

  has-less : (x b : ℕ) → (x ≡ f.node → ⊥) → has x (less-inside b) ≡ has x (l.inside b)
  has-less x b d =
      ⊎_elim
      (λ (e : b ≡ least % buckets).
      subst (λ (j : ℕ). has x (less-inside j) ≡ has x (l.inside j)) (sym e)
      (ap (has x) rest_here ∙ sym (has_other x f.node f.rest d) ∙ sym (ap (has x) f.list)))
      (λ (e : b ≡ least % buckets → ⊥). ap (has x) (rest_other b e))
      (same_or_not b (least % buckets))

  has-gone : (b : ℕ) → b < buckets → has f.node (less-inside b) ≡ true → ⊥
  has-gone b h m =
      ⊎_elim
      (λ (e : b ≡ least % buckets).
      let z : has f.node f.rest ≡ true = sym (ap (has f.node) rest_here) ∙ subst (λ (j : ℕ). has f.node (less-inside j) ≡ true) e m in
      true≢false (sym z ∙ distinct_first f.node f.rest first_once))
      (λ (e : b ≡ least % buckets → ⊥).
      let a : l.level f.node % buckets ≡ b = l.waiting.placed b f.node h (sym (ap (has f.node) (rest_other b e)) ∙ m) in
      let c : l.level f.node % buckets ≡ least % buckets = l.waiting.placed (least % buckets) f.node (omega arith) (first_has l least f) in
      e (sym a ∙ c))
      (same_or_not b (least % buckets))

  first_waits : waits l f.node ≡ true
  first_waits = in_bucket l (least % buckets) f.node (omega arith) (first_has l least f)

  less-gone : has f.node (less-inside (l.level f.node % buckets)) ≡ false
  less-gone = never_true _ (has-gone (l.level f.node % buckets) (omega arith))

  not_first : (x : ℕ) → has x (less-inside (l.level x % buckets)) ≡ true → x ≡ f.node → ⊥
  not_first x m e = true≢false (sym m ∙ subst (λ (j : ℕ). has j (less-inside (l.level j % buckets)) ≡ false) (sym e) less-gone)

  less-waiting : Waiting n w less_head l.level less-inside
  less-waiting =
      record {
        heads = length-set head (least % buckets) (link_at n w f.node) ∙ l.waiting.heads;
        chains = λ b h.
            ⊎_elim
            (λ (e : b ≡ least % buckets).
            subst (λ (j : ℕ). Chain n w (get_or less_head j 0) (less-inside j)) (sym e)
            (subst (λ (vs : List ℕ). Chain n w (get_or less_head (least % buckets) 0) vs) (sym rest_here)
            (subst (λ (j : ℕ). Chain n w j f.rest) (sym (store_here head (least % buckets) (link_at n w f.node) (omega (arith, l.waiting.heads)))) f.chain)))
            (λ (e : b ≡ least % buckets → ⊥).
            subst (λ (vs : List ℕ). Chain n w (get_or less_head b 0) vs) (sym (rest_other b e))
            (subst (λ (j : ℕ). Chain n w j (l.inside b)) (sym (store_other head (least % buckets) (link_at n w f.node) b e)) (l.waiting.chains b h)))
            (same_or_not b (least % buckets));
        once = λ b h.
            ⊎_elim
            (λ (e : b ≡ least % buckets). subst (λ (j : ℕ). distinct (less-inside j) ≡ true) (sym e) (ap distinct rest_here ∙ distinct_rest f.node f.rest first_once))
            (λ (e : b ≡ least % buckets → ⊥). ap distinct (rest_other b e) ∙ l.waiting.once b h)
            (same_or_not b (least % buckets));
        placed = λ b x h m.
            ⊎_elim
            (λ (e : x ≡ f.node). absurd (has-gone b h (subst (λ (j : ℕ). has j (less-inside b) ≡ true) e m)))
            (λ (d : x ≡ f.node → ⊥). l.waiting.placed b x h (sym (has-less x b d) ∙ m))
            (same_or_not x f.node);
      }

  abbrev less-lined : Lined n base scale w less_head (count - 1) least
  less-lined =
      record {
        level = l.level;
        inside = less-inside;
        waiting = less-waiting;
        at_level = λ x m. l.at_level x (sym (has-less x (l.level x % buckets) (not_first x m)) ∙ m);
        counted =
            let one = count_one (λ x. has x (less-inside (l.level x % buckets))) (waits l) n f.node f.is-node less-gone first_waits (λ x h d. has-less x (l.level x % buckets) d) in
            omega (arith, l.counted);
      }

  first_taken : TakenOut l f.node less_head
  first_taken =
      record {
        node = f.is-node;
        waited = first_waits;
        at_least = first_level l least f (omega arith) (omega arith);
        rest = less-lined;
        gone = less-gone;
        others = λ x d. has-less x (l.level x % buckets) d;
      }

module _ {n : ℕ} {base : ℕ → ℕ} {scale : ℕ} {w head : List ℕ} {count least : ℕ} (l : Lined n base scale w head count least) where
  pub lined-take : (v : ℕ) → get_or head (least % buckets) 0 ≡ v + 1 → TakenOut l v (set head (least % buckets) (link_at n w v))
  lined-take v e =
      let f = first_of l least (λ z. omega arith) in
      let same : f.node ≡ v = omega (arith, f.entry) in
      subst (λ (x : ℕ). TakenOut l x (set head (least % buckets) (link_at n w x))) same (first_taken l f)

  -- a node that waits at the least level can be taken out
  pub take-ready : (v : ℕ) × (waits l v ≡ true) × (l.level v ≡ least) → (v : ℕ) × (v < n) × (get_or head (least % buckets) 0 ≡ v + 1) × (link_at n w v ≤ n)
  take-ready (v, m, e) =
      let some : get_or head (least % buckets) 0 ≡ 0 → ⊥ = rw e at (waits_head l v m) in
      let f = first_of l least some in
      (f.node, f.is-node, f.entry, chain_most f.chain)

  -- who waits is a node with an estimate; so a node without one does not wait, and not all do
  pub blank_out : (v : ℕ) → estimate_at n w v ≡ far → waits l v ≡ false
  blank_out v e = never_true (waits l v) (λ m. let a = (l.at_level v m).known in omega arith)

  pub count_room : (v : ℕ) → v < n → estimate_at n w v ≡ far → count < n
  count_room v h e = let c = not_all_below (waits l) n v h (blank_out v e) in omega (arith, l.counted)

  pub count_some : (v : ℕ) → waits l v ≡ true → 0 < count
  count_some v m = let c = one_below (waits l) n v (l.at_level v m).node m in omega (arith, l.counted)
