-- Laws of a timed price and of a price that is weighed or not: never 0, and so bounded that a path of a timed job fits where every path fits; and what a call
-- of one answers.
--     timed-                        the price of a timed job
--     weighed-                      timed or not, under the bounds of `WeighedInBounds`
--     -bounds, -same, -kept, -priced    the answer: what the five say, and what delay and criticality say past them
-- Assumes nothing.
use mathlib.Core.Bool.{Bool, true, false}
use mathlib.Core.Path.{◌≡◌, refl, sym, ◌∙◌, ap}
use Prim.Native.Nat.{ℕ, ◌+◌, ◌-◌, ◌*◌, ◌≤◌, ◌<◌}
use native.Mathlib.Nat.{mul-le-mul, mul-pos, le_refl}
use native.Mathlib.Omega.{arith}
use lib.Dec.{leb}
use borrow.Author.Tests.{leb-true, le-leb}
use Rattle.price.specs.Test.{choose, both}
use Rattle.price.specs.Bounds.{kind_most, factor_most, others_most, capacity_most, history_most, base_most, history_gain, nodes_most, price_most, path_most}
use Rattle.price.specs.Bounds.{delay_most, criticality_most, timed_nodes_most, timed_limit_most, timed_history_most, timed_price_most}
use Rattle.price.specs.Prices.{overuse, price_of}
use Rattle.price.specs.Replies.{PriceReply, InBounds, priced, refused, kept, price_reply}
use Rattle.price.specs.Timed.{timed_price, timed_reply, weighed, weighed_reply, history_bound, weighed_most, WeighedInBounds}
use Rattle.price.specs.declared.Weighting.{Weighting}
use Rattle.price.proofs.TestLaws.{by_test, both_left, both_right}
use Rattle.price.proofs.PriceLaws.{base_most_lem, congestion_most, price-pos, price_most_lem, path_most_lem}
use Rattle.price.proofs.ReplyLaws.{five_within, reply_priced, not_priced}

-- ---- the price of a timed job

-- a congestion price under a timed job's histories
abbrev congested_most : ℕ
congested_most = timed_history_most * base_most * (100 + factor_most * others_most)

timed_congested-most : {k f o c h : ℕ} → InBounds k f o c h → h ≤ timed_history_most → price_of k f o c h ≤ congested_most
unfolding price_of
timed_congested-most {k} {f} {o} {c} {h} b low =
    let present : 100 + f * overuse o c ≤ 100 + factor_most * others_most =
    omega (arith, congestion_most f o c b.factor_most_lem b.others_most_lem b.capacity_least) in
    mul-le-mul (mul-le-mul low (base_most_lem k b.kind_most_lem)) present

-- "criticality × delay × 100 plus (10 − criticality) × the congestion price" is at most ten times the largest congestion price
pub timed_most : (c d p : ℕ) → c ≤ criticality_most → d ≤ delay_most → p ≤ congested_most → timed_price c d p ≤ timed_price_most
unfolding timed_price
timed_most c d p hc hd hp =
    let first : c * d * 100 ≤ c * delay_most * 100 = mul-le-mul (mul-le-mul (le_refl c) hd) (le_refl 100) in
    let second : (10 - c) * p ≤ (10 - c) * congested_most = mul-le-mul (le_refl (10 - c)) hp in
    omega arith

-- never 0: "(10 − criticality)" is at least 1, and a congestion price is above 0
pub timed_pos : (c d p : ℕ) → c ≤ criticality_most → 0 < p → 0 < timed_price c d p
unfolding timed_price
timed_pos c d p hc hp =
    let share : 0 < (10 - c) * p = mul-pos (omega arith) hp in
    omega arith

-- never below the congestion price's share, whatever the delay
pub timed_share : (c d p : ℕ) → (10 - c) * p ≤ timed_price c d p
unfolding timed_price
timed_share c d p = omega arith

-- 1,024 such prices add up to less than the bound of every path
pub timed_path_most : (n : ℕ) → n ≤ timed_nodes_most → n * timed_price_most < path_most
timed_path_most n h = omega arith

-- "39,859": what histories can reach before the last of 40 iterations
pub timed_history_reach : (t h : ℕ) → h ≤ 1 + t * history_gain → t < timed_limit_most → h ≤ timed_history_most
timed_history_reach t h low few = omega arith

-- the products of a timed price fit 64 bits, whatever history row 13 takes
pub timed_delay_fits : (c d : ℕ) → c ≤ criticality_most → d ≤ delay_most → c * d ≤ criticality_most * delay_most
timed_delay_fits c d hc hd = mul-le-mul hc hd

pub timed_share_fits : (c p : ℕ) → p ≤ price_most → (10 - c) * p ≤ 10 * price_most
timed_share_fits c p hp =
    let share : 10 - c ≤ 10 = omega arith in
    mul-le-mul share hp

-- ---- a price that is weighed or not

pub weighed_timed : (w : Weighting) (d p : ℕ) → w.timed ≡ true → weighed w d p ≡ timed_price w.criticality d p
unfolding weighed
weighed_timed w d p t = rw t

pub weighed-untimed : (w : Weighting) (d p : ℕ) → w.timed ≡ false → weighed w d p ≡ p
unfolding weighed
weighed-untimed w d p t = rw t

module _ (w : Weighting) where
  pub most_timed : w.timed ≡ true → weighed_most w ≡ timed_price_most
  most_timed t = rw t

  pub most-untimed : w.timed ≡ false → weighed_most w ≡ price_most
  most-untimed t = rw t

  pub bound_timed : w.timed ≡ true → history_bound w ≡ timed_history_most
  bound_timed t = rw t

  pub bound-untimed : w.timed ≡ false → history_bound w ≡ history_most
  bound-untimed t = rw t

  -- a search takes no history that the price does not take, and some
  pub bound-most : history_bound w ≤ history_most
  bound-most =
      by_test w.timed
      (λ t. rw (bound_timed t) (omega arith))
      (λ t. rw (bound-untimed t) (omega arith))

  pub bound-least : 1 ≤ history_bound w
  bound-least =
      by_test w.timed
      (λ t. rw (bound_timed t) (omega arith))
      (λ t. rw (bound-untimed t) (omega arith))

  -- so many of the largest prices as a path has nodes add up to less than `path_most`
  pub weighed-path : (n : ℕ) → n ≤ nodes_most → (w.timed ≡ true → n ≤ timed_nodes_most) → n * weighed_most w < path_most
  weighed-path n few timed_few =
      by_test w.timed
      (λ t. rw (most_timed t) (timed_path_most n (timed_few t)))
      (λ t. rw (most-untimed t) (path_most_lem n few))

  -- a timed price may be above every other
  pub weighed-low : weighed_most w ≤ timed_price_most
  weighed-low =
      by_test w.timed
      (λ t. rw (most_timed t) (omega arith))
      (λ t. rw (most-untimed t) (omega arith))

module _ {w : Weighting} {k f o c h d : ℕ} (b : WeighedInBounds w k f o c h d) where
  pub weighed-pos : 0 < weighed w d (price_of k f o c h)
  weighed-pos =
      let p : 0 < price_of k f o c h = price-pos k f o c h b.five.history_least in
      by_test w.timed
      (λ t. rw (weighed_timed w d (price_of k f o c h) t) (timed_pos w.criticality d (price_of k f o c h) (b.criticality_most_lem t) p))
      (λ t. rw (weighed-untimed w d (price_of k f o c h) t) p)

  pub weighed_most_lem : weighed w d (price_of k f o c h) ≤ weighed_most w
  weighed_most_lem =
      by_test w.timed
      (λ t.
      let low : h ≤ timed_history_most = rw (bound_timed w t) at b.history_bound_lem in
      rw (weighed_timed w d (price_of k f o c h) t, most_timed w t)
      (timed_most w.criticality d (price_of k f o c h) (b.criticality_most_lem t) (b.delay_most_lem t) (timed_congested-most b.five low)))
      (λ t. rw (weighed-untimed w d (price_of k f o c h) t, most-untimed w t) (price_most_lem b.five))

-- ---- what a call answers

-- where the five are refused, so is a timed price; where they are priced, each keeps its bounds
five-refused :
    (a b c d e : Bool) (p place : ℕ) (rest : PriceReply)
    → refused place ≡ choose a (choose b (choose c (choose d (choose e (priced p) (refused 4)) (refused 3)) (refused 2)) (refused 1)) (refused 0)
    → refused place ≡ choose a (choose b (choose c (choose d (choose e rest (refused 4)) (refused 3)) (refused 2)) (refused 1)) (refused 0)
five-refused false b c d e p place rest q = q
five-refused true false c d e p place rest q = q
five-refused true true false d e p place rest q = q
five-refused true true true false e p place rest q = q
five-refused true true true true false p place rest q = q
five-refused true true true true true p place rest q =
    not_priced p place (sym q)

five-priced :
    (a b c d e : Bool) (p n : ℕ) → priced n ≡ choose a (choose b (choose c (choose d (choose e (priced p) (refused 4)) (refused 3)) (refused 2)) (refused 1)) (refused 0)
    → (a ≡ true) × (b ≡ true) × (c ≡ true) × (d ≡ true) × (e ≡ true) × (n ≡ p)
five-priced false b c d e p n q = not_priced n 0 q
five-priced true false c d e p n q = not_priced n 1 q
five-priced true true false d e p n q = not_priced n 2 q
five-priced true true true false e p n q = not_priced n 3 q
five-priced true true true true false p n q = not_priced n 4 q
five-priced true true true true true p n q = (refl, refl, refl, refl, refl, ap (λ (x : PriceReply). x.price) q)

module _ (k f o c h : ℕ) where
  pub priced-bounds : {n : ℕ} → priced n ≡ price_reply k f o c h → InBounds k f o c h × (n ≡ price_of k f o c h)
  unfolding price_reply
  priced-bounds {n} q =
      let t =
      five-priced (leb k kind_most) (leb f factor_most) (leb o others_most) (both (leb 1 c) (leb c capacity_most)) (both (leb 1 h) (leb h history_most)) (price_of k f o c h) n q in (
        record {
          kind_most_lem = leb-true k kind_most t.0;
          factor_most_lem = leb-true f factor_most t.1;
          others_most_lem = leb-true o others_most t.2;
          capacity_least = leb-true 1 c (both_left _ _ t.3);
          capacity_most_lem = leb-true c capacity_most (both_right (leb 1 c) _ t.3);
          history_least = leb-true 1 h (both_left _ _ t.4);
          history_most_lem = leb-true h history_most (both_right (leb 1 h) _ t.4);
        },
        t.5,
      )

  module _ (d cr : ℕ) where
    pub refused-same : {place : ℕ} → refused place ≡ price_reply k f o c h → refused place ≡ timed_reply k f o c h d cr
    unfolding price_reply timed_reply
    refused-same {place} q =
        five-refused (leb k kind_most) (leb f factor_most) (leb o others_most) (both (leb 1 c) (leb c capacity_most)) (both (leb 1 h) (leb h history_most)) (price_of k f o c h) place _ q

    -- past the five, delay and criticality decide
    pub timed_kept :
        InBounds k f o c h
        → timed_reply k f o c h d cr
        ≡ kept (leb d delay_most) 5 (kept (leb cr criticality_most) 6 (priced (timed_price cr d (price_of k f o c h))))
    unfolding timed_reply
    timed_kept b = five_within b _

    pub timed_priced : InBounds k f o c h → d ≤ delay_most → cr ≤ criticality_most → timed_reply k f o c h d cr ≡ priced (timed_price cr d (price_of k f o c h))
    timed_priced b hd hc = timed_kept b ∙ rw (le-leb d delay_most hd, le-leb cr criticality_most hc)

module _ (w : Weighting) (k f o c h d : ℕ) where
  pub reply_timed : {x : PriceReply} → w.timed ≡ true → x ≡ timed_reply k f o c h d w.criticality → x ≡ weighed_reply w k f o c h d
  reply_timed t q = q ∙ sym (rw t)

  pub reply_untimed : {x : PriceReply} → w.timed ≡ false → x ≡ price_reply k f o c h → x ≡ weighed_reply w k f o c h d
  reply_untimed t q = q ∙ sym (rw t)

  -- a delay that is not weighed says nothing
  pub reply_delay : {e : ℕ} → (w.timed ≡ true → d ≡ e) → weighed_reply w k f o c h d ≡ weighed_reply w k f o c h e
  reply_delay {e} same =
      by_test w.timed
      (λ t. ap (λ (x : ℕ). weighed_reply w k f o c h x) (same t))
      (λ t. rw t)

  -- the price where all keep their bounds
  pub weighed-priced : WeighedInBounds w k f o c h d → weighed_reply w k f o c h d ≡ priced (weighed w d (price_of k f o c h))
  weighed-priced b =
      by_test w.timed
      (λ t.
      sym (reply_timed t (sym (timed_priced k f o c h d w.criticality b.five (b.delay_most_lem t) (b.criticality_most_lem t))))
      ∙ ap priced (sym (weighed_timed w d (price_of k f o c h) t)))
      (λ t.
      sym (reply_untimed t (sym (reply_priced b.five))) ∙ ap priced (sym (weighed-untimed w d (price_of k f o c h) t)))
