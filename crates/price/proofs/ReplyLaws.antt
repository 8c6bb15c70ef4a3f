-- Laws of the price's answer: what it is whose reply is a price, and the price where all numbers keep their bounds.
-- Assumes nothing.
use mathlib.Core.List.{[], ◌∷◌}
use mathlib.Core.Path.{◌≡◌, sym, ◌∙◌, ap}
use Rattle.std.specs.Prelude.{Result, Ok, Err}
use Prim.Native.Nat.{ℕ}
use native.Mathlib.Omega.{arith}
use borrow.Author.Tests.{le-leb}
use Rattle.price.specs.Bounds.{kind_most, factor_most, others_most, capacity_most, history_most}
use Rattle.price.specs.Prices.{price_of}
use Rattle.price.specs.Replies.{InBounds, PriceReply, five_kept, price_reply, price_reply_of, priced, refused}
use Rattle.price.specs.declared.BadNumber.{BadNumber}

-- a price is no refusal
pub not_priced : {A : Type 0} (p place : ℕ) → priced p ≡ refused place → A
not_priced p place q =
    let numbers : [] ≡ 13 ∷ place ∷ [] = ap (λ (x : PriceReply). x.refusal) q in
    let z : ◌≡◌ {A = ℕ} 0 1 = cc in
    absurd (omega arith)

-- what an answer is whose reply is a price
module _ {a : Result ℕ BadNumber} {p : ℕ} (e : price_reply_of a ≡ priced p) where
  pub answer-priced : {q : ℕ} → a ≡ Ok q → q ≡ p
  answer-priced is = ap (λ (x : PriceReply). x.price) (sym (ap price_reply_of is) ∙ e)

  pub answer_not_refused : {bad : BadNumber} → a ≡ Err bad → ⊥
  answer_not_refused {bad} is = not_priced p bad.place (sym e ∙ ap price_reply_of is)

module _ {k f o c h : ℕ} (b : InBounds k f o c h) where
  -- past the five
  pub five_within : (rest : PriceReply) → five_kept k f o c h rest ≡ rest
  five_within rest =
      rw (
        le-leb k kind_most b.kind_most_lem,
        le-leb f factor_most b.factor_most_lem,
        le-leb o others_most b.others_most_lem,
        le-leb 1 c b.capacity_least,
        le-leb c capacity_most b.capacity_most_lem,
        le-leb 1 h b.history_least,
        le-leb h history_most b.history_most_lem,
      )

  pub reply_priced : price_reply k f o c h ≡ priced (price_of k f o c h)
  unfolding price_reply
  reply_priced = five_within _
