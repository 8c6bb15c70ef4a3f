-- Request 2.9: the price of a node for a sink of a timed job, and what a call of it answers. A `Weighting` says whether a turn is timed,
-- and with which criticality.
-- Assumes nothing.
use Rattle.std.specs.Prelude.{true, false, ◌≡◌, ℕ, ◌+◌, ◌-◌, ◌*◌, ◌≤◌, leb}
use Rattle.price.specs.Test.{choose}
use Rattle.price.specs.Bounds.{delay_most, criticality_most, history_most, timed_history_most, price_most, timed_price_most}
use Rattle.price.specs.Prices.{price_of}
use Rattle.price.specs.Replies.{PriceReply, InBounds, priced, kept, five_kept, price_reply}
use Rattle.price.specs.declared.Weighting.{Weighting}

-- "criticality × delay × 100 plus (10 − criticality) × the congestion price"
unfoldable pub timed_price : ℕ → ℕ → ℕ → ℕ
timed_price criticality delay congestion = criticality * delay * 100 + (10 - criticality) * congestion

-- "In 13 a timed price's delay and criticality follow history"
unfoldable pub timed_reply : ℕ → ℕ → ℕ → ℕ → ℕ → ℕ → ℕ → PriceReply
timed_reply kind factor others capacity history delay criticality =
    five_kept kind factor others capacity history
    (kept (leb delay delay_most) 5
    (kept (leb criticality criticality_most) 6
    (priced (timed_price criticality delay (price_of kind factor others capacity history)))))

-- a turn of an untimed job
abbrev pub untimed : Weighting
untimed = record { timed = false; criticality = 0 }

-- the price of a node of this delay and congestion price, timed or not
unfoldable pub weighed : Weighting → ℕ → ℕ → ℕ
weighed w delay congestion = choose w.timed (timed_price w.criticality delay congestion) congestion

abbrev pub weighed_reply : Weighting → ℕ → ℕ → ℕ → ℕ → ℕ → ℕ → PriceReply
weighed_reply w kind factor others capacity history delay =
    choose w.timed (timed_reply kind factor others capacity history delay w.criticality)
    (price_reply kind factor others capacity history)

-- the histories that a search takes: "a timed search alone .. takes history to 39,859"
abbrev pub history_bound : Weighting → ℕ
history_bound w = choose w.timed timed_history_most history_most

-- the largest price under these bounds
abbrev pub weighed_most : Weighting → ℕ
weighed_most w = choose w.timed timed_price_most price_most

-- the bounds under which a node is priced so: those of row 13 with the search's own of history, and of delay and criticality where they are
-- weighed
pub record WeighedInBounds (w : Weighting) (kind factor others capacity history delay : ℕ) : Type 0 where
  pub five : InBounds kind factor others capacity history
  pub history_bound_lem : history ≤ history_bound w
  pub delay_most_lem : w.timed ≡ true → delay ≤ delay_most
  pub criticality_most_lem : w.timed ≡ true → w.criticality ≤ criticality_most
