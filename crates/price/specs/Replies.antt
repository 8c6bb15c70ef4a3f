-- What a call of the price answers, as the numbers of document 01's table "Numbers for a stopped call".
-- Assumes nothing.
use Rattle.std.specs.Prelude.{Bool, List, [], ◌∷◌, ℕ, ◌≤◌, leb, Result, Ok, Err}
use Rattle.price.specs.Test.{choose, both}
use Rattle.price.specs.Bounds.{kind_most, factor_most, others_most, capacity_most, history_most}
use Rattle.price.specs.Prices.{price_of}
use Rattle.price.specs.declared.BadNumber.{BadNumber}

-- the numbers of the refusal, none if there is no refusal; and the price, 0 after a refusal
pub record PriceReply : Type 0 where
  pub refusal : List ℕ
  pub price : ℕ

abbrev pub priced : ℕ → PriceReply
priced p = record { refusal = []; price = p }

-- row 13: "13, place"
abbrev pub refused : ℕ → PriceReply
refused place = record { refusal = 13 ∷ place ∷ []; price = 0 }

-- 01's numbers for each case of the answer
abbrev pub price_reply_of : Result ℕ BadNumber → PriceReply
price_reply_of (Ok p) = priced p
price_reply_of (Err bad) = refused bad.place

-- row 13: the bounds of kind, factor, others, capacity and history
pub record InBounds (kind factor others capacity history : ℕ) : Type 0 where
  pub kind_most_lem : kind ≤ kind_most
  pub factor_most_lem : factor ≤ factor_most
  pub others_most_lem : others ≤ others_most
  pub capacity_least : 1 ≤ capacity
  pub capacity_most_lem : capacity ≤ capacity_most
  pub history_least : 1 ≤ history
  pub history_most_lem : history ≤ history_most

-- continue if the number at this place keeps its bounds, else refusal 13 with the place
abbrev pub kept : Bool → ℕ → PriceReply → PriceReply
kept inside place rest = choose inside rest (refused place)

-- "13 with the place from 0 of the first bad number of kind, factor (0 to 65,535), others (0 to 511), capacity, history", which 2.1 lets
-- reach 101,179; else what comes after these five
abbrev pub five_kept : ℕ → ℕ → ℕ → ℕ → ℕ → PriceReply → PriceReply
five_kept kind factor others capacity history rest =
    kept (leb kind kind_most) 0
    (kept (leb factor factor_most) 1
    (kept (leb others others_most) 2
    (kept (both (leb 1 capacity) (leb capacity capacity_most)) 3
    (kept (both (leb 1 history) (leb history history_most)) 4 rest))))

-- "The price gives 13 with the place from 0 of the first bad number of kind, factor (0 to 65,535), others (0 to 511), capacity, history"
unfoldable pub price_reply : ℕ → ℕ → ℕ → ℕ → ℕ → PriceReply
price_reply kind factor others capacity history =
    five_kept kind factor others capacity history (priced (price_of kind factor others capacity history))
