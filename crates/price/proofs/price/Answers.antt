-- `price::price` meets its contract: each refusal by the tests that led to it; the price by the law of its case.
-- Assumes nothing.
use mathlib.Core.Path.{◌∙◌, ap, sym}
use Rattle.std.proofs.Common.{rules}
use Rattle.price.specs.Replies.{priced}
use Rattle.price.proofs.ReplyLaws.{reply_priced}
use Rattle.price.proofs.RunningHolds.{historic-price}
use Rattle.price.proofs.price.Goals as goal

pub returns : goal.returns
returns c = ap priced (c.historic_cost.ensures ∙ historic-price _ _ _ _ _) ∙ sym (reply_priced (search rules))
