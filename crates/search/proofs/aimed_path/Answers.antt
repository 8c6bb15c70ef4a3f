-- `search::aimed_path` meets its contract: where every length is right the turn is the reply, else what is due, or the first table by target.
-- Assumes nothing.
use mathlib.Core.Path.{sym, ◌∙◌}
use Rattle.std.specs.Prelude.{Ok}
use Rattle.search.proofs.PriceableLaws.{fitted}
use Rattle.search.proofs.AnswersHold.{some-due}
use Rattle.search.proofs.AimedReplyLaws.{aimed_joined, aimed_short, aimed_refused}
use Rattle.search.proofs.aimed_path.Goals as goal

pub returns-in_err-refused : goal.returns-in_err-refused
returns-in_err-refused c =
    let from = c.from_residual in
    let h = aimed_refused _ _ _ _ _ _ _ _ _ _ from.result _ from.ensures.1 (sym c.fits.ensures ∙ c.if-not-fits.true) c.in_err-refused.ensures in
    record { answers = h.0; cheapest = h.1 }

pub returns-then-not-fits : goal.returns-then-not-fits
returns-then-not-fits c = absurd (some-due _ _ _ _ _ _ _ _ (sym c.fits.ensures ∙ c.if-not-fits.true) c.in_ok-refused.ensures)

-- the first table by target has another length than table 3
pub returns-then-back-tables-clause-answers : goal.returns-then-back-tables-clause-answers
returns-then-back-tables-clause-answers c = (aimed_short _ _ _ _ _ _ _ _ _ _ (sym c.fits.ensures ∙ c.if-not-fits.false) c.if-back-tables.true).0

pub join-requires : goal.join-requires
join-requires c = (fitted _ _ _ _ _ (sym c.fits.ensures ∙ c.if-not-fits.false), c.if-back-tables.false)

pub returns : goal.returns
returns c =
    let h = aimed_joined _ _ _ _ _ _ _ _ _ _ (Ok c.join.result) _ (sym c.fits.ensures ∙ c.if-not-fits.false) c.if-back-tables.false c.join.ensures in
    record { answers = h.0; cheapest = h.1 }
