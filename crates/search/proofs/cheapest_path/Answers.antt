-- `search::cheapest_path` meets its contract: where every length is right the turn is the reply, else what is due, and something is.
-- Assumes nothing.
use mathlib.Core.Path.{sym, ◌∙◌}
use Rattle.std.specs.Prelude.{Ok}
use Rattle.search.proofs.PriceableLaws.{fitted}
use Rattle.search.proofs.AnswersHold.{path-turned, path-refused, some-due}
use Rattle.search.proofs.cheapest_path.Goals as goal

pub join-requires : goal.join-requires
join-requires c = fitted _ _ _ _ _ (sym c.fits.ensures ∙ c.if-fits.true)

pub returns-then-fits : goal.returns-then-fits
returns-then-fits c =
    let h = path-turned _ _ _ _ _ _ _ _ (Ok c.join.result) _ (sym c.fits.ensures ∙ c.if-fits.true) c.join.ensures in
    record { answers = h.0; cheapest = h.1 }

pub returns-in_err-refused : goal.returns-in_err-refused
returns-in_err-refused c =
    let from = c.from_residual in
    let h = path-refused _ _ _ _ _ _ _ _ from.result _ from.ensures.1 (sym c.fits.ensures ∙ c.if-fits.false) c.in_err-refused.ensures in
    record { answers = h.0; cheapest = h.1 }

pub returns : goal.returns
returns c = absurd (some-due _ _ _ _ _ _ _ _ (sym c.fits.ensures ∙ c.if-fits.false) c.in_ok-refused.ensures)
