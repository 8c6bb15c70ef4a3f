-- `negotiation::follow::least_cost` meets its contract: nothing is refused, so the search answers the turn.
-- Assumes nothing.
use mathlib.Core.Bool.{not}
use Rattle.std.proofs.Common.{ap}
use mathlib.Core.Path.{refl}
use Rattle.search.proofs.KeptLaws.{refused, passed}
use Rattle.negotiation.proofs.FoundLaws.{plain_found, plain_never, least_unasked, least-joined, least-stuck}
use Rattle.negotiation.proofs.follow.least_cost.Goals as goal

pub returns-then-not-asked : goal.returns-then-not-asked
returns-then-not-asked c =
    let h = least_unasked _ _ _ (refused refl (ap not c.if-not-asked.true)) in
    record { value = h.0; same_from = h.1 }

pub returns-in_default : goal.returns-in_default
returns-in_default c = absurd (plain_never c.requires.0 _ c.requires.1 c.in_default.is c.cheapest_path.ensures.answers)

pub returns-in-Some : goal.returns-in-Some
returns-in-Some c =
    let h =
    least-joined (passed refl (ap not c.if-not-asked.false)) _ _ _ _
    (plain_found c.requires.0 _ c.requires.1 refl c.in-Ok.is c.cheapest_path.ensures.answers).0 c.in-Some.is in
    record { value = h.0; same_from = h.1 }

pub returns-in-None : goal.returns-in-None
returns-in-None c =
    let h =
    least-stuck (passed refl (ap not c.if-not-asked.false)) _ _ _ _
    (plain_found c.requires.0 _ c.requires.1 refl c.in-Ok.is c.cheapest_path.ensures.answers).0 c.in-None.is in
    record { value = h.0; same_from = h.1 }
