-- `negotiation::turns::net_turn` meets its contract: it is one turn for what is tried.
-- Assumes nothing.
use Rattle.negotiation.proofs.NextTriedLaws.{tried-can, tried_done}
use Rattle.negotiation.proofs.turns.net_turn.Goals as goal

pub one_turn-requires : goal.one_turn-requires
one_turn-requires c = record { ready = tried-can c.next_tried-tried.ensures _ _ _ _ _ c.requires.ready; back_lent = c.requires.back_lent }

pub returns : goal.returns
returns c = record { answers = tried_done c.next_tried-tried.ensures _ _ _ _ _ c.one_turn.result c.args.tariff _ _ _ _ c.one_turn.ensures.answers; same_from = c.one_turn.ensures.same_from }
