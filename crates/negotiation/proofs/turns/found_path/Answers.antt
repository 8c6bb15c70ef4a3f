-- `negotiation::turns::found_path` meets its contract: nothing is refused, so either search answers the turn.
-- Assumes nothing.
use Rattle.negotiation.proofs.FoundLaws.{plain_found, plain_never, aimed_found, aimed_never}
use Rattle.negotiation.proofs.turns.found_path.Goals as goal

pub returns-in-Ok : goal.returns-in-Ok
returns-in-Ok c =
    aimed_found c.requires.ready.0 _ c.requires.ready.1 c.args.back.now c.if-aimed.true c.requires.back_lent c.in-Ok.is c.aimed_path.ensures.answers

pub returns-in-Err : goal.returns-in-Err
returns-in-Err c =
    absurd (aimed_never c.requires.ready.0 _ c.requires.ready.1 c.args.back.now c.if-aimed.true c.requires.back_lent c.in-Err.is c.aimed_path.ensures.answers)

pub returns-in-Ok-cheapest_path : goal.returns-in-Ok-cheapest_path
returns-in-Ok-cheapest_path c =
    plain_found c.requires.ready.0 _ c.requires.ready.1 c.if-aimed.false c.in-Ok-cheapest_path.is c.cheapest_path.ensures.answers

pub returns-in-Err-cheapest_path : goal.returns-in-Err-cheapest_path
returns-in-Err-cheapest_path c =
    absurd (plain_never c.requires.ready.0 _ c.requires.ready.1 c.in-Err-cheapest_path.is c.cheapest_path.ensures.answers)
