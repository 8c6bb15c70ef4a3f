-- `search::aimed_turn::join` meets its contract: the work slice is made ready, the turn aims, and the path is read off.
-- Assumes nothing.
use Rattle.search.proofs.AimedReplyLaws.{turn-ready, turn_readable, turn_replies}
use Rattle.search.proofs.aimed_turn.join.Goals as goal

pub start-trees-requires : goal.start-trees-requires
start-trees-requires c =
    let f = c.requires.0 in
    (f.few, f.marks_long, f.enough)

pub run-found-requires : goal.run-found-requires
run-found-requires c =
    let pre = c.requires in
    turn-ready _ _ _ _ _ _ _ _ _ pre.0 c.start-trees.ensures pre.1

pub read_aimed-requires : goal.read_aimed-requires
read_aimed-requires c =
    turn_readable _ _ _ _ _ _ _ _ _ c.requires.0 c.start-trees.ensures c.run-found.ensures

pub returns : goal.returns
returns c =
    λ firsts targets backs sources counted.
    turn_replies _ _ _ _ _ _ _ _ _ c.requires.0 c.start-trees.ensures c.run-found.ensures firsts targets backs sources counted
    c.read_aimed.ensures
