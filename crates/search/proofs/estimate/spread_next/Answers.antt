-- `search::estimate::spread_next` meets its contract.
-- Assumes nothing.
use Rattle.search.specs.Block.{Block, graph_of}
use Rattle.search.proofs.BucketLaws.{take-ready, count_some}
use Rattle.search.proofs.estimate.SpreadLaws.{take_out, left-ready, spread-is}
use Rattle.search.proofs.estimate.spread_next.Goals.{Start}
use Rattle.search.proofs.estimate.spread_next.Goals as goal

-- the edges by their target
abbrev backward : Start → Block
backward c = graph_of c.args.kind.now c.args.back.now.first_back.now c.args.back.now.back_source.now

pub take-v-requires : goal.take-v-requires
take-v-requires c =
    let g = c.requires.0 in
    (g.few, g.sized.long, g.lined.waiting.heads, take-ready g.lined c.requires.1)

pub overflow_sub-left : goal.overflow_sub-left
overflow_sub-left c =
    count_some c.requires.0.lined c.requires.1.0 c.requires.1.1

pub give_before-requires : goal.give_before-requires
give_before-requires c =
    let g = c.requires.0 in
    let t = take_out g.lined c.take-v.ensures.0 c.take-v.ensures.1 in
    (t.node, left-ready t g)

pub returns : goal.returns
returns c =
    let gave = c.give_before.ensures in
    (λ l. let t = take_out l c.take-v.ensures.0 c.take-v.ensures.1 in spread-is {r = backward (goal.at.returns c).Start} t (gave.0 t.rest), gave.1)
