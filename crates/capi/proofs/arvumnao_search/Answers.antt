-- `capi::arvumnao_search` meets its contract: a short `out` is left, else the answer's numbers are written.
-- Assumes nothing.
use Rattle.search.specs.Block.{block_of}
use Rattle.search.specs.Turn.{congestion_of}
use Rattle.search.specs.Replies.{search_reply}
use Rattle.capi.proofs.CallLaws.{search_short, search_called}
use Rattle.capi.proofs.arvumnao_search.Goals as goal

pub returns-then-out-lt-OUT_ENTRIES : goal.returns-then-out-lt-OUT_ENTRIES
returns-then-out-lt-OUT_ENTRIES c = search_short _ _ _ c.if-out-lt-OUT_ENTRIES.true

pub returns : goal.returns
returns c =
    let a = c.args in
    let block = block_of a.kind.now a.capacity.now a.first_edge.now a.edge_target.now in
    let congestion = congestion_of a.factor a.history.now a.others.now in
    search_called (search_reply block congestion _ _) _ _ _ _ c.search-answer.result c.if-out-lt-OUT_ENTRIES.false c.search-answer.ensures.answers c.put_search.ensures
