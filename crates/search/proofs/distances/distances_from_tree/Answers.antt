-- `search::distances::distances_from_tree` meets its contract: the labels spread until nothing waits, and so every one is a distance.
-- Assumes nothing.
use Rattle.search.proofs.distances.SearchLaws.{search_lent, search_marks, search_ready, search_leaves}
use Rattle.search.proofs.distances.distances_from_tree.Goals as goal

pub mark_tree-waits-requires : goal.mark_tree-waits-requires
mark_tree-waits-requires c = search_marks c.args.work.now c.requires

pub settle_all-requires : goal.settle_all-requires
settle_all-requires c =
    let w = c.args.work.now in (search_lent w c.requires, search_ready w c.requires c.mark_tree-waits.ensures)

pub returns : goal.returns
returns c = search_leaves _ c.requires c.mark_tree-waits.ensures c.settle_all.ensures c.fill.ensures
