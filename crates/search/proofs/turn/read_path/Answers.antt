-- `search::turn::read_path` meets its contract: the first node of the label stands in the list, since some node does, and its path has at most n nodes.
-- Assumes nothing.
use Rattle.search.proofs.turn.FoundLaws.{found_read}
use Rattle.search.proofs.turn.read_path.Goals as goal

pub returns : goal.returns
returns c = found_read c.requires c.first_at-place.ensures c.path_length-count.ensures c.write_path.ensures.0 c.write_path.ensures.1 c.fill.ensures
