-- `search::turn::write_path` meets its contract. The invariant: the end of the path stands at the places from i on, and v comes before it.
-- Assumes nothing.
use Rattle.search.proofs.turn.FollowLaws.{writing_none, writing_more, writing_end}
use Rattle.search.proofs.turn.write_path.Goals as goal

pub loop-i-init : goal.loop-i-init
loop-i-init c = writing_none _ _ _ _ _ c.requires.sink_lt_n.0 c.requires.count_value.0

pub loop-i-preserved : goal.loop-i-preserved
loop-i-preserved c = writing_more c.requires.sink_lt_n.1 c.requires.count_value.0 c.requires.count_value.1 c.loop-i.invariant c.loop-i-test.true

pub returns : goal.returns
returns c = writing_end c.requires.sink_lt_n.1 c.requires.count_value.0 c.requires.count_value.1 c.loop-i.invariant c.loop-i-test.false
