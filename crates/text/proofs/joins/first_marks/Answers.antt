-- `text::joins::first_marks` meets its contract. The loop's invariant: of the nets passed, those that are the first of their source are marked.
-- Assumes nothing.
use mathlib.Core.Path.{refl}
use Rattle.std.proofs.Common.{rules}
use Rattle.text.proofs.joins.JoinTextLaws.{first_none, first_more, first_all}
use Rattle.text.proofs.joins.first_marks.Goals as goal

pub loop-net-init : goal.loop-net-init
loop-net-init c = first_none _

pub loop-net-preserved : goal.loop-net-preserved
loop-net-preserved c = first_more c.loop-net.invariant (search rules) c.first_of.ensures refl (search rules)

pub returns : goal.returns
returns c = first_all c.loop-net.invariant (search rules)
