-- `negotiation::nets::end_net` meets its contract: a net that is due counts its tree, one that is not is left as it is.
-- Assumes nothing.
use mathlib.Core.Path.{refl}
use Rattle.negotiation.proofs.nets.end_net.Goals as goal

pub count_tree-requires : goal.count_tree-requires
count_tree-requires c =
    c.requires.countable c.if-due-net-ne0.true

pub returns-then-due-net-ne0 : goal.returns-then-due-net-ne0
returns-then-due-net-ne0 c =
    let test = c.if-due-net-ne0 in record { passed = λ e. absurd (test.true e); ended = λ e. record { counted = c.count_tree.ensures; from_is = refl; to_is = refl } }

pub returns-else-due-net-ne0 : goal.returns-else-due-net-ne0
returns-else-due-net-ne0 c = record { passed = λ e. record { users-same = refl; marks_same = refl; from_same = refl; to_same = refl }; ended = λ e. absurd (e c.if-due-net-ne0.false) }
