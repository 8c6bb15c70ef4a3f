-- `negotiation::nets::begin_net` meets its contract: a net that is not due is left at once; of one that is due the old tree is ripped up.
-- Assumes nothing.
use mathlib.Core.Path.{refl}
use Rattle.std.proofs.Common.{rules}
use Rattle.negotiation.proofs.nets.begin_net.Goals as goal

pub returns-then-due-net-eq0 : goal.returns-then-due-net-eq0
returns-then-due-net-eq0 c = record { idle = λ e. record { none_left = refl; users-same = refl; marks_same = refl }; begun = λ e. absurd (e (search rules)) }

pub returns : goal.returns
returns c = record { idle = λ e. absurd (c.if-due-net-eq0.false e); begun = λ e. record { left_is = refl; bare = _; ripped = c.rip_up.ensures; marks_is = refl } }
