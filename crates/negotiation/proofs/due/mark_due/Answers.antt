-- `negotiation::due::mark_due` meets its contract: after the turns up to a net the marks below it are those that they shall be, the others stand.
-- Assumes nothing.
use mathlib.Core.Bool.{Bool}
use mathlib.Core.Path.{refl, ◌∙◌, ap}
use Prim.Native.Nat.{ℕ}
use native.Mathlib.Omega.{arith}
use lib.ListN.{length, length-set}
use Rattle.price.specs.Lists.{up_to}
use Rattle.negotiation.proofs.FilledLaws.{filled_none, filled_more, filled-all}
use Rattle.negotiation.proofs.due.mark_due.Invariants.{mark}
use Rattle.negotiation.proofs.due.mark_due.Goals.{Start}
use Rattle.negotiation.proofs.due.mark_due.Goals as goal

-- a net's mark by the lists that are lent
abbrev mark_at : Start → Bool → ℕ → ℕ
mark_at s all =
    mark all s.args.job.now.block.capacity.now s.args.job.now.first_sink.now s.args.log.now s.args.tree_from.now s.args.tree_to.now s.args.users.now

pub loop-net-init : goal.loop-net-init
loop-net-init c = (omega arith, refl, filled_none (mark_at (goal.at.loop-net-init c).Start c.all_due-all.result) _)

pub due_mark-requires : goal.due_mark-requires
due_mark-requires c = record { due_ready = c.requires.due_ready; net_in_bounds = omega (arith, c.requires.due_len) }

pub loop-net-preserved : goal.loop-net-preserved
loop-net-preserved c = (
  omega arith,
  simp length-set c.loop-net.invariant.1,
  rw (c.loop-net.invariant.2, c.due_mark.ensures) (filled_more (mark_at (goal.at.loop-net-preserved c).Start c.all_due-all.result) c.args.due.now c.loop-net.net (omega arith)),
)

pub returns : goal.returns
returns c =
    c.loop-net.invariant.2
    ∙ filled-all (mark_at (goal.at.returns c).Start c.all_due-all.result) c.args.due.now c.loop-net.net (omega arith) (omega arith)
    ∙ ap (λ (all : Bool). up_to (mark_at (goal.at.returns c).Start all) (length c.args.due.now)) c.all_due-all.ensures
