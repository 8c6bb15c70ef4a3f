-- `negotiation::follow::has_edge` meets its contract. The invariant: the row that is left has the target or not, as the whole row.
-- Assumes nothing.
use mathlib.Core.Path.{sym}
use Prim.Native.Nat.{◌+◌, ◌≤◌}
use native.Mathlib.Omega.{arith}
use lib.ListN.{length, get_or}
use Rattle.search.proofs.BlockLaws.{first_edges-long, row-end}
use Rattle.negotiation.proofs.follow.PassLoopLaws.{row_first, row_here, row_next, row-none}
use Rattle.negotiation.proofs.follow.has_edge.Goals.{Start}
use Rattle.negotiation.proofs.follow.has_edge.Goals as goal

-- the row ends within table 4
row_within : (s : Start) → get_or s.args.tables.now.first_edge.now (s.args.u + 1) 0 ≤ length s.args.tables.now.edge_target.now
row_within s = row-end _ s.requires.0 (s.args.u + 1) (let h = s.requires.1 in omega arith)

pub overflow_add-to : goal.overflow_add-to
overflow_add-to c = let few = c.requires.0.few in let h = c.requires.1 in omega arith

pub offset_bounds-tables-u : goal.offset_bounds-tables-u
offset_bounds-tables-u c = let few = c.requires.0.few in let h = c.requires.1 in omega arith

pub bounds-tables-u : goal.bounds-tables-u
bounds-tables-u c = let l = first_edges-long _ c.requires.0 in let h = c.requires.1 in omega arith

pub offset_bounds-tables-u-2 : goal.offset_bounds-tables-u-2
offset_bounds-tables-u-2 c = let few = c.requires.0.few in let h = c.requires.1 in omega arith

pub bounds-tables-u-2 : goal.bounds-tables-u-2
bounds-tables-u-2 c = let l = first_edges-long _ c.requires.0 in let h = c.requires.1 in omega arith

pub loop-e-init : goal.loop-e-init
loop-e-init c = row_first c.requires.0 c.requires.1 _

pub offset_bounds-tables-e : goal.offset_bounds-tables-e
offset_bounds-tables-e c = omega (arith, row_within (goal.at.offset_bounds-tables-e c).Start)

pub bounds-tables-e : goal.bounds-tables-e
bounds-tables-e c = omega (arith, row_within (goal.at.bounds-tables-e c).Start)

pub returns-then-tables-e : goal.returns-then-tables-e
returns-then-tables-e c =
    sym (row_here c.requires.0 c.requires.1 c.loop-e.invariant c.loop-e-test.true c.if-tables-e.true)

pub loop-e-preserved : goal.loop-e-preserved
loop-e-preserved c =
    row_next c.requires.0 c.requires.1 c.loop-e.invariant c.loop-e-test.true c.if-tables-e.false

pub returns : goal.returns
returns c = sym (row-none c.loop-e.invariant (omega (arith, c.loop-e-test.false)))
