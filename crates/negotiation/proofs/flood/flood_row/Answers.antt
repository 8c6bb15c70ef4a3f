-- `negotiation::flood::flood_row` meets its contract. The invariant: the row is flooded up to place e.
-- Assumes nothing.
use mathlib.Core.Path.{◌≡◌}
use Prim.Native.Nat.{◌+◌, ◌≤◌, ◌<◌}
use native.Mathlib.Nat.{le_refl, add-zero}
use native.Mathlib.Omega.{arith}
use lib.ListN.{length, get_or}
use Rattle.search.proofs.BlockLaws.{first_edges-long, row-order, row-end, target_node}
use Rattle.negotiation.proofs.FloodLaws.{queue-few, row-none, row_behind, row_again, row_room, row_mark}
use Rattle.negotiation.proofs.flood.flood_row.Goals.{In-loop-e, Start, else-last-tables, else-reached-v-eq0, then-last-tables, then-reached-v-eq0}
use Rattle.negotiation.proofs.flood.flood_row.Goals as goal

-- the row ends within table 4
row_within : (s : Start) → get_or s.args.tables.now.first_edge.now (s.args.u + 1) 0 ≤ length s.args.tables.now.edge_target.now
row_within s = row-end _ s.requires.graph (s.args.u + 1) (let h = s.requires.node in omega arith)

-- a turn's target has a mark
has_mark : (t : In-loop-e) → get_or t.args.tables.now.edge_target.now t.loop-e.e 0 < length t.loop-e.reached
has_mark t =
    let r = t.requires in
    let i = t.loop-e.invariant in
    let node = target_node _ r.graph _ _ r.node i.0 t.loop-e-test.true in
    let long = i.2.queue.marks_long in
    omega arith

-- and where it is not marked, the queue has room
has_room : (t : In-loop-e) → get_or t.loop-e.reached (get_or t.args.tables.now.edge_target.now t.loop-e.e 0) 0 ≡ 0 → t.loop-e.last < length t.args.tables.now.kind.now
has_room t free =
    let r = t.requires in
    let i = t.loop-e.invariant in
    row_room r.graph r.node i.0 t.loop-e-test.true i.2 free

not_full : (t : In-loop-e) → get_or t.loop-e.reached (get_or t.args.tables.now.edge_target.now t.loop-e.e 0) 0 ≡ 0 → length t.args.tables.now.kind.now ≤ t.loop-e.last → ⊥
not_full t free full = omega (arith, has_room t free)

pub overflow_add-to : goal.overflow_add-to
overflow_add-to c = let few = c.requires.graph.few in let h = c.requires.node in omega arith

pub offset_bounds-tables-u : goal.offset_bounds-tables-u
offset_bounds-tables-u c = let few = c.requires.graph.few in let h = c.requires.node in omega arith

pub bounds-tables-u : goal.bounds-tables-u
bounds-tables-u c = let l = first_edges-long _ c.requires.graph in let h = c.requires.node in omega arith

pub offset_bounds-tables-u-2 : goal.offset_bounds-tables-u-2
offset_bounds-tables-u-2 c = let few = c.requires.graph.few in let h = c.requires.node in omega arith

pub bounds-tables-u-2 : goal.bounds-tables-u-2
bounds-tables-u-2 c = let l = first_edges-long _ c.requires.graph in let h = c.requires.node in omega arith

pub loop-e-init : goal.loop-e-init
loop-e-init c =
    let r = c.requires in
    (le_refl _, row-order _ r.graph _ r.node, row-none r.queue)

pub offset_bounds-tables-e : goal.offset_bounds-tables-e
offset_bounds-tables-e c = omega (arith, row_within (goal.at.offset_bounds-tables-e c).Start)

pub bounds-tables-e : goal.bounds-tables-e
bounds-tables-e c = omega (arith, row_within (goal.at.bounds-tables-e c).Start)

pub offset_bounds-work-last : goal.offset_bounds-work-last
offset_bounds-work-last c = omega (arith, c.if-last-tables.true, c.requires.graph.few)

pub bounds-work-last : goal.bounds-work-last
bounds-work-last c = omega (arith, c.if-last-tables.true, c.loop-e.invariant.2.queue.work-long)

pub bounds-reached-v : goal.bounds-reached-v
bounds-reached-v c = has_mark (goal.at.bounds-reached-v c).In-loop-e

pub bounds-reached-v-in-loop-e : goal.bounds-reached-v-in-loop-e
bounds-reached-v-in-loop-e c = has_mark (goal.at.bounds-reached-v-in-loop-e c).In-loop-e

pub overflow_add-last : goal.overflow_add-last
overflow_add-last c =
    let most = queue-few c.loop-e.invariant.2.queue in
    let few = c.requires.graph.few in
    (elim c.if-reached-v-eq0.branch [ then-reached-v-eq0 w ↦ omega (arith, w.new-is) | else-reached-v-eq0 w ↦ omega (arith, w.new-is) ])

-- (the turn is written out: under `turn` the second `rw` finds no motive)
pub loop-e-preserved : goal.loop-e-preserved
loop-e-preserved c =
    let r = c.requires in
    let i = c.loop-e.invariant in (
      omega arith,
      omega arith,
      elim c.if-reached-v-eq0.branch [
        | then-reached-v-eq0 w ↦
            rw w.new-is
            (elim c.if-last-tables.branch [
              | then-last-tables h ↦ rw h.work-is (row_mark r.graph r.node i.0 c.loop-e-test.true i.2 w.if-reached-v-eq0.true)
              | else-last-tables h ↦ absurd (not_full (goal.at.loop-e-preserved c).In-loop-e w.if-reached-v-eq0.true h.if-last-tables.false)
            ])
        | else-reached-v-eq0 w ↦
            rw (w.new-is, add-zero c.loop-e.last)
            (elim c.if-last-tables.branch [
              | then-last-tables h ↦ rw h.work-is (row_behind r.graph r.node i.0 c.loop-e-test.true i.2 w.if-reached-v-eq0.false _ h.if-last-tables.true)
              | else-last-tables h ↦ rw h.work-is (row_again r.graph r.node i.0 c.loop-e-test.true i.2 w.if-reached-v-eq0.false)
            ])
      ],
    )

pub returns : goal.returns
returns c =
    let e : c.loop-e.e ≡ get_or c.args.tables.now.first_edge.now (c.args.u + 1) 0 = omega arith in
    rw e at c.loop-e.invariant.2
