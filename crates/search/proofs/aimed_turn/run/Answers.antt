-- `search::aimed_turn::run` meets its contract. The invariant: from any turn that stood at its beginning where the loop begins, it has come this far. The measure is
-- how many nodes are not expanded, lack an estimate or wait to spread theirs.
-- Assumes nothing.
use mathlib.Core.List.{List}
use mathlib.Core.Logic.{◌⊎◌, inl, inr}
use mathlib.Core.Path.{◌≡◌, refl}
use Prim.Native.Nat.{ℕ, ◌+◌, ◌≤◌}
use native.Mathlib.Omega.{arith}
use lib.ListN.{length, get_or-replicate}
use Rattle.search.specs.Distance.{far}
use Rattle.search.specs.Turn.{weighed_congestion}
use Rattle.search.specs.Layout.{entry_at}
use Rattle.search.specs.Buckets.{LowestFrom}
use Rattle.search.proofs.aimed_turn.AimStart.{started_sized, started_queue, started_lacking, started_out}
use Rattle.search.proofs.aimed_turn.AimRun.{TurnOver, Turning, turn-begins, turn-long, turn_count_lem, turn_low, level-ready, turn_raised, turn-ends, expands-ready, turn-expands, same_blanks, spreads-ready, turn-spreads, spreading_falls, falls_expanding, falls_spreading}
use Rattle.search.proofs.aimed_turn.run.Goals.{After-done, At-loop-f, Joined-f-gt0, then-f-gt0, else-f-gt0}
use Rattle.search.proofs.aimed_turn.run.Goals as goal

-- what the turn is over
abbrev Over : At-loop-f → List ℕ → Type 0
Over c w =
    TurnOver c.args.tables.now.kind.now c.args.tables.now.capacity.now c.args.tables.now.first_edge.now c.args.tables.now.edge_target.now
    c.args.back.now.first_back.now c.args.back.now.back_source.now
    (weighed_congestion c.args.prices.now.weighting c.args.prices.now.delay.now c.args.prices.now.factor c.args.prices.now.history.now c.args.prices.now.others.now)
    c.args.in_tree.now c.args.sinks.now w c.scale_of-scale.result

over : (c : At-loop-f) → Over c c.args.work.now
over c =
    let s = c.scale_of-scale.ensures in
    record { ready = c.requires.0; scale_is = s.0; scale_pos = s.1; scale_most_lem = s.2 }

-- how far it has come
abbrev At : (c : At-loop-f) (w : List ℕ) → Over c w → Type 0
At c w o = Turning o c.loop-f.work c.loop-f.head c.loop-f.f.count c.loop-f.f.lacking c.loop-f.r.best c.loop-f.r.low c.loop-f.level c.loop-f.expanded

-- at its beginning
begun : (c : At-loop-f)
    → Turning (over c) c.give_sinks-f.new.work c.give_sinks-f.new.head c.give_sinks-f.result.count c.give_sinks-f.result.lacking far far 0 0
begun c = let g = c.give_sinks-f.ensures in turn-begins (over c) c.requires.1.1 g.0 g.1

state : (c : At-loop-f) → At c c.args.work.now (over c)
state c = c.loop-f.invariant c.args.work.now (over c) (begun c)

-- the level to which it rises: the least at which a node waits, if any does
rise : (c : Joined-f-gt0)
    → LowestFrom c.loop-f.head c.loop-f.level c.if-f-gt0.level ⊎ ((c.loop-f.f.count ≤ 0) × (c.if-f-gt0.level ≡ c.loop-f.level))
rise c =
    elim c.if-f-gt0.branch [
      | then-f-gt0 q ↦ inl (rw q.level-is q.lowest-level.ensures)
      | else-f-gt0 q ↦ inr (q.if-f-gt0.false, q.level-is)
    ]

-- the least key is a number of 64 bits
top : (c : After-done) → entry_at (length c.args.tables.now.kind.now) c.loop-f.work 1 ≤ far
top c = omega (arith, c.type_inv.work (length c.args.tables.now.kind.now + 1))

pub give_sinks-f-requires : goal.give_sinks-f-requires
give_sinks-f-requires c =
    let scale = c.scale_of-scale.ensures in
    let p = c.requires in
    let f = p.0.fitted in
    let st = p.1.1 in (
      f.few,
      p.0.backs-long,
      scale.1,
      scale.2,
      started_sized st f.enough,
      started_queue st,
      st.none,
      refl,
      (λ b h. get_or-replicate 1024 b 0 0 h),
      refl,
      started_lacking st,
      f.marks_long,
      started_out st,
    )

pub lowest-level-requires : goal.lowest-level-requires
lowest-level-requires c =
    let at = goal.at.lowest-level-requires c in
    level-ready (state at.At-loop-f) c.if-f-gt0.true

pub least_lacking-coming-requires : goal.least_lacking-coming-requires
least_lacking-coming-requires c =
    let at = goal.at.least_lacking-coming-requires c in
    let raised = turn_raised (state at.At-loop-f) (rise at.Joined-f-gt0) in
    turn_low raised.turning

pub returns-then-done : goal.returns-then-done
returns-then-done c =
    let at = goal.at.returns-then-done c in
    let raised = turn_raised (state at.At-loop-f) (rise at.Joined-f-gt0) in
    turn-ends raised.turning c.least_lacking-coming.ensures (top at.After-done) (c.done.ensures.ends c.if-done.true)

pub overflow_add-expanded : goal.overflow_add-expanded
overflow_add-expanded c =
    let at = goal.at.overflow_add-expanded c in
    let s = state at.At-loop-f in let l = turn-long s in omega (arith, turn_count_lem s)

pub expand_next-r-requires : goal.expand_next-r-requires
expand_next-r-requires c =
    let at = goal.at.expand_next-r-requires c in
    let raised = turn_raised (state at.At-loop-f) (rise at.Joined-f-gt0) in
    expands-ready raised.turning c.least_lacking-coming.ensures (top at.After-done) (c.done.ensures.goes c.if-done.false) c.if-least-coming.true

pub loop-f-preserved-then-least-coming : goal.loop-f-preserved-then-least-coming
loop-f-preserved-then-least-coming c =
    let at = goal.at.loop-f-preserved-then-least-coming c in
    let x = c.expand_next-r.ensures in
    λ w o s.
    turn-expands (turn_raised (c.loop-f.invariant w o s) (rise at.Joined-f-gt0)).turning c.least_lacking-coming.ensures (top at.After-done) (c.done.ensures.goes c.if-done.false)
    c.if-least-coming.true x.0 x.1 x.2

pub loop-f-smaller-then-least-coming : goal.loop-f-smaller-then-least-coming
loop-f-smaller-then-least-coming c =
    let at = goal.at.loop-f-smaller-then-least-coming c in
    let raised = turn_raised (state at.At-loop-f) (rise at.Joined-f-gt0) in
    let n = length c.args.tables.now.kind.now in
    let fewer = turn_count_lem (loop-f-preserved-then-least-coming c c.args.work.now (over at.At-loop-f) (begun at.At-loop-f)) in
    falls_expanding n c.loop-f.expanded c.loop-f.f.count fewer
    (same_blanks raised.turning c.least_lacking-coming.ensures (top at.After-done) (c.done.ensures.goes c.if-done.false) c.if-least-coming.true
    c.expand_next-r.ensures.0)

pub spread_next-f-requires : goal.spread_next-f-requires
spread_next-f-requires c =
    let at = goal.at.spread_next-f-requires c in
    let raised = turn_raised (state at.At-loop-f) (rise at.Joined-f-gt0) in
    spreads-ready raised c.least_lacking-coming.ensures (top at.After-done) (c.done.ensures.goes c.if-done.false) c.if-least-coming.false

pub loop-f-preserved : goal.loop-f-preserved
loop-f-preserved c =
    let at = goal.at.loop-f-preserved c in
    let x = c.spread_next-f.ensures in
    λ w o s. turn-spreads (turn_raised (c.loop-f.invariant w o s) (rise at.Joined-f-gt0)).turning x.0 x.1

pub loop-f-smaller : goal.loop-f-smaller
loop-f-smaller c =
    let at = goal.at.loop-f-smaller c in
    let raised = turn_raised (state at.At-loop-f) (rise at.Joined-f-gt0) in
    falls_spreading (length c.args.tables.now.kind.now) c.loop-f.expanded (spreading_falls raised.turning c.spread_next-f.ensures.0)
