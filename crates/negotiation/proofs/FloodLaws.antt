-- The flood from a source: the queue gets each node once, row after row, and at the end the marked nodes are those to which a path leads.
-- Assumes nothing.
use mathlib.Core.Bool.{true}
use mathlib.Core.List.{List, [], ◌∷◌, ◌++◌}
use mathlib.Core.Logic.{◌⊎◌, ⊎_elim, inl, inr}
use mathlib.Core.Path.{◌≡◌, refl, sym, ◌∙◌}
use Prim.Native.Nat.{ℕ, ◌+◌, ◌≤◌, ◌<◌, zero-le}
use native.Mathlib.Nat.{le_refl, le_trans}
use native.Mathlib.Omega.{arith}
use lib.Dec.{eqb}
use lib.ListN.{length, get_or, set, replicate, length-set, length-replicate, get_or-replicate}
use lib.Seq.{get_or-set_same, get_or-set_other, set-get_or}
use borrow.Author.Count.{below_none, below_more}
use borrow.Author.Tests.{eqb-true, eqb-false, eq-eqb, ne_eqb}
use Rattle.price.proofs.TestLaws.{by_test, le_or_lt}
use Rattle.price.proofs.BelowLaws.{count_most_lem, count_less}
use Rattle.search.specs.Block.{Block, nodes, row_start, has_edge}
use Rattle.search.specs.Tables.{Graph}
use Rattle.search.specs.Paths.{Walk, stay, step}
use Rattle.search.proofs.BlockLaws.{target_node, edge_at, edge_place, edge_from}
use Rattle.search.proofs.WalkLaws.{snoc}
use Rattle.job.specs.Steps.{AllBelow}
use Rattle.negotiation.specs.Steps.{SameFrom}
use Rattle.negotiation.specs.Flood.{FloodReady, marked_count, Queue, RowFlooded, Flooded, FirstUnmarked}

-- ---- entries from a place on

pub same_from_refl : (lo : ℕ) (w : List ℕ) → SameFrom lo w w
same_from_refl lo w = record { long = refl; high = λ k h. refl }

pub same_from_trans : {lo : ℕ} {a b c : List ℕ} → SameFrom lo a b → SameFrom lo b c → SameFrom lo a c
same_from_trans p q = record { long = q.long ∙ p.long; high = λ k h. q.high k h ∙ p.high k h }

-- and from a higher place on
pub same_from_higher : {lo hi : ℕ} {a b : List ℕ} → lo ≤ hi → SameFrom lo a b → SameFrom hi a b
same_from_higher h s = record { long = s.long; high = λ k l. s.high k (le_trans h l) }

pub same_from_set : (lo k a : ℕ) (w : List ℕ) → k < lo → SameFrom lo w (set w k a)
same_from_set lo k a w h =
    record { long = length-set w k a; high = λ i l. get_or-set_other w k i a 0 (λ (e : i ≡ k). omega arith) }

-- ---- the queue

same_or_other : (x v : ℕ) → (x ≡ v) ⊎ (x ≡ v → ⊥)
same_or_other x v =
    by_test (eqb x v) (λ q. inl (eqb-true x v q)) (λ q. inr (eqb-false x v q))

unmarked : (n v : ℕ) → v < n → ◌≡◌ {A = ℕ} (get_or (replicate n 0) v 0) 0
unmarked n v h = get_or-replicate n v 0 0 h

queue-none : (b : Block) (n : ℕ) (work : List ℕ) → n ≡ nodes b → nodes b ≤ length work → Queue b 0 (replicate n 0) work
queue-none b n work e h =
    record {
      marks_long = length-replicate n 0 ∙ e;
      work-long = h;
      bits = λ v l. rw (unmarked n v (omega arith)) zero-le;
      nodes-below = below_none _;
      queued = λ v l m. absurd (omega (arith, unmarked n v (omega arith)));
      counted = zero-le;
    }

module _ {b : Block} {end : ℕ} {marks work : List ℕ} (q : Queue b end marks work) where
  -- it is no longer than there are nodes
  pub queue-few : end ≤ nodes b
  queue-few = le_trans q.counted (count_most_lem (λ x. eqb (get_or marks x 0) 1) (nodes b))

  -- a node that is not marked: it is, and comes into the queue
  module _ (v : ℕ) (node : v < nodes b) (free : get_or marks v 0 ≡ 0) where
    mark_here : get_or (set marks v 1) v 0 ≡ 1
    mark_here = get_or-set_same marks v 1 0 (let l = q.marks_long in omega arith)

    mark_kept : (x : ℕ) → get_or marks x 0 ≡ 1 → get_or (set marks v 1) x 0 ≡ 1
    mark_kept x e =
        ⊎_elim (λ (h : x ≡ v). rw h mark_here) (λ (h : x ≡ v → ⊥). get_or-set_other marks v x 1 0 h ∙ e) (same_or_other x v)

    mark_old : (x : ℕ) → get_or (set marks v 1) x 0 ≡ 1 → (x ≡ v) ⊎ (get_or marks x 0 ≡ 1)
    mark_old x e =
        ⊎_elim (λ (h : x ≡ v). inl h) (λ (h : x ≡ v → ⊥). inr (sym (get_or-set_other marks v x 1 0 h) ∙ e)) (same_or_other x v)

    mark_bit : (x : ℕ) → x < nodes b → get_or (set marks v 1) x 0 ≤ 1
    mark_bit x l =
        ⊎_elim
        (λ (h : x ≡ v). rw h (omega (arith, mark_here)))
        (λ (h : x ≡ v → ⊥). rw (get_or-set_other marks v x 1 0 h) (q.bits x l))
        (same_or_other x v)

    counted-more : marked_count (nodes b) marks < marked_count (nodes b) (set marks v 1)
    counted-more =
        count_less (λ x. eqb (get_or (set marks v 1) x 0) 1) (λ x. eqb (get_or marks x 0) 1) (nodes b) v
        (λ x h e. eq-eqb _ _ (mark_kept x (eqb-true _ _ e)))
        node
        (eq-eqb _ _ mark_here)
        (ne_eqb _ _ (λ (e : get_or marks v 0 ≡ 1). omega arith))

    -- so there is room
    queue-room : end < nodes b
    queue-room =
        let most = count_most_lem (λ x. eqb (get_or (set marks v 1) x 0) 1) (nodes b) in
        omega (arith, counted-more, q.counted)

    entry_here : get_or (set work end v) end 0 ≡ v
    entry_here = get_or-set_same work end v 0 (let l = q.work-long in omega (arith, queue-room))

    entry_kept : (k : ℕ) → k < end → get_or (set work end v) k 0 ≡ get_or work k 0
    entry_kept k h = get_or-set_other work end k v 0 (λ (e : k ≡ end). omega arith)

    queue-more : Queue b (end + 1) (set marks v 1) (set work end v)
    queue-more =
        record {
          marks_long = length-set marks v 1 ∙ q.marks_long;
          work-long = rw (length-set work end v) q.work-long;
          bits = mark_bit;
          nodes-below = below_more (λ (k : ℕ). get_or (set work end v) k 0 < nodes b) end (λ k h. rw (entry_kept k h) (q.nodes-below k h)) (rw entry_here node);
          queued = λ x h e.
              ⊎_elim
              (λ (s : x ≡ v). (end, omega arith, entry_here ∙ sym s))
              (λ (o : get_or marks x 0 ≡ 1).
              let p = q.queued x h o in
              let l : p.0 < end = p.1 in
              (p.0, omega arith, entry_kept p.0 l ∙ p.2))
              (mark_old x e);
          counted = omega (arith, counted-more, q.counted);
        }

-- ---- a node's row of targets

pub row-none : {b : Block} {u end : ℕ} {marks work : List ℕ} → Queue b end marks work → RowFlooded b u (row_start b u) end end marks marks work work
row-none q =
    record {
      queue = q;
      order = le_refl _;
      entries-kept = λ k h. refl;
      entries-new = λ k h l. absurd (omega arith);
      marks_kept = λ v e. e;
      targets = λ k h l. absurd (omega arith);
      same = same_from_refl _ _;
    }

-- what stands behind the queue does not matter
behind : {b : Block} {u e end last : ℕ} {marks marks' work work' : List ℕ} → RowFlooded b u e end last marks marks' work work' → (x : ℕ) → last < nodes b → RowFlooded b u e end last marks marks' work (set work' last x)
behind {b} {u} {e} {end} {last} {marks} {marks'} {work} {work'} r x room =
    let q = r.queue in
    let up : end ≤ last = r.order in
    let kept : (k : ℕ) → k < last → get_or (set work' last x) k 0 ≡ get_or work' k 0 = λ k h. get_or-set_other work' last k x 0 (λ (e : k ≡ last). omega arith) in
    record {
      queue = record {
        marks_long = q.marks_long;
        work-long = rw (length-set work' last x) q.work-long;
        bits = q.bits;
        nodes-below = λ k h. rw (kept k h) (q.nodes-below k h);
        queued = λ v h m.
            let p = q.queued v h m in
            (p.0, p.1, kept p.0 p.1 ∙ p.2);
        counted = q.counted;
      };
      order = up;
      entries-kept = λ k h. kept k (omega arith) ∙ r.entries-kept k h;
      entries-new = λ k h l. rw (kept k h) (r.entries-new k h l);
      marks_kept = r.marks_kept;
      targets = r.targets;
      same = same_from_trans r.same (same_from_set (nodes b) last x work' room);
    }

module _ {b : Block} (g : Graph b) {u : ℕ} (node : u < nodes b) {e end last : ℕ} {marks marks' work work' : List ℕ} (from : row_start b u ≤ e) (to : e < row_start b (u + 1)) (r : RowFlooded b u e end last marks marks' work work') where
  row_target : get_or b.edge_targets e 0 < nodes b
  row_target = target_node b g u e node from to

  -- its target at e is marked already
  row_skip : (get_or marks' (get_or b.edge_targets e 0) 0 ≡ 0 → ⊥) → RowFlooded b u (e + 1) end last marks marks' work work'
  row_skip h =
      let bit = r.queue.bits (get_or b.edge_targets e 0) row_target in
      let one : get_or marks' (get_or b.edge_targets e 0) 0 ≡ 1 = omega arith in
      record {
        queue = r.queue;
        order = r.order;
        entries-kept = r.entries-kept;
        entries-new = r.entries-new;
        marks_kept = r.marks_kept;
        targets = below_more _ e r.targets (λ l. one);
        same = r.same;
      }

  -- marked once more it is as before, whether it stands behind the queue
  module _ (marked : get_or marks' (get_or b.edge_targets e 0) 0 ≡ 0 → ⊥) where
    mark_again : set marks' (get_or b.edge_targets e 0) 1 ≡ marks'
    mark_again =
        let bit = r.queue.bits (get_or b.edge_targets e 0) row_target in
        let one : get_or marks' (get_or b.edge_targets e 0) 0 ≡ 1 = omega arith in
        rw one at (set-get_or marks' (get_or b.edge_targets e 0) 0)

    pub row_behind : (x : ℕ) → last < nodes b → RowFlooded b u (e + 1) end last marks (set marks' (get_or b.edge_targets e 0) 1) work (set work' last x)
    row_behind x room = rw mark_again (behind (row_skip marked) x room)

    -- or not
    pub row_again : RowFlooded b u (e + 1) end last marks (set marks' (get_or b.edge_targets e 0) 1) work work'
    row_again = rw mark_again (row_skip marked)

  -- or is not
  module _ (free : get_or marks' (get_or b.edge_targets e 0) 0 ≡ 0) where
    pub row_room : last < nodes b
    row_room = queue-room r.queue (get_or b.edge_targets e 0) row_target free

    pub row_mark : RowFlooded b u (e + 1) end (last + 1) marks (set marks' (get_or b.edge_targets e 0) 1) work (set work' last (get_or b.edge_targets e 0))
    row_mark =
        let v : ℕ = get_or b.edge_targets e 0 in
        let old : (k : ℕ) → k < last → get_or (set work' last v) k 0 ≡ get_or work' k 0 = entry_kept r.queue v row_target free in
        let kept : (x : ℕ) → get_or marks' x 0 ≡ 1 → get_or (set marks' v 1) x 0 ≡ 1 = mark_kept r.queue v row_target free in
        let up : end ≤ last = r.order in
        record {
          queue = queue-more r.queue v row_target free;
          order = omega arith;
          entries-kept = λ k h. old k (omega arith) ∙ r.entries-kept k h;
          entries-new =
              below_more (λ (k : ℕ). end ≤ k → has_edge b u (get_or (set work' last v) k 0) ≡ true) last
              (λ k h l. rw (old k h) (r.entries-new k h l))
              (λ l. rw (entry_here r.queue v row_target free) (edge_at b g u e node from to));
          marks_kept = λ x h. kept x (r.marks_kept x h);
          targets =
              below_more (λ (k : ℕ). row_start b u ≤ k → get_or (set marks' v 1) (get_or b.edge_targets k 0) 0 ≡ 1) e
              (λ k h l. kept (get_or b.edge_targets k 0) (r.targets k h l))
              (λ l. mark_here r.queue v row_target free);
          same = same_from_trans r.same (same_from_set (nodes b) last v work' row_room);
        }

-- ---- row after row

-- each entry of the queue has a path from the source, and the targets of those before `next` are marked
pub record Flooding (b : Block) (source next end : ℕ) (marks before work : List ℕ) : Type 0 where
  pub queue : Queue b end marks work
  pub within : next ≤ end
  pub start : get_or marks source 0 ≡ 1
  pub walked : (k : ℕ) → k < end → (path : List ℕ) × Walk b source path (get_or work k 0)
  pub done : (k : ℕ) → k < next → (v : ℕ) → has_edge b (get_or work k 0) v ≡ true → get_or marks v 0 ≡ 1
  pub same : SameFrom (nodes b) before work

-- the source alone
source-alone : {b : Block} {source : ℕ} {sinks marks work : List ℕ} → FloodReady b source sinks marks work → Flooding b source 0 1 (set (replicate (length marks) 0) source 1) (set work 0 source) (set work 0 source)
source-alone {b} {source} {sinks} {marks} {work} r =
    let q : Queue b 0 (replicate (length marks) 0) work = queue-none b (length marks) work r.marks_long r.work-long in
    let l : source < length marks = let long = r.marks_long in let node = r.source-node in omega arith in
    let free = unmarked (length marks) source l in
    record {
      queue = queue-more q source r.source-node free;
      within = zero-le;
      start = mark_here q source r.source-node free;
      walked =
          below_more (λ (k : ℕ). (path : List ℕ) × Walk b source path (get_or (set work 0 source) k 0)) 0 (below_none _)
          (source ∷ [], rw (entry_here q source r.source-node free) (stay source));
      done = below_none _;
      same = same_from_refl _ _;
    }

pub flood_start : {b : Block} {source : ℕ} {sinks marks cleared work : List ℕ} → FloodReady b source sinks marks work → cleared ≡ replicate (length marks) 0 → Flooding b source 0 1 (set cleared source 1) (set work 0 source) (set work 0 source)
flood_start r e = rw e (source-alone r)

module _ {b : Block} (g : Graph b) {source next end : ℕ} {marks before work : List ℕ} (f : Flooding b source next end marks before work) where
  -- one row more
  module _ (l : next < end) {last : ℕ} {marks' work' : List ℕ} (r : RowFlooded b (get_or work next 0) (row_start b (get_or work next 0 + 1)) end last marks marks' work work') where
    row_whole : (v : ℕ) → has_edge b (get_or work next 0) v ≡ true → get_or marks' v 0 ≡ 1
    row_whole v e =
        let p = edge_place b g (get_or work next 0) v (f.queue.nodes-below next l) e in
        rw p.3 at (r.targets p.0 p.2 p.1)

    walked_more : (k : ℕ) → k < last → (path : List ℕ) × Walk b source path (get_or work' k 0)
    walked_more k h =
        ⊎_elim
        (λ (n : end ≤ k).
        let w = f.walked next l in
        (w.0 ++ (get_or work' k 0 ∷ []), snoc w.1 (r.entries-new k h n)))
        (λ (o : k < end). rw (r.entries-kept k o) (f.walked k o))
        (le_or_lt end k)

    pub flood_more : Flooding b source (next + 1) last marks' before work'
    flood_more =
        let up : end ≤ last = r.order in
        record {
          queue = r.queue;
          within = omega arith;
          start = r.marks_kept source f.start;
          walked = walked_more;
          done =
              below_more (λ (k : ℕ). (v : ℕ) → has_edge b (get_or work' k 0) v ≡ true → get_or marks' v 0 ≡ 1) next
              (λ k h v e. r.marks_kept v (f.done k h v (rw (r.entries-kept k (omega arith)) at e)))
              (λ v e. row_whole v (rw (r.entries-kept next l) at e));
          same = same_from_trans f.same r.same;
        }

  -- what is flooded so far, where that is enough
  flood_so_far : {sinks first : List ℕ} → SameFrom (nodes b) first before
      → ((p : ℕ) → p < length sinks → get_or marks (get_or sinks p 0) 0 ≡ 1) ⊎ ((v : ℕ) (path : List ℕ) → Walk b source path v → get_or marks v 0 ≡ 1)
      → Flooded b source sinks marks first work
  flood_so_far s enough =
      record {
        long = f.queue.marks_long;
        bits = f.queue.bits;
        sound = λ v h m.
            let p = f.queue.queued v h m in
            rw p.2 at (f.walked p.0 p.1);
        complete = enough;
        same = same_from_trans s f.same;
      }

  -- every sink is marked
  pub flood_enough : {sinks first : List ℕ} → SameFrom (nodes b) first before → ((p : ℕ) → p < length sinks → get_or marks (get_or sinks p 0) 0 ≡ 1) → Flooded b source sinks marks first work
  flood_enough s all = flood_so_far s (inl all)

  -- the sinks passed so far are marked, and so are those passed now
  pub sinks-more :
      {sinks : List ℕ} → AllBelow (nodes b) sinks → {missing place : ℕ} → ((p : ℕ) → p < missing → get_or marks (get_or sinks p 0) 0 ≡ 1)
      → FirstUnmarked marks sinks missing place → (p : ℕ) → p < place → get_or marks (get_or sinks p 0) 0 ≡ 1
  sinks-more {sinks} nodes-below {missing} {place} passed r p l =
      ⊎_elim
      (λ (h : missing ≤ p).
      let within = r.within in
      let bit = f.queue.bits (get_or sinks p 0) (nodes-below p (omega arith)) in
      let some = r.before p l h in
      omega arith)
      (λ (h : p < missing). passed p h)
      (le_or_lt missing p)

  -- so nothing is missing where they are all the sinks
  pub flood_stop :
      {sinks first : List ℕ} → SameFrom (nodes b) first before → AllBelow (nodes b) sinks → {missing place : ℕ}
      → ((p : ℕ) → p < missing → get_or marks (get_or sinks p 0) 0 ≡ 1) → FirstUnmarked marks sinks missing place → place ≡ length sinks
      → Flooded b source sinks marks first work
  flood_stop s nodes-below passed r e = flood_enough s (λ p l. sinks-more nodes-below passed r p (rw e l))

  -- each sink has a mark
  pub sinks-marked : (sinks : List ℕ) → AllBelow (nodes b) sinks → AllBelow (length marks) sinks
  sinks-marked sinks nodes-below = rw f.queue.marks_long nodes-below

  -- the last row is flooded
  module _ (l : end ≤ next) where
    walk_marked : {u v : ℕ} {path : List ℕ} → get_or marks u 0 ≡ 1 → Walk b u path v → get_or marks v 0 ≡ 1
    walk_marked m (stay u) = m
    walk_marked m (step {u} {w} e r) =
        let p = f.queue.queued u (edge_from b g u w e) m in
        let h : p.0 < end = p.1 in
        walk_marked (f.done p.0 (omega arith) w (rw p.2 e)) r

    pub flood_whole : {sinks first : List ℕ} → SameFrom (nodes b) first before → Flooded b source sinks marks first work
    flood_whole s = flood_so_far s (inr (λ v path w. walk_marked f.start w))
