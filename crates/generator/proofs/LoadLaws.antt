-- A load's tables keep their rules: the block, its rows above all, and the nets.
-- Assumes nothing.
use Rattle.std.proofs.Common.{◌≡◌, ℕ, zero, suc, ◌+◌, ◌-◌, ◌*◌, ◌<◌, ◌≤◌, Bool, true, false, not, eqb, ltb, leb, List, [], ◌∷◌, ◌++◌, length, get_or, take, drop, replicate, sym, refl, ap, ◌∙◌, subst, append-nil, suc-add, zero-add, add-one, arith, length-append, lt-ltb, eq-eqb, ne_eqb, le-leb}
use lib.ListN.{length-replicate, get_or-replicate}
use lib.Seq.{slice, slice-cons, slice_empty, take-append-le, take-append_seam, drop-append_seam}
use Rattle.price.specs.Test.{choose, both}
use Rattle.price.specs.Bounds.{kind_most, capacity_most, nodes_most}
use Rattle.price.specs.Lists.{every, neighbours, has, distinct, up_to}
use Rattle.price.specs.Tuning.{tuning_sound}
use Rattle.price.proofs.TestLaws.{by_test, true≢false, both_true, both_left, both_right}
use Rattle.price.proofs.ListLaws.{every-all, neighbours-all, rises-last, get_or_up_to, length_up_to}
use Rattle.search.specs.Block.{row, row_start}
use Rattle.search.specs.Tables.{edges_most, kinds_sound, capacities_sound, first_edges_sound, row_sound, edge_targets_sound}
use Rattle.search.specs.Replies.{sinks_most}
use Rattle.search.proofs.TableLaws.{edges-all}
use Rattle.job.specs.Job.{Job, nodes, nets, source, sinks_between, net_sinks}
use Rattle.job.specs.Tables.{nets_most, sources_sound, first_sinks_sound, net_sound, sinks_sound, limit_sound, rule_sound, terms_sound, one_of, pins_of, SoundJob, source_kind, sink_kind}
use Rattle.generator.specs.Load.{quarter, load_kind, rows_from, nets_from, row_draw, drawn, passing, load_row, load_rows, load_source, load_sink, load_job}
use Rattle.generator.proofs.DrawLaws.{draw_below}
use Rattle.generator.proofs.NodeLaws.{kind_source, kind_sink, kind_most_lem}
use Rattle.generator.proofs.RowLaws.{rows_none, rows_more, rows_longer, rows_few}

-- ---- lists

every_append : (t : ℕ → Bool) (xs ys : List ℕ) → every t xs ≡ true → every t ys ≡ true → every t (xs ++ ys) ≡ true
unfolding every
every_append t [] ys p q = q
every_append t (x ∷ xs) ys p q = both_true (both_left (t x) _ p) (every_append t xs ys (both_right (t x) _ p) q)

-- what a list of numbers that pass has
module _ (t : ℕ → Bool) where
  passing-all : (p : ℕ → Bool) (n : ℕ) → ((u : ℕ) → u < n → t u ≡ true → p u ≡ true) → every p (passing t n) ≡ true
  unfolding passing every
  passing-all p zero h = refl
  passing-all p (suc n) h =
      every_append p (passing t n) (choose (t n) (n ∷ []) []) (passing-all p n (λ u l. h u (omega arith)))
      (by_test (t n)
      (λ q. rw (q, h n (omega arith) q))
      (λ q. rw q))

  passing-rises : (n : ℕ) → neighbours ltb (passing t n) ≡ true
  unfolding passing neighbours
  passing-rises zero = refl
  passing-rises (suc n) =
      by_test (t n)
      (λ q. rw q (rises-last (passing t n) n (passing-rises n) (passing-all (λ x. ltb x n) n (λ u l _. lt-ltb u n l))))
      (λ q. rw (q, append-nil (passing t n)) (passing-rises n))

-- a list of f 0, f 1, ..
module _ (f : ℕ → ℕ) (n : ℕ) where
  up_to_every : (t : ℕ → Bool) → ((i : ℕ) → i < n → t (f i) ≡ true) → every t (up_to f n) ≡ true
  up_to_every t h =
      every-all t (up_to f n) (λ i l. let m : i < n = rw (length_up_to f n) at l in rw (get_or_up_to f n i 0 m) (h i m))

  up_to_neighbours : (t : ℕ → ℕ → Bool) → ((i : ℕ) → suc i < n → t (f i) (f (suc i)) ≡ true) → neighbours t (up_to f n) ≡ true
  up_to_neighbours t h =
      neighbours-all t (up_to f n)
      (λ i l.
      let m : suc i < n = rw (length_up_to f n) at l in
      rw (get_or_up_to f n i 0 (omega arith), get_or_up_to f n (suc i) 0 m) (h i m))

  -- the part of one entry
  up_to_one : (i : ℕ) → i < n → slice i (i + 1) (up_to f n) ≡ f i ∷ []
  up_to_one i l =
      let long : length (up_to f n) ≡ n = length_up_to f n in
      rw (add-one, slice-cons i (suc i) (up_to f n) 0 (omega arith) (omega arith), get_or_up_to f n i 0 l, slice_empty (suc i) (up_to f n))

-- ---- the block

-- "itself and repeats are dropped, the rest sorted"
pub row_sound_lem : (first n v : ℕ) → row_sound n v (load_row first n v) ≡ true
unfolding row_sound load_row
row_sound_lem first n v =
    let t : ℕ → Bool = drawn v (row_draw first n v 0) (row_draw first n v 1) (row_draw first n v 2) in
    both_true
    (passing-all t (λ u. both (ltb u n) (not (eqb u v))) n (λ u l p. both_true (lt-ltb u n l) (both_left (not (eqb u v)) _ p)))
    (passing-rises t n)

-- the rows before another are the beginning of the rows
module _ (first n : ℕ) where
  rows_grow : (u k : ℕ) → length (load_rows first n u) ≤ length (load_rows first n (k + u))
  rows_grow u zero = rw zero-add (omega arith)
  rows_grow u (suc k) =
      let on = rows_grow u k in
      rw (suc-add, rows_more first n (k + u)) (omega (arith, length-append (load_rows first n (k + u)) (load_row first n (k + u))))

  rows_begin : (u k : ℕ) → take (length (load_rows first n u)) (load_rows first n (k + u)) ≡ load_rows first n u
  rows_begin u zero = rw zero-add (ap (take (length (load_rows first n u))) (sym (append-nil (load_rows first n u))) ∙ take-append_seam (load_rows first n u) [])
  rows_begin u (suc k) =
      rw (suc-add, rows_more first n (k + u), take-append-le (length (load_rows first n u)) (load_rows first n (k + u)) (load_row first n (k + u)) (rows_grow u k))
      (rows_begin u k)

module _ (seed n count : ℕ) where
  abbrev job : Job
  job = load_job seed n count

  abbrev rows : ℕ → List ℕ
  rows u = load_rows (rows_from seed n) n u

  pub node-count : nodes job ≡ n
  unfolding load_job
  node-count = length_up_to (load_kind seed n) n

  pub net-count : nets job ≡ count
  unfolding load_job
  net-count = length_up_to (load_source (nets_from seed n) n) count

  -- it is untimed
  pub untimed : job.terms.timed ≡ false
  unfolding load_job
  untimed = refl

  -- a node's row of table 4 is what it drew
  pub row_is : (u : ℕ) → u < n → row job.block u ≡ load_row (rows_from seed n) n u
  unfolding row load_job
  row_is u h =
      let first : ℕ = rows_from seed n in
      let from : row_start job.block u ≡ length (rows u) = get_or_up_to (λ v. length (rows v)) (n + 1) u 0 (omega arith) in
      let to : row_start job.block (u + 1) ≡ length (rows (u + 1)) = get_or_up_to (λ v. length (rows v)) (n + 1) (u + 1) 0 (omega arith) in
      let k : ℕ = n - (u + 1) in
      let whole : k + (u + 1) ≡ n = omega arith in
      let front : take (length (rows (u + 1))) (rows n) ≡ rows u ++ load_row first n u =
      subst (λ (m : ℕ). take (length (rows (u + 1))) (rows m) ≡ rows u ++ load_row first n u) whole
      (rows_begin first n (u + 1) k ∙ rw add-one (rows_more first n u)) in
      ap (λ (m : ℕ). slice m (row_start job.block (u + 1)) (rows n)) from
      ∙ ap (λ (m : ℕ). drop (length (rows u)) (take m (rows n))) to
      ∙ ap (drop (length (rows u))) front
      ∙ drop-append_seam (rows u) (load_row first n u)

  -- a net has the source that it drew
  pub source_is : (i : ℕ) → i < count → source job i ≡ load_source (nets_from seed n) n i
  unfolding load_job
  source_is i l = get_or_up_to (load_source (nets_from seed n) n) count i 0 l

  -- and the sink
  pub sinks_are : (i : ℕ) → i < count → net_sinks job i ≡ load_sink (nets_from seed n) n i ∷ []
  unfolding net_sinks load_job
  sinks_are i l =
      rw (get_or_up_to (λ k. k) (count + 1) i 0 (omega arith), get_or_up_to (λ k. k) (count + 1) (i + 1) 0 (omega arith))
      (up_to_one (load_sink (nets_from seed n) n) count i l)

  module _ (least : 8 ≤ n) (most : n ≤ 256) (some : 1 ≤ count) (few : count ≤ 64) where
    kinds_fit : kinds_sound job.block.kinds ≡ true
    unfolding kinds_sound load_job
    kinds_fit =
        let long : length (up_to (load_kind seed n) n) ≡ n = length_up_to (load_kind seed n) n in
        let some_nodes : leb 1 (length (up_to (load_kind seed n) n)) ≡ true = rw long (le-leb 1 n (omega arith)) in
        let few-nodes : leb (length (up_to (load_kind seed n) n)) nodes_most ≡ true = rw long (le-leb n nodes_most (omega arith)) in
        both_true (both_true some_nodes few-nodes)
        (up_to_every (load_kind seed n) n (λ k. leb k kind_most) (λ i l. le-leb (load_kind seed n i) kind_most (omega (arith, kind_most_lem seed n i))))

    capacities_fit : capacities_sound (nodes job) job.block.capacities ≡ true
    unfolding capacities_sound load_job
    capacities_fit =
        let ones : List ℕ = replicate n 1 in
        let long : length ones ≡ n = length-replicate {A = ℕ} n 1 in
        let same : eqb (length ones) (length (up_to (load_kind seed n) n)) ≡ true = eq-eqb _ _ (long ∙ sym (length_up_to (load_kind seed n) n)) in
        both_true same
        (every-all (λ c. both (leb 1 c) (leb c capacity_most)) ones (λ i l. let m : i < n = rw long at l in rw (get_or-replicate {A = ℕ} n i 1 0 m)))

    first_edges_fit : first_edges_sound (nodes job) (length job.block.edge_targets) job.block.first_edges ≡ true
    unfolding first_edges_sound load_job
    first_edges_fit =
        let f : ℕ → ℕ = λ u. length (rows u) in
        let start : get_or (up_to f (n + 1)) 0 0 ≡ 0 = get_or_up_to f (n + 1) 0 0 (omega arith) ∙ sym (rows_none (rows_from seed n) n) in
        let end : get_or (up_to f (n + 1)) n 0 ≡ length (rows n) = get_or_up_to f (n + 1) n 0 (omega arith) in
        let long : eqb (length (up_to f (n + 1))) (length (up_to (load_kind seed n) n) + 1) ≡ true =
        eq-eqb (length (up_to f (n + 1))) (length (up_to (load_kind seed n) n) + 1) (omega (arith, length_up_to f (n + 1), length_up_to (load_kind seed n) n)) in
        let begins : eqb (get_or (up_to f (n + 1)) 0 0) 0 ≡ true = eq-eqb _ _ start in
        let ends : eqb (get_or (up_to f (n + 1)) (length (up_to (load_kind seed n) n)) 0) (length (rows n)) ≡ true = rw (length_up_to (load_kind seed n) n) (eq-eqb _ _ end) in
        both_true long
        (both_true begins
        (both_true (up_to_neighbours f (n + 1) leb (λ i l. let longer = rows_longer (rows_from seed n) n i in rw (← add-one i) (le-leb (f i) (f (i + 1)) (omega arith))))
        ends))

    edges_most_lem : length job.block.edge_targets ≤ edges_most
    unfolding load_job
    edges_most_lem = omega (arith, rows_few (rows_from seed n) n n)

    edge_targets_fit : edge_targets_sound job.block ≡ true
    edge_targets_fit =
        edges-all job.block edges_most_lem (nodes job) (omega arith)
        (λ u l. let m : u < n = rw node-count at l in rw (node-count, row_is u m) (row_sound_lem (rows_from seed n) n u))

    pub source-low : (i : ℕ) → load_source (nets_from seed n) n i < quarter n
    unfolding load_source
    source-low i = draw_below (nets_from seed n) (2 * i) (quarter n) (omega arith)

    pub sink-low : (i : ℕ) → (n - quarter n ≤ load_sink (nets_from seed n) n i) × (load_sink (nets_from seed n) n i < n)
    unfolding load_sink
    sink-low i = let d = draw_below (nets_from seed n) (2 * i + 1) (quarter n) (omega arith) in (omega arith, omega arith)

    sources_fit : sources_sound (nodes job) job.sources ≡ true
    unfolding sources_sound load_job
    sources_fit =
        let long = length_up_to (load_source (nets_from seed n) n) count in
        let sources : List ℕ = up_to (load_source (nets_from seed n) n) count in
        let some_nets : leb 1 (length sources) ≡ true = rw long (le-leb 1 count some) in
        let few-nets : leb (length sources) nets_most ≡ true = rw long (le-leb count nets_most (omega arith)) in
        both_true (both_true some_nets few-nets)
        (up_to_every (load_source (nets_from seed n) n) count (λ s. ltb s (length (up_to (load_kind seed n) n)))
        (λ i l. lt-ltb (load_source (nets_from seed n) n i) (length (up_to (load_kind seed n) n)) (omega (arith, source-low i, length_up_to (load_kind seed n) n))))

    source_pins_fit : pins_of source_kind job.block.kinds job.sources ≡ true
    unfolding pins_of one_of load_job
    source_pins_fit =
        up_to_every (load_source (nets_from seed n) n) count (λ v. one_of 0 2 (get_or (up_to (load_kind seed n) n) v 0))
        (λ i l.
        let low = source-low i in
        rw (get_or_up_to (load_kind seed n) n (load_source (nets_from seed n) n i) 0 (omega arith), kind_source seed n (load_source (nets_from seed n) n i) low))

    first_sinks_fit : first_sinks_sound (nets job) (length job.sinks) job.first_sinks ≡ true
    unfolding first_sinks_sound load_job
    first_sinks_fit =
        let places : List ℕ = up_to (λ i. i) (count + 1) in
        let sources : List ℕ = up_to (load_source (nets_from seed n) n) count in
        let sinks : List ℕ = up_to (load_sink (nets_from seed n) n) count in
        let nets_are : length sources ≡ count = length_up_to (load_source (nets_from seed n) n) count in
        let sinks_are : length sinks ≡ count = length_up_to (load_sink (nets_from seed n) n) count in
        let long : eqb (length places) (length sources + 1) ≡ true = eq-eqb (length places) (length sources + 1) (omega (arith, length_up_to (λ i. i) (count + 1))) in
        let begins : eqb (get_or places 0 0) 0 ≡ true = eq-eqb _ _ (get_or_up_to (λ i. i) (count + 1) 0 0 (omega arith)) in
        let end : get_or places count 0 ≡ count = get_or_up_to (λ i. i) (count + 1) count 0 (omega arith) in
        let ends : eqb (get_or places (length sources) 0) (length sinks) ≡ true = rw (nets_are, sinks_are) (eq-eqb _ _ end) in
        both_true long (both_true begins (both_true (up_to_neighbours (λ i. i) (count + 1) ltb (λ i l. lt-ltb i (suc i) (omega arith))) ends))

    net-fits : (i : ℕ) → i < count → net_sound n (source job i) (net_sinks job i) ≡ true
    unfolding net_sound every distinct has
    net-fits i l =
        let low = source-low i in
        let high = sink-low i in
        rw (sinks_are i l, source_is i l, lt-ltb (load_sink (nets_from seed n) n i) n high.1, ne_eqb (load_source (nets_from seed n) n i) (load_sink (nets_from seed n) n i) (λ e. omega arith))

    sinks_most_lem : length job.sinks ≤ sinks_most
    unfolding load_job
    sinks_most_lem = rw (length_up_to (load_sink (nets_from seed n) n) count) (omega arith)

    sinks_fit : sinks_sound (nodes job) job.sources job.first_sinks job.sinks ≡ true
    unfolding sinks_sound net_sinks
    sinks_fit =
        both_true (le-leb (length job.sinks) sinks_most sinks_most_lem)
        (up_to_every (λ i. i) (nets job) (λ i. net_sound (nodes job) (source job i) (sinks_between job.first_sinks job.sinks i))
        (λ i l. let m : i < count = rw net-count at l in rw node-count (net-fits i m)))

    sink_pins_fit : pins_of sink_kind job.block.kinds job.sinks ≡ true
    unfolding pins_of one_of load_job
    sink_pins_fit =
        up_to_every (load_sink (nets_from seed n) n) count (λ v. one_of 1 3 (get_or (up_to (load_kind seed n) n) v 0))
        (λ i l.
        let high = sink-low i in
        rw (get_or_up_to (load_kind seed n) n (load_sink (nets_from seed n) n i) 0 high.1, kind_sink seed n (load_sink (nets_from seed n) n i) high.0))

    terms_fit : terms_sound job.terms ≡ true
    unfolding terms_sound rule_sound limit_sound tuning_sound one_of load_job
    terms_fit = refl

    pub load_sound : SoundJob job
    load_sound =
        record {
          block-sound = record { kinds_sound_lem = kinds_fit; capacities_sound_lem = capacities_fit; first_edges_sound_lem = first_edges_fit; edge_targets_sound_lem = edge_targets_fit };
          sources_sound_lem = sources_fit;
          source_pins_lem = source_pins_fit;
          first_sinks_sound_lem = first_sinks_fit;
          sinks_sound_lem = sinks_fit;
          sink_pins_lem = sink_pins_fit;
          terms_sound_lem = terms_fit;
          delays_sound_lem = λ e. absurd (true≢false (sym e ∙ untimed));
          criticalities_sound_lem = λ e. absurd (true≢false (sym e ∙ untimed));
        }
