-- Theorems of request 2.11: the uses of a log, and those after a run of calls, sum to the size of the final trees; counts that pass 13 pass it
-- after any log; the order of accepted logs makes no difference; and the counts of two runs add up to those of one run over both.
-- Assumes nothing.
use mathlib.Core.Bool.{true}
use mathlib.Core.List.{List, [], ◌∷◌, ◌++◌}
use mathlib.Core.Logic.{◌⊎◌, ⊎_elim, inl, inr}
use mathlib.Core.Path.{◌≡◌, refl, sym, ◌∙◌, ap, ap₂, subst}
use Prim.Native.Nat.{ℕ, ◌+◌, ◌*◌, ◌≤◌, ◌<◌}
use native.Mathlib.Nat.{zero-add, add-zero, add_assoc, add-mul, mul-add, le_trans, min-le_left}
use native.Mathlib.Omega.{arith}
use lib.Dec.{eqb, leb, ltb}
use lib.ListN.{length, get_or, length-replicate}
use borrow.Author.Tests.{le-leb, lt-leb, leb-true, leb-false, le-ltb, ltb-true, ltb-false}
use Rattle.price.specs.Test.{choose}
use Rattle.price.specs.Bounds.{nodes_most}
use Rattle.price.specs.Lists.{has, up_to, first_below, count_below}
use Rattle.price.proofs.TestLaws.{by_test}
use Rattle.price.proofs.ListLaws.{get_or_up_to, length_up_to, up_to_is}
use Rattle.price.proofs.BelowLaws.{first_below-below, first_below-all, count_most_lem}
use Rattle.search.specs.Block.{Block, nodes}
use Rattle.search.specs.Tables.{faulty_table}
use Rattle.search.proofs.BlockLaws.{sound_of, kind_most_lem}
use Rattle.job.specs.Tables.{nets_most}
use Rattle.negotiation.specs.Records.{Record, decode}
use Rattle.negotiation.specs.Demand.{tree_read}
use Rattle.text.specs.Routes.{log_sound}
use Rattle.text.specs.Users.{nets_with}
use Rattle.uses.specs.Uses.{kind_count, logs_most, sum_below, over_kind, uses_in, nodes_of, UseCounts, use_counts_of, too_many, counts_refusal, with_log, of_block, AddReply, add_reply_with, tested_reply, add_reply}
use Rattle.uses.specs.Runs.{tree_size, UsesSum, all_uses, trees_size, UsesGrow, TreesWithin, no_counts, after_calls, trees_added, UsesTotal, Accepted, same, swap, under, through, OrderFree, together, PartsAddUp, StaysWithin, NeverOver}
use Rattle.uses.proofs.TreeLaws.{tree_named}
use Rattle.uses.proofs.SumLaws.{zeros_at, up_to_same_lem, sum_same, sum_plus, sum-turned, count-sum, sum_one, kind_sum-most}

-- ---- the uses of a log

module _ (b : Block) (sound : faulty_table b ≡ 0) where
  -- each node counts under its own kind, so the kinds' sums are the sum over all nodes; and that counts the same pairs of net and node as the trees' sizes
  pub uses-sum : (rs : List Record) → UsesSum b rs
  unfolding uses_in over_kind nets_with tree_size
  uses-sum rs =
      sum-turned (λ k v. choose (eqb (get_or b.kinds v 0) k) (nets_with rs v) 0) kind_count (nodes b)
      ∙ sum_same (λ v. sum_below (λ k. choose (eqb (get_or b.kinds v 0) k) (nets_with rs v) 0) kind_count) (nets_with rs) (nodes b)
      (λ v l. sum_one (get_or b.kinds v 0) (nets_with rs v) kind_count (let most = kind_most_lem b.kinds (sound_of b sound).kinds_sound_lem v l in omega arith))
      ∙ sum_same (nets_with rs) (λ v. sum_below (λ i. choose (has v (tree_read i rs)) 1 0) nets_most) (nodes b)
      (λ v l. count-sum (λ i. has v (tree_read i rs)) nets_most)
      ∙ sum-turned (λ v i. choose (has v (tree_read i rs)) 1 0) (nodes b) nets_most
      ∙ sum_same (λ i. sum_below (λ v. choose (has v (tree_read i rs)) 1 0) (nodes b)) (tree_size b rs) nets_most
      (λ i l. sym (count-sum (λ v. has v (tree_read i rs)) (nodes b)))

-- ---- the test of counts

empty : (xs : List ℕ) → length xs < 1 → xs ≡ []
empty [] l = refl
empty (x ∷ xs) l = absurd (omega arith)

no_numbers : {a b : ℕ} → a ∷ b ∷ [] ≡ [] → ⊥
no_numbers {a} {b} e = let z : ◌≡◌ {A = ℕ} 2 0 = ap length e in omega arith

-- counts that pass: a sound block, few enough logs, and no kind with too many uses
pub record Fine (b : Block) (c : UseCounts) : Type 0 where
  pub sound : faulty_table b ≡ 0
  pub few : c.logs ≤ logs_most
  pub within : (k : ℕ) → k < kind_count → get_or c.uses k 0 ≤ nets_most * c.logs * nodes_of b k

module _ (b : Block) (c : UseCounts) where
  -- the place of the lowest kind that has too many
  abbrev lowest : ℕ
  lowest = first_below (too_many b c) kind_count

  pub fine_passes : Fine b c → counts_refusal b c ≡ []
  unfolding counts_refusal too_many
  fine_passes f =
      let none : lowest ≡ kind_count =
      first_below-all (too_many b c) kind_count (λ k l. le-ltb (nets_most * c.logs * nodes_of b k) (get_or c.uses k 0) (f.within k l)) in
      rw (f.sound, le-ltb logs_most c.logs f.few, none)

  pub passes_fine : counts_refusal b c ≡ [] → Fine b c
  unfolding counts_refusal too_many
  passes_fine e =
      by_test (leb 1 (faulty_table b))
      (λ t. absurd (no_numbers (rw t at e)))
      (λ t.
      by_test (ltb logs_most c.logs)
      (λ u. absurd (no_numbers (rw (t, u) at e)))
      (λ u.
      by_test (ltb lowest kind_count)
      (λ w. absurd (no_numbers (rw (t, u, w) at e)))
      (λ w.
      let none : kind_count ≤ lowest = ltb-false lowest kind_count w in
      let zero-table = leb-false 1 (faulty_table b) t in
      record {
        sound = omega arith;
        few = ltb-false logs_most c.logs u;
        within = λ k l.
            ltb-false (nets_most * c.logs * nodes_of b k) (get_or c.uses k 0) (first_below-below (too_many b c) kind_count k (omega arith));
      })))

-- ---- counts stay within their bounds

module _ (b : Block) (rs : List Record) where
  -- no kind has more uses in a log than 512 for each of its nodes
  uses-most : (k : ℕ) → uses_in b rs k ≤ nets_most * nodes_of b k
  unfolding uses_in nets_with nodes_of
  uses-most k = kind_sum-most b.kinds (λ v. count_below (λ i. has v (tree_read i rs)) nets_most) nets_most k (λ v l. count_most_lem (λ i. has v (tree_read i rs)) nets_most)

  with_at : (c : UseCounts) (k : ℕ) → k < kind_count → get_or (with_log b c rs).uses k 0 ≡ get_or c.uses k 0 + uses_in b rs k
  unfolding with_log
  with_at c k l = get_or_up_to (λ k. get_or c.uses k 0 + uses_in b rs k) kind_count k 0 l

  with_logs : (c : UseCounts) → (with_log b c rs).logs ≡ c.logs + 1
  unfolding with_log
  with_logs c = refl

  more-logs : (m x y z : ℕ) → x ≤ 512 * m * z → y ≤ 512 * z → x + y ≤ 512 * (m + 1) * z
  more-logs m x y z p q =
      let parts : (512 * m + 512) * z ≡ 512 * m * z + 512 * z = add-mul (512 * m) 512 z in
      let e : 512 * (m + 1) ≡ 512 * m + 512 = omega arith in
      rw e (omega arith)

  pub fine_more : (c : UseCounts) → Fine b c → c.logs < logs_most → Fine b (with_log b c rs)
  fine_more c f l =
      record {
        sound = f.sound;
        few = rw (with_logs c) (omega arith);
        within = λ k h. rw (with_at c k h, with_logs c) (more-logs c.logs (get_or c.uses k 0) (uses_in b rs k) (nodes_of b k) (f.within k h) (uses-most k));
      }

-- ---- a call that adds a log

-- the log is added: counts that pass, a sound log, and room for one more
pub record Adds (b : Block) (c : UseCounts) (log : List ℕ) : Type 0 where
  pub fine : Fine b c
  pub log_sound_lem : log_sound (of_block b) log ≡ true
  pub room : c.logs < logs_most

module _ (b : Block) (c : UseCounts) (log : List ℕ) where
  pub adds_reply : Adds b c log → add_reply b c log ≡ add_reply_with [] (with_log b c (decode log))
  unfolding add_reply tested_reply
  adds_reply h = rw (fine_passes b c h.fine, h.log_sound_lem, lt-leb logs_most c.logs h.room)

  -- it is added, or the counts stay
  reply_cases : Adds b c log ⊎ (((add_reply b c log).counts ≡ c) × ((add_reply b c log).refusal ≡ [] → ⊥))
  unfolding add_reply tested_reply
  reply_cases =
      by_test (leb 1 (length (counts_refusal b c)))
      (λ t.
      inr (rw t, λ e. let some = leb-true 1 (length (counts_refusal b c)) t in let none : length (counts_refusal b c) ≡ 0 = ap length (rw t at e) in omega arith))
      (λ t.
      by_test (log_sound (of_block b) log)
      (λ u.
      by_test (leb logs_most c.logs)
      (λ w. inr (rw (t, u, w), λ e. no_numbers (rw (t, u, w) at e)))
      (λ w.
      inl (record { fine = passes_fine b c (empty (counts_refusal b c) (leb-false 1 (length (counts_refusal b c)) t)); log_sound_lem = u; room = leb-false logs_most c.logs w })))
      (λ u. inr (rw (t, u), λ e. no_numbers (rw (t, u) at e))))

  pub adds_of : (add_reply b c log).refusal ≡ [] → Adds b c log
  adds_of e = ⊎_elim (λ h. h) (λ h. absurd (h.1 e)) reply_cases

  -- there stay as many counts
  pub counts-long : length c.uses ≡ kind_count → length (add_reply b c log).counts.uses ≡ kind_count
  unfolding with_log
  counts-long long =
      ⊎_elim
      (λ (h : Adds b c log). rw (adds_reply h) (length_up_to (λ k. get_or c.uses k 0 + uses_in b (decode log) k) kind_count))
      (λ h. rw h.0 long)
      reply_cases

pub stays_within : (b : Block) → StaysWithin b
stays_within b c log passes =
    ⊎_elim
    (λ (h : Adds b c log). rw (adds_reply b c log h) (fine_passes b (with_log b c (decode log)) (fine_more b (decode log) c h.fine h.room)))
    (λ h. rw h.0 passes)
    (reply_cases b c log)

run_within : (b : Block) (logs : List (List ℕ)) (c : UseCounts) → counts_refusal b c ≡ [] → counts_refusal b (after_calls b c logs) ≡ []
unfolding after_calls
run_within b [] c passes = passes
run_within b (log ∷ logs) c passes = run_within b logs (add_reply b c log).counts (stays_within b c log passes)

none_fine : (b : Block) → faulty_table b ≡ 0 → Fine b no_counts
none_fine b sound = record { sound = sound; few = omega arith; within = λ k l. rw (zeros_at kind_count k) (omega arith) }

pub never_over : (b : Block) → NeverOver b
never_over b logs sound = run_within b logs no_counts (fine_passes b no_counts (none_fine b sound))

-- each log that is added adds the size of its final trees
pub uses_grow : (b : Block) → UsesGrow b
uses_grow b c log e =
    let h = adds_of b c log e in
    rw (adds_reply b c log h)
    (sum_same (λ k. get_or (with_log b c (decode log)).uses k 0) (λ k. get_or c.uses k 0 + uses_in b (decode log) k) kind_count (λ k l. with_at b (decode log) c k l)
    ∙ sum_plus (λ k. get_or c.uses k 0) (uses_in b (decode log)) kind_count
    ∙ ap (λ (s : ℕ). sum_below (λ k. get_or c.uses k 0) kind_count + s) (uses-sum b h.fine.sound (decode log)))

-- a list that is not empty has an entry
some : (xs : List ℕ) → (xs ≡ [] → ⊥) → 1 ≤ length xs
some [] filled = absurd (filled refl)
some (x ∷ xs) filled = omega arith

-- and a refused one nothing
call_total :
    (b : Block) (c : UseCounts) (log : List ℕ)
    → all_uses (add_reply b c log).counts ≡ all_uses c + choose (leb 1 (length (add_reply b c log).refusal)) 0 (trees_size b log)
call_total b c log =
    ⊎_elim
    (λ (h : Adds b c log).
    let e : (add_reply b c log).refusal ≡ [] = ap (λ (r : AddReply). r.refusal) (adds_reply b c log h) in
    uses_grow b c log e ∙ rw e)
    (λ h. rw (h.0, le-leb 1 (length (add_reply b c log).refusal) (some (add_reply b c log).refusal h.1)) (sym (add-zero (all_uses c))))
    (reply_cases b c log)

-- of a run that begins with any counts
run_total : (b : Block) (logs : List (List ℕ)) (c : UseCounts) → all_uses (after_calls b c logs) ≡ all_uses c + trees_added b c logs
unfolding after_calls trees_added
run_total b [] c = sym (add-zero (all_uses c))
run_total b (log ∷ more) c =
    let after = (add_reply b c log).counts in
    let size = choose (leb 1 (length (add_reply b c log).refusal)) 0 (trees_size b log) in
    run_total b more after
    ∙ ap (λ (s : ℕ). s + trees_added b after more) (call_total b c log)
    ∙ add_assoc (all_uses c) size (trees_added b after more)

no_uses : all_uses no_counts ≡ 0
unfolding sum_below
no_uses = refl

pub uses-total : (b : Block) → UsesTotal b
uses-total b logs = run_total b logs no_counts ∙ ap (λ (s : ℕ). s + trees_added b no_counts logs) no_uses ∙ zero-add (trees_added b no_counts logs)

pub trees-within : (b : Block) → TreesWithin b
trees-within b c log e i v h =
    let within = tree_named (of_block b) i v log (adds_of b c log e).log_sound_lem h in
    (ltb-true i nets_most within.0, le_trans within.1 (min-le_left (nodes b) nodes_most))

-- ---- the order of logs

module _ (b : Block) where
  -- two logs change places
  two_logs : (c : UseCounts) (x y : List Record) → with_log b (with_log b c x) y ≡ with_log b (with_log b c y) x
  unfolding with_log
  two_logs c x y =
      ap (λ (l : List ℕ). use_counts_of l (c.logs + 1 + 1))
      (up_to_same_lem
      (λ k. get_or (up_to (λ m. get_or c.uses m 0 + uses_in b x m) kind_count) k 0 + uses_in b y k)
      (λ k. get_or (up_to (λ m. get_or c.uses m 0 + uses_in b y m) kind_count) k 0 + uses_in b x k)
      kind_count
      (λ k l. omega (arith, get_or_up_to (λ m. get_or c.uses m 0 + uses_in b x m) kind_count k 0 l, get_or_up_to (λ m. get_or c.uses m 0 + uses_in b y m) kind_count k 0 l)))

  -- after a log that is added, what the next call sees
  added : (c : UseCounts) (log : List ℕ) → Adds b c log → (add_reply b c log).counts ≡ with_log b c (decode log)
  added c log h = ap (λ (r : AddReply). r.counts) (adds_reply b c log h)

  swap_adds : (c : UseCounts) (x y : List ℕ) → Adds b c x → Adds b (with_log b c (decode x)) y → Adds b c y × Adds b (with_log b c (decode y)) x
  swap_adds c x y h g =
      let second : c.logs + 1 < logs_most = rw (with_logs b (decode x) c) at g.room in
      let first : Adds b c y = record { fine = h.fine; log_sound_lem = g.log_sound_lem; room = h.room } in
      (first, record { fine = fine_more b (decode y) c h.fine h.room; log_sound_lem = h.log_sound_lem; room = rw (with_logs b (decode y) c) second })

  accepted_first : (c : UseCounts) (log : List ℕ) (logs : List (List ℕ)) → Adds b c log → Accepted b (with_log b c (decode log)) logs → Accepted b c (log ∷ logs)
  unfolding Accepted
  accepted_first c log logs h rest = (ap (λ (r : AddReply). r.refusal) (adds_reply b c log h), rw (added c log h) rest)

  calls_first : (c : UseCounts) (log : List ℕ) (logs : List (List ℕ)) → Adds b c log → after_calls b c (log ∷ logs) ≡ after_calls b (with_log b c (decode log)) logs
  unfolding after_calls
  calls_first c log logs h = rw (added c log h)

  record First (c : UseCounts) (log : List ℕ) (logs : List (List ℕ)) : Type 0 where
    adds : Adds b c log
    others : Accepted b (with_log b c (decode log)) logs

  first_of : (c : UseCounts) (log : List ℕ) (logs : List (List ℕ)) → Accepted b c (log ∷ logs) → First c log logs
  unfolding Accepted
  first_of c log logs (e, rest) =
      let h = adds_of b c log e in
      record { adds = h; others = rw (added c log h) at rest }

  pub order-free : OrderFree b
  order-free c xs ys same a = (a, refl)
  order-free c xs ys (swap {x = x} {y = y} {xs = zs}) a =
      let one = first_of c x (y ∷ zs) a in
      let two = first_of (with_log b c (decode x)) y zs one.others in
      let turned = swap_adds c x y one.adds two.adds in
      let rest : Accepted b (with_log b (with_log b c (decode y)) (decode x)) zs = subst (λ (d : UseCounts). Accepted b d zs) (two_logs c (decode x) (decode y)) two.others in (
        accepted_first c y (x ∷ zs) turned.0 (accepted_first (with_log b c (decode y)) x zs turned.1 rest),
        calls_first c x (y ∷ zs) one.adds ∙ calls_first (with_log b c (decode x)) y zs two.adds
            ∙ ap (λ (d : UseCounts). after_calls b d zs) (two_logs c (decode x) (decode y))
            ∙ sym (calls_first c y (x ∷ zs) turned.0 ∙ calls_first (with_log b c (decode y)) x zs turned.1),
      )
  order-free c xs ys (under {x = x} {xs = us} {ys = vs} r) a =
      let one = first_of c x us a in
      let rest = order-free (with_log b c (decode x)) us vs r one.others in
      (accepted_first c x vs one.adds rest.0, calls_first c x us one.adds ∙ rest.1 ∙ sym (calls_first c x vs one.adds))
  order-free c xs ys (through {ys = us} r s) a =
      let first = order-free c xs us r a in
      let then = order-free c us ys s first.0 in
      (then.0, first.1 ∙ then.1)

-- ---- a run in parts

module _ (b : Block) where
  module _ (c d : UseCounts) where
    together_at : (k : ℕ) → k < kind_count → get_or (together c d).uses k 0 ≡ get_or c.uses k 0 + get_or d.uses k 0
    unfolding together
    together_at k l = get_or_up_to (λ k. get_or c.uses k 0 + get_or d.uses k 0) kind_count k 0 l

    together-logs : (together c d).logs ≡ c.logs + d.logs
    unfolding together
    together-logs = refl

    both-within : (m n x y z : ℕ) → x ≤ 512 * m * z → y ≤ 512 * n * z → x + y ≤ 512 * (m + n) * z
    both-within m n x y z p q =
        let parts : (512 * m + 512 * n) * z ≡ 512 * m * z + 512 * n * z = add-mul (512 * m) (512 * n) z in
        let e : 512 * (m + n) ≡ 512 * m + 512 * n = mul-add 512 m n in
        rw e (omega arith)

    fine_together : Fine b c → Fine b d → c.logs + d.logs ≤ logs_most → Fine b (together c d)
    fine_together f g l =
        record {
          sound = f.sound;
          few = rw together-logs l;
          within = λ k h. rw (together_at k h, together-logs) (both-within c.logs d.logs (get_or c.uses k 0) (get_or d.uses k 0) (nodes_of b k) (f.within k h) (g.within k h));
        }

    -- one log more in the second run is one more in both together
    together-more : (rs : List Record) → with_log b (together c d) rs ≡ together c (with_log b d rs)
    unfolding with_log together
    together-more rs =
        ap₂ use_counts_of
        (up_to_same_lem
        (λ k. get_or (up_to (λ m. get_or c.uses m 0 + get_or d.uses m 0) kind_count) k 0 + uses_in b rs k)
        (λ k. get_or c.uses k 0 + get_or (up_to (λ m. get_or d.uses m 0 + uses_in b rs m) kind_count) k 0)
        kind_count
        (λ k l. omega (arith, get_or_up_to (λ m. get_or c.uses m 0 + get_or d.uses m 0) kind_count k 0 l, get_or_up_to (λ m. get_or d.uses m 0 + uses_in b rs m) kind_count k 0 l)))
        (add_assoc c.logs d.logs 1)

  -- a log that is added counts
  logs_added : (d : UseCounts) (log : List ℕ) → Adds b d log → (add_reply b d log).counts.logs ≡ d.logs + 1
  logs_added d log h = ap (λ (x : UseCounts). x.logs) (added b d log h) ∙ with_logs b (decode log) d

  -- a run never has fewer logs than it began with
  logs_grow : (logs : List (List ℕ)) (d : UseCounts) → d.logs ≤ (after_calls b d logs).logs
  unfolding after_calls
  logs_grow [] d = omega arith
  logs_grow (log ∷ logs) d =
      let rest = logs_grow logs (add_reply b d log).counts in
      ⊎_elim
      (λ (h : Adds b d log). let e = logs_added d log h in omega arith)
      (λ h. let e : (add_reply b d log).counts.logs ≡ d.logs = ap (λ (x : UseCounts). x.logs) h.0 in omega arith)
      (reply_cases b d log)

  module _ (c : UseCounts) (c-fine : faulty_table b ≡ 0 → Fine b c) where
    -- a log is added to both together where it is added to the second, which then has room for it
    call_together :
        (d : UseCounts) (log : List ℕ) → (faulty_table b ≡ 0 → Fine b d) → c.logs + (add_reply b d log).counts.logs ≤ logs_most
        → (add_reply b (together c d) log).counts ≡ together c (add_reply b d log).counts
    call_together d log d-fine few =
        ⊎_elim
        (λ (h : Adds b d log).
        let more = logs_added d log h in
        let adds : Adds b (together c d) log =
        record {
          fine = fine_together c d (c-fine h.fine.sound) h.fine (omega arith);
          log_sound_lem = h.log_sound_lem;
          room = rw (together-logs c d) (omega arith);
        } in
        added b (together c d) log adds ∙ together-more c d (decode log) ∙ ap (together c) (sym (added b d log h)))
        (λ stays.
        ⊎_elim
        (λ (h : Adds b (together c d) log).
        let room : c.logs + d.logs < logs_most = rw (together-logs c d) at h.room in
        let adds : Adds b d log = record { fine = d-fine h.fine.sound; log_sound_lem = h.log_sound_lem; room = omega arith } in
        absurd (stays.1 (ap (λ (r : AddReply). r.refusal) (adds_reply b d log adds))))
        (λ same. same.0 ∙ ap (together c) (sym stays.0))
        (reply_cases b (together c d) log))
        (reply_cases b d log)

    fine_after : (d : UseCounts) (log : List ℕ) → (faulty_table b ≡ 0 → Fine b d) → faulty_table b ≡ 0 → Fine b (add_reply b d log).counts
    fine_after d log fine sound = passes_fine b (add_reply b d log).counts (stays_within b d log (fine_passes b d (fine sound)))

    run_together :
        (logs : List (List ℕ)) (d : UseCounts) → (faulty_table b ≡ 0 → Fine b d) → c.logs + (after_calls b d logs).logs ≤ logs_most
        → after_calls b (together c d) logs ≡ together c (after_calls b d logs)
    unfolding after_calls
    run_together [] d fine few = refl
    run_together (log ∷ logs) d fine few =
        let grown = logs_grow logs (add_reply b d log).counts in
        ap (λ (x : UseCounts). after_calls b x logs) (call_together d log fine (omega arith))
        ∙ run_together logs (add_reply b d log).counts (fine_after d log fine) few

  run_append : (xs ys : List (List ℕ)) (d : UseCounts) → after_calls b d (xs ++ ys) ≡ after_calls b (after_calls b d xs) ys
  unfolding after_calls
  run_append [] ys d = refl
  run_append (x ∷ xs) ys d = run_append xs ys (add_reply b d x).counts

  run_long : (logs : List (List ℕ)) (d : UseCounts) → length d.uses ≡ kind_count → length (after_calls b d logs).uses ≡ kind_count
  unfolding after_calls
  run_long [] d long = long
  run_long (log ∷ logs) d long = run_long logs (add_reply b d log).counts (counts-long b d log long)

  together-none : (c : UseCounts) → length c.uses ≡ kind_count → together c no_counts ≡ c
  unfolding together
  together-none c long =
      ap₂ use_counts_of
      (sym (up_to_is (λ k. get_or c.uses k 0 + get_or no_counts.uses k 0) kind_count c.uses long (λ k l. rw (zeros_at kind_count k) (sym (add-zero (get_or c.uses k 0))))))
      (add-zero c.logs)

  run_fine : (logs : List (List ℕ)) → faulty_table b ≡ 0 → Fine b (after_calls b no_counts logs)
  run_fine logs sound = passes_fine b (after_calls b no_counts logs) (never_over b logs sound)

  pub parts_add_up : PartsAddUp b
  parts_add_up xs ys few =
      let first : UseCounts = after_calls b no_counts xs in
      let long : length first.uses ≡ kind_count = run_long xs no_counts (length-replicate {A = ℕ} kind_count 0) in
      sym
      (run_append xs ys no_counts
      ∙ ap (λ (x : UseCounts). after_calls b x ys) (sym (together-none first long))
      ∙ run_together first (run_fine xs) ys no_counts (none_fine b) few)
