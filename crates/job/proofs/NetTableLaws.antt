-- How a pass over tables 5 to 10 decides their rules: by the entry that breaks one, or by every entry passed.
--     sources-all, stays_at, always_rises, firsts-    tables 5 and 6
--     net-answer, Passing, passing-, nets-            table 7
--     kind_, pin_bad, pins_all                        the pins' kinds
--     terms-, faulty_                                 table 8, and the lowest of tables 5 to 8
--     times_                                          tables 9 and 10
--     block-, faulty_by_nets, nets_refused, times_last  the lowest faulty table of all
--     named                                           tables 1 to 4 and 9, by what the cheapest path refuses
-- Assumes nothing.
use mathlib.Core.Bool.{Bool, true, false}
use mathlib.Core.List.{List, [], ◌∷◌}
use mathlib.Core.Logic.{⊎_elim}
use mathlib.Core.Path.{◌≡◌, refl, sym, ◌∙◌, ap}
use Prim.Native.Nat.{ℕ, zero, suc, ◌+◌, ◌-◌, ◌≤◌, ◌<◌}
use native.Mathlib.Numerals.{unary_clauses}
use native.Mathlib.Omega.{arith}
use lib.Dec.{leb, ltb, eqb}
use lib.ListN.{length, get_or, take, drop, replicate, length-replicate}
use borrow.Author.Count.{below_none, below_more}
use borrow.Author.Tests.{le-leb, lt-leb, lt-ltb, le-ltb, eq-eqb, ne_eqb}
use Rattle.std.specs.Prelude.{Option, Result, Ok, Err}
use Rattle.std.specs.Result.{is_ok}
use Rattle.price.specs.Test.{choose}
use Rattle.price.specs.Bounds.{nodes_most, limit_most, factor_most}
use Rattle.price.specs.Tuning.{tuning_sound}
use Rattle.price.specs.Timed.{untimed}
use Rattle.price.specs.declared.Weighting.{Weighting}
use Rattle.price.specs.Lists.{every, neighbours, up_to}
use Rattle.price.proofs.TestLaws.{by_test, le_or_lt, both_true, both_false_right, true≢false}
use Rattle.price.proofs.ListLaws.{every-all, every-none, neighbours-all, neighbours-none, length_up_to, get_or_up_to, part_slice}
use Rattle.search.specs.Block.{Block}
use Rattle.search.specs.Block as block
use Rattle.search.specs.Replies.{tested}
use Rattle.search.specs.Tables.{faulty_table, delays_sound}
use Rattle.search.specs.Turn.{Congestion, weighed_congestion}
use Rattle.search.specs.Replies.{work_needed, bad_node, too_many, bad_criticality, refusal_of, sinks_most, faulty_with_delays, faulty_with_sinks, fitting, path_reply_of, path_reply}
use Rattle.search.proofs.PriceableLaws.{fitted}
use Rattle.search.specs.Replies as search
use Rattle.search.specs.declared.BadTable as bad
use Rattle.search.specs.declared.Joins.{Joins}
use Rattle.search.specs.declared.Refusal.{Refusal}
use Rattle.search.specs.declared.Refusal.TheVariants.{BadTable, ShortWork, BadNumber, TooLarge}
use Rattle.search.proofs.BlockLaws.{sound_of, kinds-few}
use Rattle.job.specs.Job.{Job, nodes, sinks_between, if_timed}
use Rattle.job.specs.Tables.{nets_most, sources_sound, first_sinks_sound, net_sound, sinks_sound, limit_sound, rule_sound, terms_sound, one_of, pins_of, source_pins, sink_pins, faulty_nets, criticalities_sound, faulty_times, faulty_untimed, faulty_job}
use Rattle.job.specs.declared.Terms.{Terms}
use Rattle.job.proofs.SinkMarkLaws.{Unmarked, unmarked_new}

-- ---- table 5

pub sources-all : (n : ℕ) (ss : List ℕ) (i : ℕ) → 1 ≤ length ss → length ss ≤ nets_most → length ss ≤ i → ((k : ℕ) → k < i → get_or ss k 0 < n) → sources_sound n ss ≡ true
unfolding sources_sound
sources-all n ss i some few end all =
    both_true (both_true (le-leb 1 (length ss) some) (le-leb (length ss) nets_most few))
    (every-all (λ s. ltb s n) ss (λ k l. lt-ltb (get_or ss k 0) n (all k (omega arith))))

-- ---- table 6

pub stays_at : (fs : List ℕ) (v : ℕ) → 1 ≤ v → v < length fs → get_or fs v 0 ≤ get_or fs (v - 1) 0 → neighbours ltb fs ≡ false
stays_at fs zero h l less = absurd (omega arith)
stays_at fs (suc v) h l less = neighbours-none ltb fs v l (le-ltb (get_or fs v 0) (get_or fs (suc v) 0) (simp unary_clauses at less))

pub always_rises : (fs : List ℕ) (v : ℕ) → length fs ≤ v → ((k : ℕ) → k < v → 1 ≤ k → get_or fs (k - 1) 0 < get_or fs k 0) → neighbours ltb fs ≡ true
always_rises fs v end all =
    neighbours-all ltb fs (λ i l. lt-ltb (get_or fs i 0) (get_or fs (suc i) 0) (simp unary_clauses at (all (suc i) (omega arith) (omega arith))))

module _ (n places : ℕ) (fs : List ℕ) where
  -- all but the last entry
  pub firsts-last : length fs ≡ n + 1 → get_or fs 0 0 ≡ 0 → neighbours ltb fs ≡ true → first_sinks_sound n places fs ≡ eqb (get_or fs n 0) places
  unfolding first_sinks_sound
  firsts-last long first h = rw (eq-eqb (length fs) (n + 1) long, eq-eqb (get_or fs 0 0) 0 first, h)

-- ---- table 7

module _ (n : ℕ) (ss fs ts : List ℕ) where
  pub nets_bad : (i : ℕ) → i < length ss → net_sound n (get_or ss i 0) (sinks_between fs ts i) ≡ false → sinks_sound n ss fs ts ≡ false
  unfolding sinks_sound
  nets_bad i h bad =
      both_false_right (leb (length ts) sinks_most) _
      (every-none (λ i. net_sound n (get_or ss i 0) (sinks_between fs ts i)) (up_to (λ i. i) (length ss)) i (rw length_up_to h) (rw (get_or_up_to (λ i. i) (length ss) i 0 h) bad))

  pub nets-all : (i : ℕ) → length ts ≤ sinks_most → length ss ≤ i → ((k : ℕ) → k < i → net_sound n (get_or ss k 0) (sinks_between fs ts k) ≡ true) → sinks_sound n ss fs ts ≡ true
  unfolding sinks_sound
  nets-all i few end all =
      both_true (le-leb (length ts) sinks_most few)
      (every-all (λ i. net_sound n (get_or ss i 0) (sinks_between fs ts i)) (up_to (λ i. i) (length ss))
      (λ k l.
      let net : k < length ss = rw length_up_to at l in
      rw (get_or_up_to (λ i. i) (length ss) k 0 net) (all k (omega arith))))

-- the answer for a net, of the part of table 7 that is lent
pub net-answer :
    {r : Bool} (n : ℕ) (ss fs ts : List ℕ) (i : ℕ) → r ≡ net_sound n (get_or ss i 0) (take (get_or fs (i + 1) 0 - get_or fs i 0) (drop (get_or fs i 0) ts))
    → r ≡ net_sound n (get_or ss i 0) (sinks_between fs ts i)
net-answer n ss fs ts i e = e ∙ ap (net_sound n (get_or ss i 0)) (part_slice (get_or fs i 0) (get_or fs (i + 1) 0) ts)

-- the nets below place i keep the rule, and no mark is left
pub record Passing (n : ℕ) (ss fs ts seen : List ℕ) (i : ℕ) : Type 0 where
  pub sound : (k : ℕ) → k < i → net_sound n (get_or ss k 0) (sinks_between fs ts k) ≡ true
  pub unmarked : Unmarked seen
  pub long : length seen ≡ 4096

pub passing-none : (n : ℕ) (ss fs ts : List ℕ) → Passing n ss fs ts (replicate 4096 0) 0
passing-none n ss fs ts =
    record { sound = below_none _; unmarked = unmarked_new 4096; long = length-replicate {A = ℕ} 4096 0 }

pub passing-more :
    {n : ℕ} {ss fs ts seen left : List ℕ} (i : ℕ) → Passing n ss fs ts seen i → net_sound n (get_or ss i 0) (sinks_between fs ts i) ≡ true
    → Unmarked left → length left ≡ length seen → Passing n ss fs ts left (i + 1)
passing-more i p here none long =
    record { sound = below_more _ i p.sound here; unmarked = none; long = long ∙ p.long }

-- ---- the pins' kinds

module _ (a b kind : ℕ) where
  pub kind_first : kind ≡ a → true ≡ one_of a b kind
  unfolding one_of
  kind_first e = rw (eq-eqb kind a e)

  pub kind_second : (kind ≡ a → ⊥) → eqb kind b ≡ one_of a b kind
  unfolding one_of
  kind_second n = rw (ne_eqb kind a n)

module _ (test : ℕ → Bool) (kinds ps : List ℕ) where
  pub pin_bad : (i : ℕ) → i < length ps → test (get_or kinds (get_or ps i 0) 0) ≡ false → pins_of test kinds ps ≡ false
  unfolding pins_of
  pin_bad i h bad = every-none (λ v. test (get_or kinds v 0)) ps i h bad

  pub pins_all : (i : ℕ) → length ps ≤ i → ((k : ℕ) → k < i → test (get_or kinds (get_or ps k 0) 0) ≡ true) → pins_of test kinds ps ≡ true
  unfolding pins_of
  pins_all i end all = every-all (λ v. test (get_or kinds v 0)) ps (λ k l. all k (omega arith))

-- ---- table 8 and the lowest of tables 5 to 8

module _ (t : Terms) where
  pub terms-low : t.limit < 1 → terms_sound t ≡ false
  unfolding terms_sound limit_sound
  terms-low h = rw (lt-leb 1 t.limit h)

  pub terms-high : 1 ≤ t.limit → limit_most < t.limit → terms_sound t ≡ false
  unfolding terms_sound limit_sound
  terms-high some h = rw (le-leb 1 t.limit some, lt-leb t.limit limit_most h)

  pub terms-tuning : 1 ≤ t.limit → t.limit ≤ limit_most → tuning_sound t.tuning ≡ false → terms_sound t ≡ false
  unfolding terms_sound limit_sound
  terms-tuning some few bad = rw (le-leb 1 t.limit some, le-leb t.limit limit_most few, bad)

  pub terms-rule : 1 ≤ t.limit → t.limit ≤ limit_most → tuning_sound t.tuning ≡ true → terms_sound t ≡ rule_sound t.rule t.until
  unfolding terms_sound limit_sound
  terms-rule some few fits = rw (le-leb 1 t.limit some, le-leb t.limit limit_most few, fits)

module _ (kinds ss fs ts : List ℕ) (terms : Terms) where
  pub faulty_5 : sources_sound (length kinds) ss ≡ false → faulty_nets kinds ss fs ts terms ≡ 5
  unfolding faulty_nets
  faulty_5 p = rw p

  module _ (p : sources_sound (length kinds) ss ≡ true) where
    pub faulty_source : source_pins kinds ss ≡ false → faulty_nets kinds ss fs ts terms ≡ 5
    unfolding faulty_nets
    faulty_source u = rw (p, u)

    module _ (u : source_pins kinds ss ≡ true) where
      pub faulty_6 : first_sinks_sound (length ss) (length ts) fs ≡ false → faulty_nets kinds ss fs ts terms ≡ 6
      unfolding faulty_nets
      faulty_6 q = rw (p, u, q)

      module _ (q : first_sinks_sound (length ss) (length ts) fs ≡ true) where
        pub faulty_7 : sinks_sound (length kinds) ss fs ts ≡ false → faulty_nets kinds ss fs ts terms ≡ 7
        unfolding faulty_nets
        faulty_7 r = rw (p, u, q, r)

        module _ (r : sinks_sound (length kinds) ss fs ts ≡ true) where
          pub faulty_sink : sink_pins kinds ts ≡ false → faulty_nets kinds ss fs ts terms ≡ 7
          unfolding faulty_nets
          faulty_sink v = rw (p, u, q, r, v)

          module _ (v : sink_pins kinds ts ≡ true) where
            pub faulty_8 : terms_sound terms ≡ false → faulty_nets kinds ss fs ts terms ≡ 8
            unfolding faulty_nets
            faulty_8 e = rw (p, u, q, r, v, e)

            pub faulty_no_net : terms_sound terms ≡ true → faulty_nets kinds ss fs ts terms ≡ 0
            unfolding faulty_nets
            faulty_no_net e = rw (p, u, q, r, v, e)

-- ---- a test of tables as a result

-- the first of two is refused
first_refused : {refused : bad.BadTable} (a b : ℕ) → Err refused ≡ tested a → Err refused ≡ tested (choose (leb 1 a) a b)
first_refused zero b e = absurd (true≢false (sym (ap is_ok e)))
first_refused (suc k) b e = rw (le-leb 1 (suc k) (omega arith)) e

first_passed : {r : Result (Unit {0}) bad.BadTable} (a b : ℕ) → a ≡ 0 → r ≡ tested b → r ≡ tested (choose (leb 1 a) a b)
first_passed a b none e = rw none e

-- ---- tables 9 and 10

-- an untimed job has none of what is lent
times_lent : (t : Terms) (n m : ℕ) (ds cs : List ℕ) → faulty_times t n m (if_timed t ds) (if_timed t cs) ≡ faulty_times t n m ds cs
unfolding faulty_times
times_lent t n m ds cs =
    by_test t.timed (λ q. rw q) (λ q. rw q)

-- the tests one after the other, where the block is sound
module _ (b : Block) (t : Terms) (m : ℕ) (ds cs : List ℕ) (timed : t.timed ≡ true) (sound : faulty_table b ≡ 0) where
  abbrev by_delays : ℕ
  by_delays = faulty_with_delays b (weighed_congestion (record { timed = true; criticality = 0 }) ds 0 [] [])

  by_sound : (kept : Bool) → delays_sound (block.nodes b) ds ≡ kept → by_delays ≡ choose kept 0 9
  unfolding faulty_with_delays
  by_sound true q = rw (sound, q)
  by_sound false q = rw (sound, q)

  pub times_9 : {refused : bad.BadTable} → Err refused ≡ tested by_delays → Err refused ≡ tested (faulty_times t (block.nodes b) m ds cs)
  unfolding faulty_times
  times_9 e =
      by_test (delays_sound (block.nodes b) ds)
      (λ q. absurd (true≢false (sym (ap is_ok (e ∙ ap tested (by_sound true q))))))
      (λ q. rw (timed, q) (e ∙ ap tested (by_sound false q)))

  pub times_10 : (kept : Bool) → Ok tt ≡ tested by_delays → criticalities_sound m cs ≡ kept → tested (choose kept 0 10) ≡ tested (faulty_times t (block.nodes b) m ds cs)
  unfolding faulty_times
  times_10 kept e c =
      by_test (delays_sound (block.nodes b) ds)
      (λ q. rw (timed, q, c))
      (λ q. absurd (true≢false (ap is_ok (e ∙ ap tested (by_sound false q)))))

-- ---- the lowest of all tables

pub block-few : (b : Block) → faulty_table b ≡ 0 → block.nodes b ≤ nodes_most
block-few b none = kinds-few b.kinds (sound_of b none).kinds_sound_lem

-- where the block is sound and a table from 5 to 8 is not, it is the lowest
module _ {table : ℕ} (j : Job) (e : table ≡ faulty_table j.block) (h : table < 1) {nets : ℕ} (is : nets ≡ faulty_nets j.block.kinds j.sources j.first_sinks j.sinks j.terms) where
  by_nets : faulty_untimed j ≡ nets
  unfolding faulty_untimed
  by_nets = rw (← e, lt-leb 1 table h) (sym is)

  pub faulty_by_nets : 1 ≤ nets → faulty_job j ≡ nets
  unfolding faulty_job
  faulty_by_nets some = rw (by_nets, le-leb 1 nets some)

-- the parts of a job one after the other
module _ (j : Job) where
  pub block_refused : {refused : bad.BadTable} → Err refused ≡ tested (faulty_table j.block) → Err refused ≡ tested (faulty_job j)
  unfolding faulty_job faulty_untimed
  block_refused e = first_refused _ _ (first_refused _ _ e)

  module _ (sound : faulty_table j.block ≡ 0) where
    abbrev of_nets : ℕ
    of_nets = faulty_nets j.block.kinds j.sources j.first_sinks j.sinks j.terms

    pub nets_refused : {refused : bad.BadTable} → Err refused ≡ tested of_nets → Err refused ≡ tested (faulty_job j)
    unfolding faulty_job faulty_untimed
    nets_refused e = first_refused _ _ (first_passed _ _ sound e)

    -- of the two tables that are lent, what the job has
    pub times_last :
        {r : Result (Unit {0}) bad.BadTable} (ds cs : List ℕ) → of_nets ≡ 0 → j.delays ≡ if_timed j.terms ds → j.criticalities ≡ if_timed j.terms cs
        → r ≡ tested (faulty_times j.terms (nodes j) (length j.sinks) ds cs) → r ≡ tested (faulty_job j)
    unfolding faulty_job faulty_untimed
    times_last ds cs none d c e =
        let untimed_none : choose (leb 1 (faulty_table j.block)) (faulty_table j.block) of_nets ≡ 0 = rw (sound, none) in
        first_passed _ _ untimed_none (e ∙ ap tested (rw (d, c) (sym (times_lent j.terms (nodes j) (length j.sinks) ds cs))))

-- ---- the tables that the cheapest path tests, by its refusal

-- the table that a refusal names, 0 where it names none
abbrev pub table_named : List ℕ → ℕ
table_named [] = 0
table_named (k ∷ ks) = choose (eqb k 5) (get_or ks 0 0) 0

-- a test between two refusals that name no table
unnamed : (t : Bool) (xs ys : List ℕ) → table_named xs ≡ 0 → table_named ys ≡ 0 → table_named (choose t xs ys) ≡ 0
unnamed true xs ys p q = p
unnamed false xs ys p q = q

-- a refusal names the faulty table, whatever else is wrong
named_table : (table n work : ℕ) (c : Congestion) (marks : List ℕ) → table_named (refusal_of table n c marks work) ≡ table
unfolding refusal_of
named_table table n work c marks =
    ⊎_elim
    (λ (h : 1 ≤ table). rw (le-leb 1 table h))
    (λ (h : table < 1).
    let none : 0 ≡ table = omega arith in
    rw (lt-leb 1 table h)
    (unnamed (too_many c.weighting n) _ _ refl
    (unnamed (ltb work (work_needed n)) _ _ refl
    (unnamed (ltb (bad_node n c marks) n) _ _ refl
    (unnamed (ltb factor_most c.factor) _ _ refl
    (unnamed (bad_criticality c.weighting) _ _ refl refl))))
    ∙ none))
    (le_or_lt 1 table)

-- with no sinks and one entry of work memory every call is refused, for a table or for another reason
module _ (b : Block) (w : Weighting) (ds : List ℕ) (factor : ℕ) (histories others marks work : List ℕ) (short : length work ≡ 1) where
  abbrev priced : Congestion
  priced = weighed_congestion w ds factor histories others

  -- one entry is too few for any job
  unfit : fitting b priced marks [] work ≡ false
  unfit =
      by_test (fitting b priced marks [] work)
      (λ q.
      absurd (let f = fitted b priced marks [] work q in let some = f.some in let enough = f.enough in omega arith))
      (λ q. q)

  -- of what prices the turn the tables' test reads the delays alone
  no_sinks : faulty_with_sinks b priced [] ≡ faulty_with_delays b (weighed_congestion w ds 0 [] [])
  unfolding faulty_with_sinks faulty_with_delays search.sink_list_sound every
  no_sinks =
      by_test (leb 1 (faulty_table b)) (λ q. rw q) (λ q. rw q)

  refused : table_named (path_reply b priced marks [] work).refusal ≡ faulty_with_delays b (weighed_congestion w ds 0 [] [])
  unfolding path_reply
  refused = rw unfit (named_table (faulty_with_sinks b priced []) (block.nodes b) (length work) priced marks ∙ no_sinks)

  pub named :
      {r answered : Result (Option Joins) Refusal} (left : List ℕ) → path_reply_of r left ≡ path_reply b priced marks [] work → r ≡ answered
      → table_named (path_reply_of answered left).refusal ≡ faulty_with_delays b (weighed_congestion w ds 0 [] [])
  named left e t = ap (λ a. table_named (path_reply_of a left).refusal) (sym t) ∙ ap (λ a. table_named a.refusal) e ∙ refused

-- ---- the same as a result

-- the table that a refusal names, as a faulty table
abbrev table_in : List ℕ → Result (Unit {0}) bad.BadTable
table_in [] = Ok tt
table_in (k ∷ ks) = choose (eqb k 5) (Err (record { table = get_or ks 0 0 })) (Ok tt)

-- a test between two refusals that name no table
none_in : (t : Bool) (xs ys : List ℕ) → table_in xs ≡ Ok tt → table_in ys ≡ Ok tt → table_in (choose t xs ys) ≡ Ok tt
none_in true xs ys p q = p
none_in false xs ys p q = q

-- a refusal names the faulty table, whatever else is wrong
refused_in : (table n work : ℕ) (c : Congestion) (marks : List ℕ) → table_in (refusal_of table n c marks work) ≡ tested table
unfolding refusal_of
refused_in zero n work c marks =
    none_in (too_many c.weighting n) _ _ refl
    (none_in (ltb work (work_needed n)) _ _ refl
    (none_in (ltb (bad_node n c marks) n) _ _ refl
    (none_in (ltb factor_most c.factor) _ _ refl
    (none_in (bad_criticality c.weighting) _ _ refl refl))))
refused_in (suc table) n work c marks = rw (le-leb 1 (suc table) (omega arith))

-- what is asked of the cheapest path
module _ (b : Block) (w : Weighting) (ds : List ℕ) where
  abbrev alone : Congestion
  alone = weighed_congestion w ds 0 [] []

  abbrev asked : search.PathReply
  asked = path_reply b alone [] [] (0 ∷ [])

  asked_for : (r : Result (Option Joins) Refusal) {left : List ℕ} → path_reply_of r left ≡ asked → table_in (search.path_refusal r) ≡ tested (faulty_with_delays b alone)
  unfolding path_reply
  asked_for r e =
      ap (λ a. table_in a.refusal) e
      ∙ rw (unfit b w ds 0 [] [] [] (0 ∷ []) refl)
      (refused_in (faulty_with_sinks b alone []) (block.nodes b) 1 alone [] ∙ ap tested (no_sinks b w ds 0 [] [] [] (0 ∷ []) refl))

  pub named_table_refused : {refusal : Refusal} {table : ℕ} {left : List ℕ} → refusal ≡ BadTable table → path_reply_of (Err refusal) left ≡ asked → Err (record { table = table }) ≡ tested (faulty_with_delays b alone)
  named_table_refused {refusal} {table} f e = ap (λ a. table_in (search.refusal_numbers a)) (sym f) ∙ asked_for (Err refusal) e

  -- a refusal of another kind names no table
  pub named_other : {refusal : Refusal} (other : Refusal) {left : List ℕ} → refusal ≡ other → table_in (search.refusal_numbers other) ≡ Ok tt → path_reply_of (Err refusal) left ≡ asked → Ok tt ≡ tested (faulty_with_delays b alone)
  named_other {refusal} other f none e = sym none ∙ ap (λ a. table_in (search.refusal_numbers a)) (sym f) ∙ asked_for (Err refusal) e

  pub named_no_table : (refusal : Refusal) {left : List ℕ} → ((table : ℕ) → refusal ≡ BadTable table → ⊥) → path_reply_of (Err refusal) left ≡ asked → Ok tt ≡ tested (faulty_with_delays b alone)
  named_no_table (BadTable table) other e = absurd (other table refl)
  named_no_table (ShortWork needed) other e = asked_for (Err (ShortWork needed)) e
  named_no_table (BadNumber place) other e = asked_for (Err (BadNumber place)) e
  named_no_table (TooLarge n) other e = asked_for (Err (TooLarge n)) e

  pub named_none : (joins : Option Joins) {left : List ℕ} → path_reply_of (Ok joins) left ≡ asked → Ok tt ≡ tested (faulty_with_delays b alone)
  named_none joins e = asked_for (Ok joins) e

pub named_untimed : (b : Block) (ds : List ℕ) → faulty_with_delays b (weighed_congestion untimed ds 0 [] []) ≡ faulty_table b
unfolding faulty_with_delays
named_untimed b ds =
    ⊎_elim
    (λ (h : 1 ≤ faulty_table b). rw (le-leb 1 (faulty_table b) h))
    (λ (h : faulty_table b < 1). let none : 0 ≡ faulty_table b = omega arith in rw (lt-leb 1 (faulty_table b) h) none)
    (le_or_lt 1 (faulty_table b))
