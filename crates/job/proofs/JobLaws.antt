-- Laws of sound jobs: the lowest table that breaks its rule, and what each rule of tables 5 to 8 and of table 10 says of a net, and the
-- bounds of a timed job.
-- Assumes nothing.
use mathlib.Core.Bool.{Bool, true, false}
use mathlib.Core.List.{List}
use mathlib.Core.Path.{◌≡◌, refl}
use Prim.Native.Nat.{ℕ, zero, suc, ◌+◌, ◌-◌, ◌≤◌, ◌<◌}
use native.Mathlib.Nat.{le_trans}
use native.Mathlib.Numerals.{add-one}
use native.Mathlib.Omega.{arith}
use lib.Dec.{leb, ltb, eqb}
use lib.ListN.{length, get_or}
use borrow.Author.Tests.{leb-true, leb-false, ltb-true, ltb-false, eqb-true}
use Rattle.price.specs.Test.{choose, both, either}
use Rattle.price.specs.Bounds.{criticality_most, timed_nodes_most, timed_limit_most}
use Rattle.price.specs.Lists.{neighbours, up_to}
use Rattle.price.proofs.TestLaws.{by_test, true≢false, both_left, both_right}
use Rattle.price.proofs.ListLaws.{every-at, neighbours_at, length_up_to, get_or_up_to}
use Rattle.search.specs.Tables.{faulty_table, delays_sound}
use Rattle.search.specs.Replies.{sinks_most}
use Rattle.search.proofs.BlockLaws.{sound_of, faulty_of}
use Rattle.job.specs.Job.{Job, nodes, nets, sinks_between}
use Rattle.job.specs.declared.Terms.{Terms}
use Rattle.job.specs.Tables.{sources_sound, first_sinks_sound, net_sound, sinks_sound, limit_sound, terms_sound, source_pins, sink_pins, faulty_nets, criticalities_sound, faulty_times, faulty_untimed, faulty_job, exceeds, SoundJob, nets_most}

-- ---- the lowest faulty table

-- where a choice is 0 and its second value is not, the test holds, and the first value is 0
chosen : (t : Bool) (a k : ℕ) → choose t a (suc k) ≡ 0 → (t ≡ true) × (a ≡ 0)
chosen true a k e = (refl, e)
chosen false a k e = absurd (let z : suc k ≡ 0 = e in omega arith)

-- a table that is chosen where it is at least 1 is 0 only where it is 0 itself, and then the other is chosen
first_none : (a b : ℕ) → choose (leb 1 a) a b ≡ 0 → (a ≡ 0) × (b ≡ 0)
first_none a b e =
    by_test (leb 1 a)
    (λ q.
    let some : 1 ≤ a = leb-true 1 a q in
    let none : a ≡ 0 = rw q at e in
    absurd (omega arith))
    (λ q.
    let none : a < 1 = leb-false 1 a q in
    (omega arith, rw q at e))

-- a timed job's tables 9 and 10 keep their rules
times_sound :
    (j : Job) → faulty_times j.terms (nodes j) (length j.sinks) j.delays j.criticalities ≡ 0 → j.terms.timed ≡ true
    → (delays_sound (nodes j) j.delays ≡ true) × (criticalities_sound (length j.sinks) j.criticalities ≡ true)
unfolding faulty_times
times_sound j e timed =
    let nine = chosen (delays_sound (nodes j) j.delays) _ 8 (rw timed at e) in
    (nine.0, (chosen (criticalities_sound (length j.sinks) j.criticalities) _ 9 nine.1).0)

pub sound-job : (j : Job) → faulty_job j ≡ 0 → SoundJob j
unfolding faulty_job faulty_untimed faulty_nets
sound-job j e =
    let All-none = first_none (faulty_untimed j) _ e in
    let both-none = first_none (faulty_table j.block) _ All-none.0 in
    let five = chosen (both (sources_sound (nodes j) j.sources) (source_pins j.block.kinds j.sources)) _ 4 both-none.1 in
    let six = chosen (first_sinks_sound (nets j) (length j.sinks) j.first_sinks) _ 5 five.1 in
    let seven =
    chosen (both (sinks_sound (nodes j) j.sources j.first_sinks j.sinks) (sink_pins j.block.kinds j.sinks)) _ 6 six.1 in
    record {
      block-sound = sound_of j.block both-none.0;
      sources_sound_lem = both_left _ _ five.0;
      source_pins_lem = both_right (sources_sound (nodes j) j.sources) _ five.0;
      first_sinks_sound_lem = six.0;
      sinks_sound_lem = both_left _ _ seven.0;
      sink_pins_lem = both_right (sinks_sound (nodes j) j.sources j.first_sinks j.sinks) _ seven.0;
      terms_sound_lem = (chosen (terms_sound j.terms) _ 7 seven.1).0;
      delays_sound_lem = λ timed. (times_sound j All-none.1 timed).0;
      criticalities_sound_lem = λ timed. (times_sound j All-none.1 timed).1;
    }

untimed-none : (j : Job) → SoundJob j → faulty_untimed j ≡ 0
unfolding faulty_untimed faulty_nets
untimed-none j s =
    rw (faulty_of j.block s.block-sound, s.sources_sound_lem, s.source_pins_lem, s.first_sinks_sound_lem, s.sinks_sound_lem, s.sink_pins_lem, s.terms_sound_lem)

times_none : (j : Job) → SoundJob j → faulty_times j.terms (nodes j) (length j.sinks) j.delays j.criticalities ≡ 0
unfolding faulty_times
times_none j s =
    by_test j.terms.timed
    (λ q. rw (q, s.delays_sound_lem q, s.criticalities_sound_lem q))
    (λ q. rw q)

pub faulty_none : (j : Job) → SoundJob j → faulty_job j ≡ 0
unfolding faulty_job
faulty_none j s = rw (untimed-none j s) (times_none j s)

-- ---- the rules of tables 5 to 8 and 10

pub sources_some : (n : ℕ) (ss : List ℕ) → sources_sound n ss ≡ true → 1 ≤ length ss
unfolding sources_sound
sources_some n ss s = leb-true _ _ (both_left _ _ (both_left _ _ s))

pub sources-few : (n : ℕ) (ss : List ℕ) → sources_sound n ss ≡ true → length ss ≤ nets_most
unfolding sources_sound
sources-few n ss s = leb-true _ _ (both_right (leb 1 (length ss)) _ (both_left _ _ s))

pub source-below : (n : ℕ) (ss : List ℕ) → sources_sound n ss ≡ true → (i : ℕ) → i < length ss → get_or ss i 0 < n
unfolding sources_sound
source-below n ss s i h =
    ltb-true _ _ (every-at (λ v. ltb v n) ss (both_right (both (leb 1 (length ss)) (leb (length ss) nets_most)) _ s) i h)

pub firsts-long : (n m : ℕ) (fs : List ℕ) → first_sinks_sound n m fs ≡ true → length fs ≡ n + 1
unfolding first_sinks_sound
firsts-long n m fs s = eqb-true _ _ (both_left _ _ s)

pub firsts-end : (n m : ℕ) (fs : List ℕ) → first_sinks_sound n m fs ≡ true → get_or fs n 0 ≡ m
unfolding first_sinks_sound
firsts-end n m fs s =
    eqb-true _ _ (both_right (neighbours ltb fs) _ (both_right (eqb (get_or fs 0 0) 0) _ (both_right (eqb (length fs) (n + 1)) _ s)))

pub firsts-order : (n m : ℕ) (fs : List ℕ) → first_sinks_sound n m fs ≡ true → (i : ℕ) → i < n → get_or fs i 0 < get_or fs (i + 1) 0
unfolding first_sinks_sound
firsts-order n m fs s i h =
    let l : length fs ≡ n + 1 = firsts-long n m fs s in
    rw add-one (ltb-true _ _ (neighbours_at ltb fs (both_left _ _ (both_right (eqb (get_or fs 0 0) 0) _ (both_right (eqb (length fs) (n + 1)) _ s))) i (omega arith)))

-- no entry is above the last
firsts-below : (n m : ℕ) (fs : List ℕ) → first_sinks_sound n m fs ≡ true → (d i : ℕ) → i + d ≡ n → get_or fs i 0 ≤ m
firsts-below n m fs s zero i e =
    let h : i ≡ n = omega arith in
    rw h (let f : get_or fs n 0 ≡ m = firsts-end n m fs s in omega arith)
firsts-below n m fs s (suc d) i e =
    let here = firsts-order n m fs s i (omega arith) in
    le_trans (omega arith) (firsts-below n m fs s d (i + 1) (omega arith))

pub firsts-most : (n m : ℕ) (fs : List ℕ) → first_sinks_sound n m fs ≡ true → (i : ℕ) → i ≤ n → get_or fs i 0 ≤ m
firsts-most n m fs s i h = firsts-below n m fs s (n - i) i (omega arith)

-- the rule of table 7 for one net
pub net-rule :
    (n : ℕ) (ss fs ts : List ℕ) → sinks_sound n ss fs ts ≡ true → (i : ℕ) → i < length ss
    → net_sound n (get_or ss i 0) (sinks_between fs ts i) ≡ true
unfolding sinks_sound
net-rule n ss fs ts s i h =
    let rule = every-at (λ i. net_sound n (get_or ss i 0) (sinks_between fs ts i)) (up_to (λ i. i) (length ss)) (both_right (leb (length ts) sinks_most) _ s) i (rw length_up_to h) in
    rw (get_or_up_to (λ i. i) (length ss) i 0 h) at rule

pub limit_least : (limit : ℕ) → limit_sound limit ≡ true → 1 ≤ limit
unfolding limit_sound
limit_least limit s = leb-true 1 limit (both_left _ _ s)

pub criticalities-long : (m : ℕ) (cs : List ℕ) → criticalities_sound m cs ≡ true → length cs ≡ m
unfolding criticalities_sound
criticalities-long m cs s = eqb-true _ _ (both_left _ _ s)

pub criticality_most_lem : (m : ℕ) (cs : List ℕ) → criticalities_sound m cs ≡ true → (i : ℕ) → i < length cs → get_or cs i 0 ≤ criticality_most
unfolding criticalities_sound
criticality_most_lem m cs s i h = leb-true _ _ (every-at (λ c. leb c criticality_most) cs (both_right (eqb (length cs) m) _ s) i h)

-- ---- a timed job that exceeds no bound

neither : (a b : Bool) → either a b ≡ false → (a ≡ false) × (b ≡ false)
neither true b e = absurd (true≢false e)
neither false b e = (refl, e)

module _ (n : ℕ) (t : Terms) (fits : exceeds n t ≡ false) (timed : t.timed ≡ true) where
  within : (ltb timed_nodes_most n ≡ false) × (ltb timed_limit_most t.limit ≡ false)
  unfolding exceeds
  within = neither _ _ (rw timed at fits)

  pub timed_nodes : n ≤ timed_nodes_most
  timed_nodes = ltb-false _ _ within.0

  pub timed_limit : t.limit ≤ timed_limit_most
  timed_limit = ltb-false _ _ within.1
