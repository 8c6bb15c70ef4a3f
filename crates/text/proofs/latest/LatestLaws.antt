-- Where a net's latest records stand in a sound log.
--     passing-, latest-, final-        the records of a net and of its latest iteration, a record more at the end
--     agreed-                          words that agree in their first record
--     Whole, whole-                    whole records between two places
--     NetPlaces, places-              the places of one net
--     Finding, finding-                going from record to record
-- Assumes nothing.
use mathlib.Core.Bool.{Bool, true, false, not}
use mathlib.Core.List.{List, [], ◌∷◌, ◌++◌, append-nil}
use mathlib.Core.Logic.{◌⊎◌, inl, inr, ⊎_elim}
use mathlib.Core.Path.{◌≡◌, refl, sym, ◌∙◌, ap, subst}
use Prim.Native.Nat.{ℕ, ◌+◌, ◌-◌, ◌≤◌, ◌<◌, max}
use native.Mathlib.Omega.{arith}
use lib.Dec.{eqb}
use lib.ListN.{length, get_or, take, drop, set, length-drop, length-set}
use lib.Seq.{get_or-take, get_or-drop, get_or-set_same, get_or-set_other, drop-drop, ext_get_or, length-take-le, take_all}
use borrow.Author.Tests.{eq-eqb, ne_eqb, le-leb, eqb-true, eqb-false, not-true, not-false}
use Rattle.price.specs.Test.{choose, both, either}
use Rattle.price.specs.Bounds.{nodes_most}
use Rattle.price.proofs.TestLaws.{by_test, true≢false, le_or_lt, same_or_not}
use Rattle.price.proofs.ListLaws.{part_slice}
use Rattle.job.specs.Tables.{nets_most}
use Rattle.negotiation.specs.Records.{Record, decode}
use Rattle.negotiation.specs.Demand.{latest}
use Rattle.negotiation.proofs.FilterLaws.{latest-append}
use Rattle.text.specs.Routes.{Named, path_words, path_sound, record_sound, sound_words, sound_up_to, passing, records_in, final_records}
use Rattle.text.specs.WriteSteps.{next_at, AllSound, part, own_records, LatestPlaces, RecordAt}
use Rattle.text.proofs.RecordTestLaws.{record_length, sound-net, sound_some, sound-rises, sound_lower}
use Rattle.text.proofs.LogLaws.{sound_after, sound-next, first_record, record_at_lem, first_at, record_at, decode-next, decode-none}
use Rattle.text.proofs.BranchLaws.{Rest, rest_next, sound-here}

-- ---- records that pass a test

put_record : (t : Bool) (r : Record) (xs ys : List Record) → choose t (r ∷ (xs ++ ys)) (xs ++ ys) ≡ choose t (r ∷ xs) xs ++ ys
put_record true r xs ys = refl
put_record false r xs ys = refl

passing-append : (test : Record → Bool) (rs ss : List Record) → passing test (rs ++ ss) ≡ passing test rs ++ passing test ss
unfolding passing
passing-append test [] ss = refl
passing-append test (r ∷ rs) ss = rw (passing-append test rs ss) (put_record (test r) r (passing test rs) (passing test ss))

-- ---- a record more

module _ (i : ℕ) (rs : List Record) (r : Record) where
  latest-own : r.net ≡ i → latest i (rs ++ (r ∷ [])) ≡ max (latest i rs) r.iteration
  unfolding latest
  latest-own e = latest-append i rs (r ∷ []) ∙ rw (eq-eqb r.net i e) (omega arith)

  latest_other : (r.net ≡ i → ⊥) → latest i (rs ++ (r ∷ [])) ≡ latest i rs
  unfolding latest
  latest_other e = latest-append i rs (r ∷ []) ∙ rw (ne_eqb r.net i e) (omega arith)

-- no record of the net is later than its latest
none_later : (i t : ℕ) (rs : List Record) → latest i rs < t → records_in i t rs ≡ []
unfolding passing latest
none_later i t [] h = refl
none_later i t (r ∷ rs) h =
    by_test (eqb r.net i)
    (λ q.
    let later : max r.iteration (latest i rs) < t = rw q at h in
    rw (q, ne_eqb r.iteration t (λ e. omega arith)) (none_later i t rs (omega arith)))
    (λ q. rw q (none_later i t rs (rw q at h)))

module _ (i : ℕ) (rs : List Record) (r : Record) where
  one_in : (t : ℕ) → r.net ≡ i → r.iteration ≡ t → records_in i t (r ∷ []) ≡ r ∷ []
  unfolding passing
  one_in t e f = rw (eq-eqb r.net i e, eq-eqb r.iteration t f)

  none_in : (t : ℕ) → (r.net ≡ i → ⊥) → records_in i t (r ∷ []) ≡ []
  unfolding passing
  none_in t e = rw (ne_eqb r.net i e)

  abbrev test_in : ℕ → Record → Bool
  test_in t q = both (eqb q.net i) (eqb q.iteration t)

  final_new : r.net ≡ i → latest i rs < r.iteration → final_records i (rs ++ (r ∷ [])) ≡ r ∷ []
  unfolding final_records
  final_new e l =
      let t : latest i (rs ++ (r ∷ [])) ≡ r.iteration = latest-own i rs r e ∙ omega arith in
      rw (t, passing-append (test_in r.iteration) rs (r ∷ []), none_later i r.iteration rs l) (one_in r.iteration e refl)

  final_same : r.net ≡ i → latest i rs ≡ r.iteration → final_records i (rs ++ (r ∷ [])) ≡ final_records i rs ++ (r ∷ [])
  unfolding final_records
  final_same e l =
      let t : latest i (rs ++ (r ∷ [])) ≡ latest i rs = latest-own i rs r e ∙ omega arith in
      rw (t, passing-append (test_in (latest i rs)) rs (r ∷ []))
      (ap (λ (l : List Record). records_in i (latest i rs) rs ++ l) (one_in (latest i rs) e (sym l)))

  final_other : (r.net ≡ i → ⊥) → final_records i (rs ++ (r ∷ [])) ≡ final_records i rs
  unfolding final_records
  final_other e =
      rw (latest_other i rs r e, passing-append (test_in (latest i rs)) rs (r ∷ []), none_in (latest i rs) e)
      (append-nil (records_in i (latest i rs) rs))

  own-more : r.net ≡ i → own_records i (rs ++ (r ∷ [])) ≡ own_records i rs ++ (r ∷ [])
  unfolding passing
  own-more e = passing-append (λ (q : Record). eqb q.net i) rs (r ∷ []) ∙ rw (eq-eqb r.net i e)

  own_passed : (r.net ≡ i → ⊥) → own_records i (rs ++ (r ∷ [])) ≡ own_records i rs
  unfolding passing
  own_passed e = passing-append (λ (q : Record). eqb q.net i) rs (r ∷ []) ∙ rw (ne_eqb r.net i e) (append-nil (own_records i rs))

-- ---- words that agree in their first record

module _ (ws vs : List ℕ) (long : record_length ws ≤ length ws) (fits : record_length ws ≤ length vs) (same : (k : ℕ) → k < record_length ws → get_or vs k 0 ≡ get_or ws k 0) where
  agreed-length : get_or vs 5 0 ≡ get_or ws 5 0
  agreed-length = same 5 (omega arith)

  agreed-path : path_words (get_or ws 5 0) vs ≡ path_words (get_or ws 5 0) ws
  agreed-path =
      let n : ℕ = get_or ws 5 0 in
      let left : length (take n (drop 6 vs)) ≡ n = length-take-le n (drop 6 vs) (rw (length-drop 6 vs) (omega arith)) in
      let right : length (take n (drop 6 ws)) ≡ n = length-take-le n (drop 6 ws) (rw (length-drop 6 ws) (omega arith)) in
      ext_get_or 0 (take n (drop 6 vs)) (take n (drop 6 ws)) (left ∙ sym right)
      (λ k (l : k < length (take n (drop 6 vs))).
      let h : k < n = rw left at l in
      get_or-take n (drop 6 vs) k 0 h ∙ get_or-drop 6 vs k 0 ∙ same (6 + k) (omega arith) ∙ sym (get_or-drop 6 ws k 0) ∙ sym (get_or-take n (drop 6 ws) k 0 h))

  agreed-sound : (named : Named) (last : ℕ) → record_sound named last vs ≡ record_sound named last ws
  unfolding record_sound path_sound
  agreed-sound named last =
      rw (
        agreed-length,
        same 0 (omega arith),
        same 1 (omega arith),
        same 2 (omega arith),
        same (5 + get_or ws 5 0) (omega arith),
        le-leb 6 (length vs) (omega arith),
        le-leb 6 (length ws) (omega arith),
        le-leb (6 + get_or ws 5 0) (length vs) fits,
        le-leb (6 + get_or ws 5 0) (length ws) long,
        agreed-path,
      )

  agreed_record : first_record vs ≡ first_record ws
  agreed_record =
      rw (agreed-length, same 0 (omega arith), same 1 (omega arith), same 2 (omega arith), same 3 (omega arith), same 4 (omega arith), agreed-path)

-- ---- a part that begins with a record

module _ (log : List ℕ) (a b : ℕ) (fits : next_at log a ≤ b) (within : b ≤ length log) where
  part_count : record_length (drop a log) ≡ 6 + get_or log (a + 5) 0
  part_count = rw (get_or-drop a log 5 0)

  part-long : length (part log a b) ≡ b - a
  part-long = length-take-le (b - a) (drop a log) (rw (length-drop a log) (omega arith))

  part_same : (k : ℕ) → k < record_length (drop a log) → get_or (part log a b) k 0 ≡ get_or (drop a log) k 0
  part_same k l = get_or-take (b - a) (drop a log) k 0 (omega (arith, part_count))

  all-fits : record_length (drop a log) ≤ length (drop a log)
  all-fits = omega (arith, part_count, length-drop a log)

  part-fits : record_length (drop a log) ≤ length (part log a b)
  part-fits = omega (arith, part_count, part-long)

  part-five : get_or (part log a b) 5 0 ≡ get_or log (a + 5) 0
  part-five = agreed-length (drop a log) (part log a b) all-fits part-fits part_same ∙ get_or-drop a log 5 0

  part_first : get_or (part log a b) 0 0 ≡ get_or log a 0
  part_first = part_same 0 (omega arith) ∙ first_at log a

  part_record : first_record (part log a b) ≡ record_at_lem log a
  part_record = agreed_record (drop a log) (part log a b) all-fits part-fits part_same ∙ record_at log a

  part-after : drop (record_length (part log a b)) (part log a b) ≡ part log (next_at log a) b
  part-after =
      let place : a + record_length (part log a b) ≡ next_at log a = omega (arith, part-five) in
      ap (λ (ws : List ℕ). drop (record_length (part log a b)) ws) (part_slice a b log)
      ∙ drop-drop (record_length (part log a b)) a (take b log)
      ∙ ap (λ (k : ℕ). drop k (take b log)) place
      ∙ sym (part_slice (next_at log a) b log)

  part-decode : decode (part log a b) ≡ record_at_lem log a ∷ decode (part log (next_at log a) b)
  part-decode =
      decode-next (part log a b) (omega (arith, part-fits))
      ∙ ap (λ (r : Record). r ∷ decode (drop (record_length (part log a b)) (part log a b))) part_record
      ∙ ap (λ (ws : List ℕ). record_at_lem log a ∷ decode ws) part-after

  part_sound :
      (named : Named) (last : ℕ) → record_sound named last (drop a log) ≡ true
      → sound_after named last (part log a b) ≡ 6 + get_or log (a + 5) 0 + sound_after named (get_or log a 0) (part log (next_at log a) b)
  part_sound named last s =
      sound-next named last (part log a b) (agreed-sound (drop a log) (part log a b) all-fits part-fits part_same named last ∙ s)
      ∙ ap (λ (ws : List ℕ). record_length (part log a b) + sound_after named (get_or (part log a b) 0 0) ws) part-after
      ∙ rw (part-five, part_first)

-- ---- whole records between two places

-- with the iterations before the first and of the last
pub data Whole (named : Named) (log : List ℕ) : ℕ → ℕ → ℕ → ℕ → List Record → Type 0 where
  none : {a last : ℕ} → Whole named log a last a last []
  next :
      {a last b end : ℕ} {rs : List Record} → record_sound named last (drop a log) ≡ true → Whole named log (next_at log a) (get_or log a 0) b end rs
      → Whole named log a last b end (record_at_lem log a ∷ rs)

empty_part : (log : List ℕ) (a : ℕ) → part log a a ≡ []
empty_part log a = let z : a - a ≡ 0 = omega arith in rw z

module _ {named : Named} {log : List ℕ} where
  whole_append :
      {a la b lb c lc : ℕ} {rs ss : List Record} → Whole named log a la b lb rs → Whole named log b lb c lc ss → Whole named log a la c lc (rs ++ ss)
  whole_append none q = q
  whole_append (next s w) q = next s (whole_append w q)

  whole_le : {a la b lb : ℕ} {rs : List Record} → Whole named log a la b lb rs → a ≤ b
  whole_le none = omega arith
  whole_le (next s w) = omega (arith, whole_le w)

  -- after any earlier iteration too
  whole_lower : {a la b lb : ℕ} {rs : List Record} → Whole named log a la b lb rs → (end : ℕ) × Whole named log a 0 b end rs
  whole_lower none = (0, none)
  whole_lower (next {a = a} {last = last} {end = end} s w) = (end, next (sound_lower named last (drop a log) s) w)

  whole_decode : {a la b lb : ℕ} {rs : List Record} → b ≤ length log → Whole named log a la b lb rs → decode (part log a b) ≡ rs
  whole_decode h (none {a = a}) = rw (empty_part log a) decode-none
  whole_decode h (next {a = a} {b = b} s w) =
      part-decode log a b (whole_le w) h ∙ ap (λ (l : List Record). record_at_lem log a ∷ l) (whole_decode h w)

  whole_sound : {a la b lb : ℕ} {rs : List Record} → b ≤ length log → Whole named log a la b lb rs → sound_after named la (part log a b) ≡ length (part log a b)
  unfolding sound_up_to
  whole_sound h (none {a = a}) = rw (empty_part log a)
  whole_sound h (next {a = a} {last = last} {b = b} s w) =
      let fits = whole_le w in
      let here : length (part log a b) ≡ b - a = part-long log a b fits h in
      let there : length (part log (next_at log a) b) ≡ b - next_at log a =
      length-take-le (b - next_at log a) (drop (next_at log a) log) (rw (length-drop (next_at log a) log) (omega arith)) in
      part_sound log a b fits h named last s ∙ rw (whole_sound h w) (omega arith)

-- ---- the places of one net

-- the records so far end at a place: those of net i between the two places are its latest, and none came since
pub record NetPlaces (named : Named) (log : List ℕ) (records : List Record) (at last i from to : ℕ) : Type 0 where
  pub before : ℕ
  pub end : ℕ
  pub own : List Record
  pub others : List Record
  pub words : Whole named log from before to end own
  pub since : Whole named log to end at last others
  pub own_are : own_records i own ≡ final_records i records
  pub none_since : own_records i others ≡ []
  pub none_yet : to ≡ 0 → latest i records ≡ 0
  pub reads : (to ≡ 0 → ⊥) → get_or log from 0 ≡ latest i records

places-none : (named : Named) (log : List ℕ) (i from to : ℕ) → from ≡ 0 → to ≡ 0 → NetPlaces named log [] 0 0 i from to
unfolding passing final_records latest
places-none named log i from to e f =
    rw (e, f)
    record {
      before = 0;
      end = 0;
      own = [];
      others = [];
      words = none;
      since = none;
      own_are = refl;
      none_since = refl;
      none_yet = λ z. refl;
      reads = λ z. absurd (z refl);
    }

module _ {named : Named} {log : List ℕ} {at : ℕ} (last : ℕ) (s : record_sound named last (drop at log) ≡ true) where
  one : Whole named log at last (next_at log at) (get_or log at 0) (record_at_lem log at ∷ [])
  one = next s none

  module _ (records : List Record) {i : ℕ} where
    places_other : {from to : ℕ} → (get_or log (at + 1) 0 ≡ i → ⊥) → NetPlaces named log records at last i from to → NetPlaces named log (records ++ (record_at_lem log at ∷ [])) (next_at log at) (get_or log at 0) i from to
    places_other e p =
        let same = latest_other i records (record_at_lem log at) e in
        record {
          before = p.before;
          end = p.end;
          own = p.own;
          others = p.others ++ (record_at_lem log at ∷ []);
          words = p.words;
          since = whole_append p.since one;
          own_are = p.own_are ∙ sym (final_other i records (record_at_lem log at) e);
          none_since = own_passed i p.others (record_at_lem log at) e ∙ p.none_since;
          none_yet = λ z. same ∙ p.none_yet z;
          reads = λ z. p.reads z ∙ sym same;
        }

    places_anew : get_or log (at + 1) 0 ≡ i → latest i records < get_or log at 0 → NetPlaces named log (records ++ (record_at_lem log at ∷ [])) (next_at log at) (get_or log at 0) i at (next_at log at)
    unfolding passing
    places_anew e l =
        record {
          before = last;
          end = get_or log at 0;
          own = record_at_lem log at ∷ [];
          others = [];
          words = one;
          since = none;
          own_are = own-more i [] (record_at_lem log at) e ∙ sym (final_new i records (record_at_lem log at) e l);
          none_since = refl;
          none_yet = λ z. absurd (omega arith);
          reads = λ z. sym (latest-own i records (record_at_lem log at) e ∙ omega arith);
        }

    places_same : {from to : ℕ} → get_or log (at + 1) 0 ≡ i → (to ≡ 0 → ⊥) → get_or log from 0 ≡ get_or log at 0 → NetPlaces named log records at last i from to → NetPlaces named log (records ++ (record_at_lem log at ∷ [])) (next_at log at) (get_or log at 0) i from (next_at log at)
    unfolding passing
    places_same e z f p =
        let same : latest i records ≡ get_or log at 0 = sym (p.reads z) ∙ f in
        let all : own_records i (p.own ++ p.others) ≡ final_records i records =
        passing-append (λ (q : Record). eqb q.net i) p.own p.others ∙ rw p.none_since (append-nil (own_records i p.own) ∙ p.own_are) in
        record {
          before = p.before;
          end = get_or log at 0;
          own = (p.own ++ p.others) ++ (record_at_lem log at ∷ []);
          others = [];
          words = whole_append (whole_append p.words p.since) one;
          since = none;
          own_are =
              own-more i (p.own ++ p.others) (record_at_lem log at) e
              ∙ ap (λ (l : List Record). l ++ (record_at_lem log at ∷ [])) all
              ∙ sym (final_same i records (record_at_lem log at) e same);
          none_since = refl;
          none_yet = λ y. absurd (omega arith);
          reads = λ y. f ∙ sym (latest-own i records (record_at_lem log at) e ∙ omega arith);
        }

-- ---- from record to record

-- the places of all nets, for the records before a place
pub record Finding (log froms tos : List ℕ) (at : ℕ) : Type 0 where
  pub rest : Rest log at
  pub nets-few : (i : ℕ) → rest.named.net i ≡ true → i < nets_most
  pub nodes-few : rest.named.nodes ≤ nodes_most
  pub records : List Record
  pub so_far : Whole rest.named log 0 0 at rest.last records
  pub none_late : (i : ℕ) → latest i records ≤ rest.last
  pub from_long : length froms ≡ nets_most
  pub to-long : length tos ≡ nets_most
  pub each : (i : ℕ) → i < nets_most → NetPlaces rest.named log records at rest.last i (get_or froms i 0) (get_or tos i 0)

pub finding_none :
    (log froms tos : List ℕ) → AllSound log → length froms ≡ nets_most → length tos ≡ nets_most → ((i : ℕ) → (get_or froms i 0 ≡ 0) × (get_or tos i 0 ≡ 0))
    → Finding log froms tos 0
unfolding sound_words latest
finding_none log froms tos e f t z =
    record {
      rest = record { within = omega arith; named = e.named; last = 0; all_sound = e.all_sound };
      nets-few = e.nets-few;
      nodes-few = e.nodes-few;
      records = [];
      so_far = none;
      none_late = λ i. omega arith;
      from_long = f;
      to-long = t;
      each = λ i l. places-none e.named log i (get_or froms i 0) (get_or tos i 0) (z i).0 (z i).1;
    }

-- the net has no record yet, or none of this iteration
anew_why : (to x y : ℕ) → either (eqb to 0) (not (eqb x y)) ≡ true → (to ≡ 0) ⊎ (x ≡ y → ⊥)
anew_why to x y e =
    by_test (eqb to 0)
    (λ q. inl (eqb-true to 0 q))
    (λ q. inr (eqb-false x y (not-true (eqb x y) (rw q at e))))

same_why : (to x y : ℕ) → either (eqb to 0) (not (eqb x y)) ≡ false → (to ≡ 0 → ⊥) × (x ≡ y)
same_why to x y e =
    by_test (eqb to 0)
    (λ q. absurd (true≢false (rw q at e)))
    (λ q. (eqb-false to 0 q, eqb-true x y (not-false (eqb x y) (rw q at e))))

module _ {log froms tos : List ℕ} {at : ℕ} (p : Finding log froms tos at) (l : at < length log) where
  abbrev here : ℕ
  here = get_or log (at + 1) 0

  sound_now : record_sound p.rest.named p.rest.last (drop at log) ≡ true
  sound_now = sound-here p.rest l

  here-few : here < nets_most
  here-few = p.nets-few here (rw (get_or-drop at log 1 0) at (sound-net p.rest.named p.rest.last (drop at log) sound_now))

  pub finding_net : {iteration net end : ℕ} {path : List ℕ} → RecordAt log at iteration net path end → net < nets_most
  finding_net read = rw read.net-is here-few

  places : NetPlaces p.rest.named log p.records at p.rest.last here (get_or froms here 0) (get_or tos here 0)
  places = p.each here here-few

  pub finding_from : {iteration net end : ℕ} {path : List ℕ} → RecordAt log at iteration net path end → get_or froms net 0 < length log
  finding_from read = rw read.net-is (omega (arith, whole_le places.words, whole_le places.since))

  some : 1 ≤ get_or log at 0
  some = rw (first_at log at) at (sound_some p.rest.named p.rest.last (drop at log) sound_now)

  rises : p.rest.last ≤ get_or log at 0
  rises = rw (first_at log at) at (sound-rises p.rest.named p.rest.last (drop at log) sound_now)

  late : (i : ℕ) → latest i (p.records ++ (record_at_lem log at ∷ [])) ≤ get_or log at 0
  late i =
      let before = p.none_late i in
      let up = rises in
      ⊎_elim
      (λ (e : here ≡ i). omega (arith, latest-own i p.records (record_at_lem log at) e))
      (λ (e : here ≡ i → ⊥). omega (arith, latest_other i p.records (record_at_lem log at) e))
      (same_or_not here i)

  -- with the net's new places, all others as they were
  moved :
      {froms' tos' : List ℕ} → length froms' ≡ nets_most → length tos' ≡ nets_most
      → ((i : ℕ) → (here ≡ i → ⊥) → (get_or froms' i 0 ≡ get_or froms i 0) × (get_or tos' i 0 ≡ get_or tos i 0))
      → NetPlaces p.rest.named log (p.records ++ (record_at_lem log at ∷ [])) (next_at log at) (get_or log at 0) here (get_or froms' here 0) (get_or tos' here 0)
      → Finding log froms' tos' (next_at log at)
  moved {froms'} {tos'} f t same new =
      record {
        rest = rest_next p.rest l;
        nets-few = p.nets-few;
        nodes-few = p.nodes-few;
        records = p.records ++ (record_at_lem log at ∷ []);
        so_far = whole_append p.so_far (one p.rest.last sound_now);
        none_late = late;
        from_long = f;
        to-long = t;
        each =
            λ i h.
            ⊎_elim
            (λ (e : here ≡ i).
            subst
            (λ (k : ℕ).
            NetPlaces p.rest.named log (p.records ++ (record_at_lem log at ∷ [])) (next_at log at) (get_or log at 0) k (get_or froms' k 0) (get_or tos' k 0))
            e new)
            (λ (e : here ≡ i → ⊥). rw ((same i e).0, (same i e).1) (places_other p.rest.last sound_now p.records e (p.each i h)))
            (same_or_not here i);
      }

  -- a net's first record of a later iteration than its others, or not
  abbrev Anew : ℕ → Bool → Type 0
  Anew net r = r ≡ either (eqb (get_or tos net 0) 0) (not (eqb (get_or log (get_or froms net 0) 0) (get_or log at 0)))

  pub finding_anew : {iteration net end : ℕ} {path : List ℕ} {r : Bool} → RecordAt log at iteration net path end → Anew net r → r ≡ true → Finding log (set froms net at) (set tos net end) end
  finding_anew read asked t =
      let answer : Anew here _ = rw read.net-is at asked in
      let below = here-few in
      let long = p.from_long in
      let long' = p.to-long in
      let up = rises in
      let least = some in
      let older : latest here p.records < get_or log at 0 =
      ⊎_elim
      (λ (z : get_or tos here 0 ≡ 0). omega (arith, places.none_yet z))
      (λ (z : get_or log (get_or froms here 0) 0 ≡ get_or log at 0 → ⊥).
      ⊎_elim
      (λ (y : get_or tos here 0 ≡ 0). omega (arith, places.none_yet y))
      (λ (y : get_or tos here 0 ≡ 0 → ⊥).
      let most = p.none_late here in
      ⊎_elim
      (λ (h : get_or log at 0 ≤ latest here p.records).
      let same : get_or log (get_or froms here 0) 0 ≡ get_or log at 0 = omega (arith, places.reads y) in
      absurd (z same))
      (λ h. h)
      (le_or_lt (get_or log at 0) (latest here p.records)))
      (same_or_not (get_or tos here 0) 0))
      (anew_why (get_or tos here 0) (get_or log (get_or froms here 0) 0) (get_or log at 0) (sym answer ∙ t)) in
      rw (read.net-is, read.end-is)
      (moved (length-set froms here at ∙ p.from_long) (length-set tos here (next_at log at) ∙ p.to-long)
      (λ i e. (get_or-set_other froms here i at 0 (λ q. e (sym q)), get_or-set_other tos here i (next_at log at) 0 (λ q. e (sym q))))
      (rw (get_or-set_same froms here at 0 (omega arith), get_or-set_same tos here (next_at log at) 0 (omega arith))
      (places_anew p.rest.last sound_now p.records refl older)))

  pub finding_same : {iteration net end : ℕ} {path : List ℕ} {r : Bool} → RecordAt log at iteration net path end → Anew net r → r ≡ false → Finding log froms (set tos net end) end
  finding_same read asked t =
      let answer : Anew here _ = rw read.net-is at asked in
      let below = here-few in
      let long = p.to-long in
      let why = same_why (get_or tos here 0) (get_or log (get_or froms here 0) 0) (get_or log at 0) (sym answer ∙ t) in
      rw (read.net-is, read.end-is)
      (moved p.from_long (length-set tos here (next_at log at) ∙ p.to-long)
      (λ i e. (refl, get_or-set_other tos here i (next_at log at) 0 (λ q. e (sym q))))
      (rw (get_or-set_same tos here (next_at log at) 0 (omega arith)) (places_same p.rest.last sound_now p.records refl why.0 why.1 places)))

-- after the last record
pub finding_all : {log froms tos : List ℕ} {at : ℕ} → Finding log froms tos at → length log ≤ at → LatestPlaces log froms tos
unfolding sound_words
finding_all {log} {froms} {tos} {at} p l i h =
    let within = p.rest.within in
    let s = p.each i h in
    let rises = whole_le s.words in
    let ends = whole_le s.since in
    let from : ℕ = get_or froms i 0 in
    let to : ℕ = get_or tos i 0 in
    let fits : to ≤ length log = omega arith in
    let low = whole_lower s.words in
    let none : at - 0 ≡ at = omega arith in
    let all : decode log ≡ p.records =
    ap decode (sym (rw none (take_all at log l))) ∙ whole_decode within p.so_far in
    record {
      rises = rises;
      within = fits;
      part_sound = record { named = p.rest.named; nets-few = p.nets-few; nodes-few = p.nodes-few; all_sound = whole_sound fits low.1 };
      own = ap (own_records i) (whole_decode fits s.words) ∙ s.own_are ∙ ap (final_records i) (sym all);
    }
