-- Sound logs: going from record to record to the log's end, and what the test of a log says.
-- Assumes nothing.
use mathlib.Core.Bool.{true, false}
use mathlib.Core.List.{List, [], ◌∷◌, map}
use mathlib.Core.Logic.{⊎_elim}
use mathlib.Core.Path.{◌≡◌, refl, sym, ◌∙◌, ap}
use Prim.Native.Nat.{ℕ, zero, suc, ◌+◌, ◌*◌, ◌-◌, ◌^◌, ◌≤◌, ◌<◌}
use native.Mathlib.Nat.{add-zero, zero-add}
use native.Mathlib.Omega.{arith}
use lib.Dec.{leb, eqb}
use lib.ListN.{length, get_or, take, drop, length-drop, drop_of_length-le}
use lib.Seq.{get_or-drop, drop-drop, take_all}
use borrow.Author.Tests.{le-leb, lt-leb, eq-eqb, ne_eqb, eqb-true}
use Rattle.price.proofs.TestLaws.{by_test, both_right, le_or_lt}
use Rattle.price.specs.Bounds.{nodes_most}
use Rattle.job.specs.Tables.{nets_most}
use Rattle.negotiation.specs.Records.{Record, record_of, decode_up_to, decode}
use Rattle.text.specs.Routes.{Named, path_words, record_sound, sound_up_to, sound_words, log_sound, last_iteration}
use Rattle.text.specs.Users.{sound, unsound, log_checked}
use Rattle.text.specs.WriteSteps.{next_at, RecordAt, LogTested}
use Rattle.text.proofs.RecordTestLaws.{record_length, sound-fits}

-- ---- sound words, record by record

unsound-short : (named : Named) (last : ℕ) (ws : List ℕ) → length ws < 6 → record_sound named last ws ≡ false
unfolding record_sound
unsound-short named last ws h = rw (lt-leb 6 (length ws) h)

-- more steps than words change nothing
sound-enough : (named : Named) (k m last : ℕ) (ws : List ℕ) → length ws ≤ k → length ws ≤ m → sound_up_to named k last ws ≡ sound_up_to named m last ws
unfolding sound_up_to
sound-enough named zero zero last ws h g = refl
sound-enough named zero (suc m) last ws h g = rw (unsound-short named last ws (omega arith))
sound-enough named (suc k) zero last ws h g = rw (unsound-short named last ws (omega arith))
sound-enough named (suc k) (suc m) last ws h g =
    by_test (record_sound named last ws)
    (λ t.
    let short = length-drop (record_length ws) ws in
    rw t
    (ap (λ (x : ℕ). record_length ws + x)
    (sound-enough named k m (get_or ws 0 0) (drop (record_length ws) ws) (omega arith) (omega arith))))
    (λ t. rw t)

-- the words of sound records from here on
abbrev pub sound_after : Named → ℕ → List ℕ → ℕ
sound_after named last ws = sound_up_to named (length ws) last ws

module _ (named : Named) (last : ℕ) (ws : List ℕ) where
  one_more : sound_after named last ws ≡ sound_up_to named (suc (length ws)) last ws
  one_more = sound-enough named (length ws) (suc (length ws)) last ws (omega arith) (omega arith)

  pub sound-next : record_sound named last ws ≡ true → sound_after named last ws ≡ record_length ws + sound_after named (get_or ws 0 0) (drop (record_length ws) ws)
  unfolding sound_up_to
  sound-next t =
      let short = length-drop (record_length ws) ws in
      one_more
      ∙ rw t
      (ap (λ (x : ℕ). record_length ws + x)
      (sound-enough named (length ws) (length (drop (record_length ws) ws)) (get_or ws 0 0) (drop (record_length ws) ws) (omega arith) (omega arith)))

  pub sound_stop : record_sound named last ws ≡ false → sound_after named last ws ≡ 0
  unfolding sound_up_to
  sound_stop t = one_more ∙ rw t

-- ---- records, one by one

-- the first record of some words
abbrev pub first_record : List ℕ → Record
first_record ws =
    record_of (get_or ws 0 0) (get_or ws 1 0) (get_or ws 2 0) (get_or ws 3 0 + get_or ws 4 0 * 2 ^ 32) (path_words (get_or ws 5 0) ws)

decode-short : (k : ℕ) (ws : List ℕ) → length ws < 6 → decode_up_to k ws ≡ []
unfolding decode_up_to
decode-short zero ws h = refl
decode-short (suc k) [] h = refl
decode-short (suc k) (a ∷ []) h = refl
decode-short (suc k) (a ∷ b ∷ []) h = refl
decode-short (suc k) (a ∷ b ∷ c ∷ []) h = refl
decode-short (suc k) (a ∷ b ∷ c ∷ d ∷ []) h = refl
decode-short (suc k) (a ∷ b ∷ c ∷ d ∷ e ∷ []) h = refl
decode-short (suc k) (a ∷ b ∷ c ∷ d ∷ e ∷ n ∷ rest) h = absurd (omega arith)

decode-long : (k : ℕ) (ws : List ℕ) → 6 ≤ length ws → decode_up_to (suc k) ws ≡ first_record ws ∷ decode_up_to k (drop (record_length ws) ws)
unfolding decode_up_to
decode-long k [] h = absurd (omega arith)
decode-long k (a ∷ []) h = absurd (omega arith)
decode-long k (a ∷ b ∷ []) h = absurd (omega arith)
decode-long k (a ∷ b ∷ c ∷ []) h = absurd (omega arith)
decode-long k (a ∷ b ∷ c ∷ d ∷ []) h = absurd (omega arith)
decode-long k (a ∷ b ∷ c ∷ d ∷ e ∷ []) h = absurd (omega arith)
decode-long k (a ∷ b ∷ c ∷ d ∷ e ∷ n ∷ rest) h =
    let ws = a ∷ b ∷ c ∷ d ∷ e ∷ n ∷ rest in
    ap (λ (l : List ℕ). first_record ws ∷ decode_up_to k l) (drop-drop n 6 ws)

-- more steps than words change nothing here either
decode-enough : (k m : ℕ) (ws : List ℕ) → length ws ≤ k → length ws ≤ m → decode_up_to k ws ≡ decode_up_to m ws
decode-enough zero m ws h g = decode-short zero ws (omega arith) ∙ sym (decode-short m ws (omega arith))
decode-enough (suc k) zero ws h g = decode-short (suc k) ws (omega arith) ∙ sym (decode-short zero ws (omega arith))
decode-enough (suc k) (suc m) ws h g =
    ⊎_elim
    (λ (l : 6 ≤ length ws).
    let short = length-drop (record_length ws) ws in
    rw (decode-long k ws l, decode-long m ws l)
    (ap (λ (rs : List Record). first_record ws ∷ rs) (decode-enough k m (drop (record_length ws) ws) (omega arith) (omega arith))))
    (λ (l : length ws < 6). decode-short (suc k) ws l ∙ sym (decode-short (suc m) ws l))
    (le_or_lt 6 (length ws))

pub decode-none : decode [] ≡ []
unfolding decode decode_up_to
decode-none = refl

pub decode-next : (ws : List ℕ) → 6 ≤ length ws → decode ws ≡ first_record ws ∷ decode (drop (record_length ws) ws)
unfolding decode
decode-next ws h =
    let short = length-drop (record_length ws) ws in
    decode-enough (length ws) (suc (length ws)) ws (omega arith) (omega arith)
    ∙ decode-long (length ws) ws h
    ∙ ap (λ (rs : List Record). first_record ws ∷ rs)
    (decode-enough (length ws) (length (drop (record_length ws) ws)) (drop (record_length ws) ws) (omega arith) (omega arith))

-- ---- the record at a place

-- the words from a place on, which a slice takes
pub words_on : (log : List ℕ) (at : ℕ) → at ≤ length log → take (length log - at) (drop at log) ≡ drop at log
words_on log at l = take_all (length log - at) (drop at log) (rw (length-drop at log) (omega arith))

abbrev pub record_at_lem : List ℕ → ℕ → Record
record_at_lem log at =
    record_of (get_or log at 0) (get_or log (at + 1) 0) (get_or log (at + 2) 0) (get_or log (at + 3) 0 + get_or log (at + 4) 0 * 2 ^ 32)
    (take (get_or log (at + 5) 0) (drop (at + 6) log))

module _ (log : List ℕ) (at : ℕ) where
  pub first_at : get_or (drop at log) 0 0 ≡ get_or log at 0
  first_at = get_or-drop at log 0 0 ∙ ap (λ (i : ℕ). get_or log i 0) (add-zero at)

  after-at : drop (record_length (drop at log)) (drop at log) ≡ drop (next_at log at) log
  after-at =
      let place : at + record_length (drop at log) ≡ next_at log at = rw (get_or-drop at log 5 0) (omega arith) in
      drop-drop (record_length (drop at log)) at log ∙ ap (λ (i : ℕ). drop i log) place

  pub record_at : first_record (drop at log) ≡ record_at_lem log at
  record_at =
      rw (
        first_at,
        get_or-drop at log 1 0,
        get_or-drop at log 2 0,
        get_or-drop at log 3 0,
        get_or-drop at log 4 0,
        get_or-drop at log 5 0,
        drop-drop 6 at log,
      )

  pub decode-at : 6 ≤ length (drop at log) → decode (drop at log) ≡ record_at_lem log at ∷ decode (drop (next_at log at) log)
  decode-at h =
      decode-next (drop at log) h
      ∙ ap (λ (r : Record). r ∷ decode (drop (record_length (drop at log)) (drop at log))) record_at
      ∙ ap (λ (ws : List ℕ). record_at_lem log at ∷ decode ws) after-at

  module _ (named : Named) (last : ℕ) (t : record_sound named last (drop at log) ≡ true) where
    pub sound-at : sound_after named last (drop at log) ≡ 6 + get_or log (at + 5) 0 + sound_after named (get_or log at 0) (drop (next_at log at) log)
    sound-at = sound-next named last (drop at log) t ∙ rw (after-at, first_at, get_or-drop at log 5 0)

    pub long-at : 6 + get_or log (at + 5) 0 ≤ length (drop at log)
    long-at = rw (get_or-drop at log 5 0) at (sound-fits named last (drop at log) t)

    pub fits-at : at ≤ length log → next_at log at ≤ length log
    fits-at l =
        let long = long-at in
        let short = length-drop at log in
        omega arith

-- the iteration of the last record, or this one where there is none
pub last_or : ℕ → List Record → ℕ
last_or t [] = t
last_or t (r ∷ rs) = last_or r.iteration rs

last_of : (t : ℕ) (r : Record) (rs : List Record) → get_or (map (λ (q : Record). q.iteration) (r ∷ rs)) (length rs) 0 ≡ last_or t (r ∷ rs)
unfolding last_or
last_of t r [] = refl
last_of t r (q ∷ rs) = last_of r.iteration q rs

last-is : (rs : List Record) → last_iteration rs ≡ last_or 0 rs
unfolding last_iteration last_or
last-is [] = refl
last-is (r ∷ rs) =
    let one : suc (length rs) - 1 ≡ length rs = omega arith in
    rw one (last_of 0 r rs)

-- ---- from record to record

-- the records before a place are sound: so many, the last of this iteration
pub record Checking (named : Named) (log : List ℕ) (at iteration turns : ℕ) : Type 0 where
  pub within : at ≤ length log
  pub sound_so_far : sound_words named log ≡ at + sound_after named iteration (drop at log)
  pub counted : turns + length (decode (drop at log)) ≡ length (decode log)
  pub last_met : last_or iteration (decode (drop at log)) ≡ last_or 0 (decode log)
  pub few : turns ≤ at
  pub begun : turns ≡ 0 → at ≡ 0

pub checking_none : (named : Named) (log : List ℕ) → Checking named log 0 0 0
unfolding sound_words
checking_none named log =
    record {
      within = omega arith;
      sound_so_far = sym (zero-add (sound_after named 0 log));
      counted = zero-add (length (decode log));
      last_met = refl;
      few = omega arith;
      begun = λ e. refl;
    }

module _ {named : Named} {log : List ℕ} {at iteration turns : ℕ} (p : Checking named log at iteration turns) where
  pub checking_fits : record_sound named iteration (drop at log) ≡ true → next_at log at ≤ length log
  checking_fits t = fits-at log at named iteration t p.within

  pub checking_next : {t net end : ℕ} {path : List ℕ} → record_sound named iteration (drop at log) ≡ true → RecordAt log at t net path end → Checking named log end t (turns + 1)
  unfolding last_or
  checking_next t r =
      let long = long-at log at named iteration t in
      let one : decode (drop at log) ≡ record_at_lem log at ∷ decode (drop (next_at log at) log) = decode-at log at (omega arith) in
      rw (r.end-is, r.iteration-is)
      (record {
        within = checking_fits t;
        sound_so_far = omega (arith, sound-at log at named iteration t, p.sound_so_far);
        counted = omega (arith, rw one at p.counted);
        last_met = rw one at p.last_met;
        few = omega arith;
        begun = λ e. absurd (omega arith);
      })

  pub checked-unsound : at < length log → record_sound named iteration (drop at log) ≡ false → unsound at ≡ log_checked named log
  unfolding log_checked log_sound
  checked-unsound l t =
      let stop : sound_words named log ≡ at = p.sound_so_far ∙ rw (sound_stop named iteration (drop at log) t) (add-zero at) in
      rw (stop, le-leb 1 (length log) (omega arith), ne_eqb at (length log) (λ e. omega arith))

  module _ (l : length log ≤ at) where
    none_left : drop at log ≡ []
    none_left = drop_of_length-le log l

    all_sound : sound_words named log ≡ at
    unfolding sound_up_to
    all_sound = p.sound_so_far ∙ rw none_left (add-zero at)

    pub checked-none : turns ≡ 0 → unsound 0 ≡ log_checked named log
    unfolding log_checked log_sound
    checked-none e =
        let start = p.begun e in
        rw (all_sound, start, lt-leb 1 (length log) (omega arith))

    pub checked-sound : (turns ≡ 0 → ⊥) → sound iteration turns ≡ log_checked named log
    unfolding log_checked log_sound last_or
    checked-sound e =
        let some : 1 ≤ turns = omega arith in
        let all : turns ≡ length (decode log) = omega (arith, rw (none_left, decode-none) at p.counted) in
        let last : iteration ≡ last_iteration (decode log) = rw (none_left, decode-none) at p.last_met ∙ sym (last-is (decode log)) in
        rw (all_sound, le-leb 1 (length log) (omega arith), eq-eqb at (length log) (omega arith), ← all, ← last)

-- ---- what the test of a log says

module _ (named : Named) (log : List ℕ) where
  pub found_all : log_sound named log ≡ true → sound_words named log ≡ length log
  unfolding log_sound
  found_all t = eqb-true (sound_words named log) (length log) (both_right (leb 1 (length log)) (eqb (sound_words named log) (length log)) t)

  pub found :
      {iteration turns : ℕ} → ((i : ℕ) → named.net i ≡ true → i < nets_most) → named.nodes ≤ nodes_most → sound iteration turns ≡ log_checked named log
      → (log_sound named log ≡ true) × LogTested log iteration turns
  unfolding log_checked
  found {iteration} {turns} nets-few nodes-few e =
      by_test (log_sound named log)
      (λ t.
      let same : sound iteration turns ≡ sound (last_iteration (decode log)) (length (decode log)) = rw t at e in (
        t,
        record {
          words-sound = record { named = named; nets-few = nets-few; nodes-few = nodes-few; all_sound = found_all t };
          iteration-is = cc;
          turns_are = cc;
        },
      ))
      (λ t.
      let same : sound iteration turns ≡ unsound (sound_words named log) = rw t at e in
      let z : ◌≡◌ {A = ℕ} 0 1 = cc in
      absurd (omega arith))

  pub found_none : {word : ℕ} → unsound word ≡ log_checked named log → (log_sound named log ≡ false) × (word ≡ sound_words named log)
  unfolding log_checked
  found_none {word} e =
      by_test (log_sound named log)
      (λ t.
      let same : unsound word ≡ sound (last_iteration (decode log)) (length (decode log)) = rw t at e in
      let z : ◌≡◌ {A = ℕ} 0 1 = cc in
      absurd (omega arith))
      (λ t.
      let same : unsound word ≡ unsound (sound_words named log) = rw t at e in
      (t, cc))
