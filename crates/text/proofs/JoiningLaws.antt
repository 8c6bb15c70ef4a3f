-- Texts one after the other in a buffer: what a loop that writes them keeps.
-- Assumes nothing.
use mathlib.Core.List.{List, [], ◌++◌, append_assoc}
use mathlib.Core.Path.{◌≡◌, refl, sym, ◌∙◌, ap, subst}
use Prim.Native.Nat.{ℕ, zero, suc, ◌+◌, ◌*◌, ◌-◌, ◌≤◌, ◌<◌}
use native.Mathlib.Nat.{zero-add, suc-add, add-zero, suc-mul}
use native.Mathlib.Omega.{arith}
use lib.ListN.{length, length-append}
use Rattle.text.specs.Lines.{print_line}
use Rattle.text.specs.Printed.{concat_from}
use Rattle.text.specs.WriteSteps.{Put}
use Rattle.text.specs.LineReplies.{place_reply_of, line_reply}
use Rattle.text.proofs.PlacedLaws.{placed-none, put_then, put-length, put-room}
use Rattle.text.proofs.LineReplyLaws.{line-put}
use Rattle.text.proofs.NetTextLaws.{concat-last}

pub concat-append : (f : ℕ → List ℕ) (a j k : ℕ) → concat_from f a (j + k) ≡ concat_from f a j ++ concat_from f (a + j) k
unfolding concat_from
concat-append f a zero k = rw (zero-add, add-zero)
concat-append f a (suc j) k =
    let e : suc a + j ≡ a + suc j = omega arith in
    rw (suc-add, concat-append f (suc a) j k, e) (sym (append_assoc (f a) (concat_from f (suc a) j) (concat_from f (a + suc j) k)))

-- nothing is written yet
pub put-none : (at : ℕ) (buffer : List ℕ) → Put at [] buffer buffer at
put-none at buffer = record { written = sym (placed-none at buffer); next-is = omega arith }

-- ---- one text behind another

pub part_first : (at : ℕ) (xs ys buffer : List ℕ) → at + length (xs ++ ys) ≤ length buffer → at + length xs ≤ length buffer
part_first at xs ys buffer fits = omega (arith, length-append xs ys)

module _ {at : ℕ} (xs ys : List ℕ) {before : List ℕ} (fits : at + length (xs ++ ys) ≤ length before) {mid : List ℕ} {next : ℕ} (p : Put at xs before mid next) where
  pub part_rest : next + length ys ≤ length mid
  part_rest = put-room p (length ys) (omega (arith, length-append xs ys))

  pub part-both : {after : List ℕ} {last : ℕ} → Put next ys mid after last → Put at (xs ++ ys) before after last
  part-both q = put_then p q (omega (arith, length-append xs ys))

-- a line of fields that are known by other names
pub line-put_as :
    (letter : ℕ) {vs ws : List ℕ} {at next : ℕ} {buffer after : List ℕ} → vs ≡ ws → place_reply_of next after ≡ line_reply letter vs at buffer
    → at + length (print_line letter ws) ≤ length buffer → Put at (print_line letter ws) buffer after next
line-put_as letter {vs} {ws} {at} {next} {buffer} {after} e answered fits =
    line-put letter ws (answered ∙ ap (λ (xs : List ℕ). line_reply letter xs at buffer) e) fits

-- texts that are the same from a number on, one after the other
pub concat_alike : (f g : ℕ → List ℕ) (a k : ℕ) → ((i : ℕ) → a ≤ i → i < a + k → f i ≡ g i) → concat_from f a k ≡ concat_from g a k
unfolding concat_from
concat_alike f g a zero same = refl
concat_alike f g a (suc k) same = rw (same a (omega arith) (omega arith), concat_alike f g (suc a) k (λ i l m. same i (omega arith) (omega arith)))

-- texts of at most m bytes each
pub concat_size : (f : ℕ → List ℕ) (m a k : ℕ) → ((i : ℕ) → i < a + k → length (f i) ≤ m) → length (concat_from f a k) ≤ k * m
unfolding concat_from
concat_size f m a zero h = omega arith
concat_size f m a (suc k) h =
    rw (length-append (f a) (concat_from f (suc a) k))
    (omega (arith, h a (omega arith), concat_size f m (suc a) k (λ i l. h i (omega arith)), suc-mul k m))

module _ (f : ℕ → List ℕ) (from to : ℕ) where
  -- the next text has room where all have
  joined-fits : (v : ℕ) → from ≤ v → v < to → length (concat_from f from (v - from)) + length (f v) ≤ length (concat_from f from (to - from))
  unfolding concat_from
  joined-fits v low l =
      let k : ℕ = to - v - 1 in
      let whole : to - from ≡ (v - from) + suc k = omega arith in
      let here : from + (v - from) ≡ v = omega arith in
      let parts : concat_from f from (to - from) ≡ concat_from f from (v - from) ++ (f v ++ concat_from f (suc v) k) =
      ap (concat_from f from) whole ∙ concat-append f from (v - from) (suc k) ∙ ap (λ (a : ℕ). concat_from f from (v - from) ++ concat_from f a (suc k)) here in
      rw (parts, length-append (concat_from f from (v - from)) (f v ++ concat_from f (suc v) k), length-append (f v) (concat_from f (suc v) k)) (omega arith)

  -- and the texts so far have room
  joined-most : (v : ℕ) → from ≤ v → v ≤ to → length (concat_from f from (v - from)) ≤ length (concat_from f from (to - from))
  joined-most v low l =
      let whole : to - from ≡ (v - from) + (to - v) = omega arith in
      rw (whole, concat-append f from (v - from) (to - v), length-append (concat_from f from (v - from)) (concat_from f (from + (v - from)) (to - v))) (omega arith)

  -- the texts of the numbers from `from` to v stand in the buffer
  pub record Joining (start : ℕ) (before now : List ℕ) (at v : ℕ) : Type 0 where
    pub put : Put start (concat_from f from (v - from)) before now at
    pub low : from ≤ v
    pub high : v ≤ to

  module _ (start : ℕ) (before : List ℕ) (fits : start + length (concat_from f from (to - from)) ≤ length before) where
    pub joining_none : from ≤ to → Joining start before before start from
    unfolding concat_from
    joining_none l =
        let none : 0 ≡ from - from = omega arith in
        record { put = subst (λ (k : ℕ). Put start (concat_from f from k) before before start) none (put-none start before); low = omega arith; high = l }

    module _ {now : List ℕ} {at v : ℕ} (j : Joining start before now at v) where
      pub joining_room : v < to → at + length (f v) ≤ length now
      joining_room l = put-room j.put (length (f v)) (omega (arith, joined-fits v j.low l))

      pub joining_more : {after : List ℕ} {next : ℕ} → v < to → Put at (f v) now after next → Joining start before after next (v + 1)
      joining_more {after} {next} l p =
          let low = j.low in
          let longer : suc (v - from) ≡ v + 1 - from = omega arith in
          let here : from + (v - from) ≡ v = omega arith in
          let both : Put start (concat_from f from (v - from) ++ f v) before after next = put_then j.put p (omega (arith, joined-fits v low l)) in
          record {
            put = subst (λ (k : ℕ). Put start (concat_from f from k) before after next) longer
                (subst (λ (xs : List ℕ). Put start xs before after next) (sym (concat-last f from (v - from) v here)) both);
            low = omega arith;
            high = omega arith;
          }

      pub joining_all : to ≤ v → Put start (concat_from f from (to - from)) before now at
      joining_all l =
          let high = j.high in
          let end : v ≡ to = omega arith in
          subst (λ (k : ℕ). Put start (concat_from f from (k - from)) before now at) end j.put

      pub joining_same : length now ≡ length before
      joining_same = put-length j.put (omega (arith, joined-most v j.low j.high))

-- ---- all texts from the first on

pub from_first : (f : ℕ → List ℕ) (to start room : ℕ) → start + length (concat_from f 0 to) ≤ room → start + length (concat_from f 0 (to - 0)) ≤ room
from_first f to start room fits =
    let e : to ≡ to - 0 = omega arith in
    subst (λ (k : ℕ). start + length (concat_from f 0 k) ≤ room) e fits

pub all-put : (f : ℕ → List ℕ) (to : ℕ) {start at : ℕ} {before now : List ℕ} → Put start (concat_from f 0 (to - 0)) before now at → Put start (concat_from f 0 to) before now at
all-put f to {start} {at} {before} {now} p =
    let e : to - 0 ≡ to = omega arith in
    subst (λ (k : ℕ). Put start (concat_from f 0 k) before now at) e p
