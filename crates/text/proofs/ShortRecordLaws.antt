-- The nets and nodes of a sound log's records, and that a field can hold them.
--     decode_first                  a sound log that isn't empty has a first record
--     Short, all_short              its records name what they may
--     step_printable                so a line gives back each step of their paths
-- Assumes nothing.
use mathlib.Core.Bool.{true}
use mathlib.Core.List.Memᴰ
use mathlib.Core.List.{List, [], ◌∷◌, Memᴰ}
use mathlib.Core.Logic.{⊎_elim}
use mathlib.Core.Path.{◌≡◌, refl}
use Prim.Native.Nat.{ℕ, zero, suc, ◌+◌, ◌^◌, ◌≤◌, ◌<◌}
use native.Mathlib.Omega.{arith}
use lib.Dec.{leb, ltb, eqb}
use lib.ListN.{length, get_or, drop, length-drop, drop_of_length-le}
use borrow.Author.Tests.{lt-ltb, ltb-true}
use Rattle.price.specs.Test.{both}
use Rattle.price.specs.Bounds.{nodes_most}
use Rattle.price.specs.Lists.{every}
use Rattle.price.proofs.TestLaws.{by_test, both_true, both_left, both_right, le_or_lt}
use Rattle.price.proofs.ListLaws.{every-at}
use Rattle.job.specs.Tables.{nets_most}
use Rattle.negotiation.specs.Records.{Record, decode}
use Rattle.text.specs.JobText.{between}
use Rattle.text.specs.Routes.{Named, path_words, path_sound, record_sound}
use Rattle.text.specs.Listed.{step_at}
use Rattle.text.proofs.RecordTestLaws.{record_length, sound-path, sound-net, sound-fits}
use Rattle.text.proofs.LogLaws.{sound_after, sound-next, sound_stop, first_record, decode-none, decode-next}
use Rattle.text.proofs.RouteLineLaws.{branch_fields, Printable}

-- a record that names what it may
pub record Short (named : Named) (r : Record) : Type 0 where
  pub net_passes : named.net r.net ≡ true
  pub nodes-below : every (λ v. ltb v named.nodes) r.path ≡ true

module _ (named : Named) (last : ℕ) (ws : List ℕ) (e : record_sound named last ws ≡ true) where
  pub first_short : Short named (first_record ws)
  unfolding path_sound
  first_short =
      record {
        net_passes = sound-net named last ws e;
        nodes-below =
            both_left (every (λ v. ltb v named.nodes) (path_words (get_or ws 5 0) ws)) (eqb (get_or ws (5 + get_or ws 5 0) 0) (get_or ws 2 0))
            (both_right (both (between 2 nodes_most (get_or ws 5 0)) (leb (6 + get_or ws 5 0) (length ws)))
            (both (every (λ v. ltb v named.nodes) (path_words (get_or ws 5 0) ws)) (eqb (get_or ws (5 + get_or ws 5 0) 0) (get_or ws 2 0)))
            (sound-path named last ws e));
      }

-- the words that are left are sound: their first record is, and so are the words after it
module _ (named : Named) (last : ℕ) (ws : List ℕ) (all : sound_after named last ws ≡ length ws) (some : 1 ≤ length ws) where
  sound_first : record_sound named last ws ≡ true
  sound_first =
      by_test (record_sound named last ws)
      (λ t. t)
      (λ t. absurd (omega (arith, sound_stop named last ws t)))

  sound_rest : sound_after named (get_or ws 0 0) (drop (record_length ws) ws) ≡ length (drop (record_length ws) ws)
  sound_rest = omega (arith, sound-next named last ws sound_first, sound-fits named last ws sound_first, length-drop (record_length ws) ws)

  pub decode_first : decode ws ≡ first_record ws ∷ decode (drop (record_length ws) ws)
  decode_first = decode-next ws (omega (arith, sound-fits named last ws sound_first))

-- so every record of sound words is short; k bounds the records
pub all_short : (named : Named) (k last : ℕ) (ws : List ℕ) → length ws ≤ k → sound_after named last ws ≡ length ws → (r : Record) → Memᴰ r (decode ws) → Short named r
all_short named zero last ws few all r m =
    let none : ws ≡ [] = drop_of_length-le ws few in
    absurd (Memᴰ.not-nil (rw (none, decode-none) at m))
all_short named (suc k) last ws few all r m =
    ⊎_elim
    (λ (some : 1 ≤ length ws).
    ⊎_elim
    (λ (e : r ≡ first_record ws). rw e (first_short named last ws (sound_first named last ws all some)))
    (λ (p : Memᴰ r (decode (drop (record_length ws) ws))).
    all_short named k (get_or ws 0 0) (drop (record_length ws) ws) (omega (arith, length-drop (record_length ws) ws)) (sound_rest named last ws all some) r p)
    (Memᴰ.cases_cons (rw (decode_first named last ws all some) at m)))
    (λ (h : length ws < 1).
    let short : length ws ≤ 0 = omega arith in
    let none : ws ≡ [] = drop_of_length-le ws short in
    absurd (Memᴰ.not-nil (rw (none, decode-none) at m)))
    (le_or_lt 1 (length ws))

-- a line gives back each step of such a record's path
pub step_printable :
    (named : Named) (r : Record) → ((i : ℕ) → named.net i ≡ true → i < nets_most) → named.nodes ≤ nodes_most → Short named r
    → (k : ℕ) → suc k < length r.path → Printable (branch_fields (step_at r k))
unfolding step_at every
step_printable named r nets-few nodes-few h k l =
    let few = nets-few r.net h.net_passes in
    let from = ltb-true (get_or r.path k 0) named.nodes (every-at (λ v. ltb v named.nodes) r.path h.nodes-below k (omega arith)) in
    let to = ltb-true (get_or r.path (suc k) 0) named.nodes (every-at (λ v. ltb v named.nodes) r.path h.nodes-below (suc k) (omega arith)) in
    both_true (lt-ltb r.net (10 ^ 6) (omega arith))
    (both_true (lt-ltb (get_or r.path k 0) (10 ^ 6) (omega arith))
    (both_true (lt-ltb (get_or r.path (suc k) 0) (10 ^ 6) (omega arith)) refl))
