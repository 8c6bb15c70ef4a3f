-- The branches of a sound log, one record after the other and one net after the other.
--     Rest, rest-                      the records from a place on
--     text_from, record_text             the text of a net's
--     PuttingRecords, records-         going from record to record
--     PuttingNets, nets-               going from net to net
-- Assumes nothing.
use mathlib.Core.Bool.{true}
use mathlib.Core.List.{List, [], ◌++◌, flat_map}
use mathlib.Core.Path.{◌≡◌, subst, ◌∙◌, sym}
use Prim.Native.Nat.{ℕ, ◌+◌, ◌-◌, ◌^◌, ◌≤◌, ◌<◌}
use native.Mathlib.Numerals.{add-one}
use native.Mathlib.Omega.{arith}
use lib.ListN.{length, get_or, take, drop, length-drop, drop_of_length-le}
use borrow.Author.Tests.{eq-eqb, ne_eqb}
use Rattle.price.proofs.TestLaws.{by_test}
use Rattle.negotiation.specs.Records.{Record, decode}
use Rattle.text.specs.Routes.{Named, record_sound, sound_words, Branch, steps, passing, record_branches, tree_branches, route_branches}
use Rattle.text.specs.WriteSteps.{next_at, Filled, AllSound, part, own_records, LatestWords, RecordAt}
use Rattle.text.proofs.LogLaws.{sound_after, sound_stop, sound-at, long-at, fits-at, decode-at, decode-none}
use Rattle.text.proofs.StepTextLaws.{filled_none, filled_then, FilledSoFar, so_far-none, so_far_more, so_far-all}
use Rattle.text.proofs.StepListLaws.{flat_append}

-- ---- the records from a place on

-- they are sound, by what they may name
pub record Rest (log : List ℕ) (at : ℕ) : Type 0 where
  pub within : at ≤ length log
  pub named : Named
  pub last : ℕ
  pub all_sound : sound_after named last (drop at log) ≡ length (drop at log)

unfoldable pub rest_none : (log : List ℕ) → AllSound log → Rest log 0
unfolding sound_words
rest_none log e = record { within = omega arith; named = e.named; last = 0; all_sound = e.all_sound }

module _ {log : List ℕ} {at : ℕ} (p : Rest log at) (l : at < length log) where
  pub sound-here : record_sound p.named p.last (drop at log) ≡ true
  sound-here =
      let long = length-drop at log in
      by_test (record_sound p.named p.last (drop at log))
      (λ t. t)
      (λ t. absurd (omega (arith, sound_stop p.named p.last (drop at log) t, p.all_sound)))

  pub rest_fits : next_at log at ≤ length log
  rest_fits = fits-at log at p.named p.last sound-here p.within

  abbrev pub rest_next : Rest log (next_at log at)
  rest_next =
      record {
        within = rest_fits;
        named = p.named;
        last = get_or log at 0;
        all_sound =
            omega (arith, sound-at log at p.named p.last sound-here, p.all_sound, length-drop at log, length-drop (next_at log at) log, rest_fits);
      }

-- ---- the text of a net's records

-- those from a place on
abbrev pub text_from : (Branch → List ℕ) → ℕ → List ℕ → ℕ → List ℕ
text_from line net log at = flat_map line (record_branches (own_records net (decode (drop at log))))

-- one of them
abbrev pub record_text : (Branch → List ℕ) → ℕ → List ℕ → ℕ → ℕ → List ℕ
record_text line net log at end = flat_map line (steps net (part log (at + 6) end))

text_none : (line : Branch → List ℕ) (net : ℕ) (log : List ℕ) (at : ℕ) → length log ≤ at → text_from line net log at ≡ []
unfolding passing record_branches flat_map
text_none line net log at l = rw (drop_of_length-le log l, decode-none)

module _ {log : List ℕ} {at : ℕ} (p : Rest log at) (l : at < length log) (line : Branch → List ℕ) (net : ℕ) where
  text_met : get_or log (at + 1) 0 ≡ net → text_from line net log at ≡ record_text line net log at (next_at log at) ++ text_from line net log (next_at log at)
  unfolding passing record_branches
  text_met e =
      let long = long-at log at p.named p.last (sound-here p l) in
      let count : next_at log at - (at + 6) ≡ get_or log (at + 5) 0 = omega arith in
      rw (decode-at log at (omega arith), eq-eqb (get_or log (at + 1) 0) net e, count, e)
      (flat_append line (steps net (take (get_or log (at + 5) 0) (drop (at + 6) log)))
      (record_branches (own_records net (decode (drop (next_at log at) log)))))

  text_passed : (get_or log (at + 1) 0 ≡ net → ⊥) → text_from line net log at ≡ text_from line net log (next_at log at)
  unfolding passing
  text_passed e =
      let long = long-at log at p.named p.last (sound-here p l) in
      rw (decode-at log at (omega arith), ne_eqb (get_or log (at + 1) 0) net e)

-- the text of a net's branches before a place is passed
pub record PuttingRecords (line : Branch → List ℕ) (net : ℕ) (log : List ℕ) (start : ℕ) (before after : List ℕ) (next at : ℕ) : Type 0 where
  pub rest : Rest log at
  pub writing : FilledSoFar start (flat_map line (record_branches (own_records net (decode log)))) (text_from line net log at) before after next

pub records-none : (line : Branch → List ℕ) (net : ℕ) (log : List ℕ) (start : ℕ) (before : List ℕ) → start < 2 ^ 64 → AllSound log → PuttingRecords line net log start before before start 0
records-none line net log start before small e =
    record { rest = rest_none log e; writing = so_far-none start (flat_map line (record_branches (own_records net (decode log)))) before small }

module _ {line : Branch → List ℕ} {net start next at : ℕ} {log before after : List ℕ} (p : PuttingRecords line net log start before after next at) where
  pub records-all : length log ≤ at → Filled start (flat_map line (record_branches (own_records net (decode log)))) before after next
  records-all l = so_far-all (rw (text_none line net log at l) at p.writing)

  module _ (l : at < length log) where
    module _ {iteration own end : ℕ} {path : List ℕ} (r : RecordAt log at iteration own path end) where
      pub records_passed : (own ≡ net → ⊥) → PuttingRecords line net log start before after next end
      records_passed e =
          rw r.end-is (record { rest = rest_next p.rest l; writing = rw (text_passed p.rest l line net (λ q. e (r.net-is ∙ q))) at p.writing })

      pub records_met :
          {later : List ℕ} {further : ℕ} → own ≡ net → Filled next (flat_map line (steps net path)) after later further
          → PuttingRecords line net log start before later further end
      records_met e q =
          rw r.end-is
          (record {
            rest = rest_next p.rest l;
            writing =
                so_far_more (record_text line net log at (next_at log at)) (text_from line net log (next_at log at))
                (rw (text_met p.rest l line net (sym r.net-is ∙ e)) at p.writing) (rw (r.path-is, r.end-is) at q);
          })

-- ---- net after net

-- the text of the nets before one is passed
pub record PuttingNets (line : Branch → List ℕ) (log : List ℕ) (nets start : ℕ) (before after : List ℕ) (next net : ℕ) : Type 0 where
  pub within : net ≤ nets
  pub filled : Filled start (flat_map line (route_branches net (decode log))) before after next

pub nets-none : (line : Branch → List ℕ) (log : List ℕ) (nets start : ℕ) (before : List ℕ) → start < 2 ^ 64 → PuttingNets line log nets start before before start 0
unfolding route_branches flat_map
nets-none line log nets start before small = record { within = omega arith; filled = filled_none start before small }

module _ {line : Branch → List ℕ} {log : List ℕ} {nets start next net : ℕ} {before after : List ℕ} (p : PuttingNets line log nets start before after next net) where
  pub nets-more :
      {later words : List ℕ} {further : ℕ} → net < nets → LatestWords log net words
      → Filled next (flat_map line (record_branches (own_records net (decode words)))) after later further
      → PuttingNets line log nets start before later further (net + 1)
  unfolding route_branches tree_branches
  nets-more {later} {words} {further} l latest q =
      record {
        within = omega arith;
        filled =
            rw (add-one net, flat_append line (route_branches net (decode log)) (tree_branches net (decode log)))
            (filled_then p.filled
            (subst (λ (rs : List Record). Filled next (flat_map line (record_branches rs)) after later further) latest.own q));
      }

  pub nets-all : nets ≤ net → Filled start (flat_map line (route_branches nets (decode log))) before after next
  nets-all l =
      let end : net ≡ nets = omega (arith, p.within) in
      subst (λ (n : ℕ). Filled start (flat_map line (route_branches n (decode log))) before after next) end p.filled
