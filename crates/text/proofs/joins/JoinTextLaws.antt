-- Nets of one source: the marks of those that come first, and the J lines of the others.
--     FirstMarks, first-               marking the nets that are the first of their source
--     join-                            the J lines of one net more
--     counted-all, joins-room          those of all nets are few, and where they fit, each does
--     JoinsPassed, joins-              going from net to net
-- Assumes nothing.
use mathlib.Core.Bool.{Bool, false}
use mathlib.Core.List.{List, [], ◌∷◌, ◌++◌, append_assoc, append-nil}
use mathlib.Core.Logic.{⊎_elim}
use mathlib.Core.Path.{◌≡◌, refl, sym, ◌∙◌, ap, subst}
use Prim.Native.Nat.{ℕ, zero, suc, ◌+◌, ◌*◌, ◌-◌, ◌^◌, ◌≤◌, ◌<◌}
use native.Mathlib.Nat.{add-zero}
use native.Mathlib.Numerals.{add-one}
use native.Mathlib.Omega.{arith}
use lib.Dec.{ltb, eqb}
use lib.ListN.{get_or, length, replicate, set, length-append, length-set, length-replicate}
use lib.Seq.{get_or-set_same, get_or-set_other}
use borrow.Author.Tests.{lt-ltb, le-ltb, eq-eqb, ne_eqb}
use Rattle.price.specs.Test.{choose, both}
use Rattle.price.proofs.TestLaws.{le_or_lt, same_or_not}
use Rattle.job.specs.Join.{first_of, leads}
use Rattle.job.specs.Tables.{nets_most}
use Rattle.text.specs.Lines.{letter_j, print_line}
use Rattle.text.specs.Routes.{net_writable, Join, joins_before, route_joins, join_text}
use Rattle.text.specs.WriteSteps.{Put, Filled, net_marked}
use Rattle.text.proofs.PlacedLaws.{put-length}
use Rattle.text.proofs.RouteTextLaws.{joins_most}
use Rattle.text.proofs.StepTextLaws.{filled_none, filled_then}

-- ---- the J lines of one net more

join_append : (ps qs : List Join) → join_text (ps ++ qs) ≡ join_text ps ++ join_text qs
unfolding join_text
join_append [] qs = refl
join_append (p ∷ ps) qs = rw (join_append ps qs) (sym (append_assoc (print_line letter_j (p.net ∷ p.first ∷ [])) (join_text ps) (join_text qs)))

-- the lines of the nets before one
abbrev pub joins_to : List ℕ → ℕ → List ℕ
joins_to sources i = join_text (joins_before sources i)

abbrev pub join_line : List ℕ → ℕ → List ℕ
join_line sources i = print_line letter_j (i ∷ first_of sources i ∷ [])

module _ (sources : List ℕ) (i : ℕ) where
  join_first : first_of sources i ≡ i → joins_to sources (i + 1) ≡ joins_to sources i
  unfolding joins_before leads
  join_first e = rw (add-one i, eq-eqb (first_of sources i) i e, append-nil (joins_before sources i))

  join_later : (first_of sources i ≡ i → ⊥) → joins_to sources (i + 1) ≡ joins_to sources i ++ join_line sources i
  unfolding joins_before leads join_text
  join_later e =
      rw (add-one i, ne_eqb (first_of sources i) i e)
      (join_append (joins_before sources i) (record { net = i; first = first_of sources i } ∷ [])
      ∙ ap (λ (l : List ℕ). joins_to sources i ++ l) (append-nil (join_line sources i)))

-- a net more takes no fewer bytes
join_rises : (sources : List ℕ) (i k : ℕ) → length (joins_to sources i) ≤ length (joins_to sources (i + k))
unfolding joins_before
join_rises sources i zero = rw (add-zero i) (omega arith)
join_rises sources i (suc k) =
    let place : i + suc k ≡ suc (i + k) = omega arith in
    let added : List Join = choose (leads sources (i + k)) [] (record { net = i + k; first = first_of sources (i + k) } ∷ []) in
    let more = ap length (join_append (joins_before sources (i + k)) added) in
    rw place (omega (arith, join_rises sources i k, length-append (joins_to sources (i + k)) (join_text added)))

-- ---- how many bytes the lines take

-- those of the nets before one, where no net is left
pub counted-all :
    (sources : List ℕ) {bytes net : ℕ} → net ≤ length sources → bytes ≡ length (joins_to sources net) → length sources ≤ net → length sources ≤ nets_most
    → (bytes ≡ length (join_text (route_joins sources))) × (bytes ≤ 44 * nets_most)
unfolding route_joins
counted-all sources {bytes} {net} within counted l most =
    let end : net ≡ length sources = omega arith in
    let all : bytes ≡ length (join_text (route_joins sources)) = counted ∙ ap (λ (i : ℕ). length (joins_to sources i)) end in
    (all, omega (arith, joins_most sources most))

-- the lines before a net are written, where there is room for all: so there is for the next one
module _ (sources : List ℕ) {before after : List ℕ} {start at net first : ℕ} (room : start + length (join_text (route_joins sources)) ≤ length before) (p : Put start (joins_to sources net) before after at) (l : net < length sources) (is : first ≡ first_of sources net) where
  to_room : (i : ℕ) → i ≤ length sources → start + length (joins_to sources i) ≤ length before
  unfolding route_joins
  to_room i l =
      let end : i + (length sources - i) ≡ length sources = omega arith in
      let rises : length (joins_to sources i) ≤ length (joins_to sources (length sources)) = rw end at (join_rises sources i (length sources - i)) in
      omega arith

  pub joins-room : (first ≡ net → ⊥) → at + length (print_line letter_j (net ∷ first ∷ [])) ≤ length after
  joins-room e =
      let later : joins_to sources (net + 1) ≡ joins_to sources net ++ print_line letter_j (net ∷ first ∷ []) =
      join_later sources net (λ q. e (is ∙ q)) ∙ rw (← is) in
      omega (
        arith,
        to_room (net + 1) (omega arith),
        ap length later,
        length-append (joins_to sources net) (print_line letter_j (net ∷ first ∷ [])),
        put-length p (to_room net (omega arith)),
        p.next-is,
      )

-- ---- from net to net

-- the lines of the nets before one are passed
pub record JoinsPassed (sources : List ℕ) (start : ℕ) (before after : List ℕ) (next net : ℕ) : Type 0 where
  pub within : net ≤ length sources
  pub filled : Filled start (joins_to sources net) before after next

pub joins-none : (sources : List ℕ) (start : ℕ) (before : List ℕ) → start < 2 ^ 64 → JoinsPassed sources start before before start 0
unfolding joins_before join_text
joins-none sources start before small = record { within = omega arith; filled = filled_none start before small }

module _ {sources before after : List ℕ} {start next net : ℕ} (p : JoinsPassed sources start before after next net) where
  pub joins-all : length sources ≤ net → Filled start (join_text (route_joins sources)) before after next
  unfolding route_joins
  joins-all l =
      let end : net ≡ length sources = omega (arith, p.within) in
      subst (λ (i : ℕ). Filled start (joins_to sources i) before after next) end p.filled

  module _ {first : ℕ} (l : net < length sources) (is : first ≡ first_of sources net) where
    pub joins_first : first ≡ net → JoinsPassed sources start before after next (net + 1)
    joins_first e =
        record {
          within = omega arith;
          filled = subst (λ (text : List ℕ). Filled start text before after next) (sym (join_first sources net (sym is ∙ e))) p.filled;
        }

    pub joins-more :
        {later : List ℕ} {further : ℕ} → (first ≡ net → ⊥) → Filled next (print_line letter_j (net ∷ first ∷ [])) after later further
        → JoinsPassed sources start before later further (net + 1)
    joins-more {later} {further} e q =
        let later_is : joins_to sources (net + 1) ≡ joins_to sources net ++ print_line letter_j (net ∷ first ∷ []) =
        join_later sources net (λ q. e (is ∙ q)) ∙ rw (← is) in
        record {
          within = omega arith;
          filled = subst (λ (text : List ℕ). Filled start text before later further) (sym later_is) (filled_then p.filled q);
        }

-- ---- the marks of first nets

-- of the nets before one, those that are the first of their source are marked
pub record FirstMarks (sources : List ℕ) (marks : List Bool) (net : ℕ) : Type 0 where
  pub within : net ≤ length sources
  pub long : length marks ≡ nets_most
  pub marked : (i : ℕ) → net_marked marks i ≡ both (ltb i net) (leads sources i)

unmarked : (n i : ℕ) → get_or {A = Bool} (replicate n false) i false ≡ false
unmarked zero i = refl
unmarked (suc n) zero = refl
unmarked (suc n) (suc i) = unmarked n i

pub first_none : (sources : List ℕ) → FirstMarks sources (replicate 512 false) 0
unfolding net_marked
first_none sources =
    record {
      within = omega arith;
      long = length-replicate {A = Bool} 512 false;
      marked = λ i. rw (unmarked 512 i, le-ltb i 0 (omega arith));
    }

module _ {sources : List ℕ} {marks : List Bool} {net : ℕ} (p : FirstMarks sources marks net) where
  module _ {first : ℕ} (l : net < length sources) (is : first ≡ first_of sources net) where
    same-below : (i : ℕ) → (i ≡ net → ⊥) → ltb i net ≡ ltb i (net + 1)
    same-below i ne =
        ⊎_elim
        (λ (h : net ≤ i). le-ltb i net h ∙ sym (le-ltb i (net + 1) (omega arith)))
        (λ (h : i < net). lt-ltb i net h ∙ sym (lt-ltb i (net + 1) (omega arith)))
        (le_or_lt net i)

    -- the net's own mark is right, and the others stand
    one_more : (later : List Bool) → length later ≡ nets_most → net_marked later net ≡ leads sources net → ((i : ℕ) → (i ≡ net → ⊥) → net_marked later i ≡ net_marked marks i) → FirstMarks sources later (net + 1)
    one_more later long here others =
        record {
          within = omega arith;
          long = long;
          marked =
              λ i.
              ⊎_elim
              (λ (e : i ≡ net). rw (e, lt-ltb net (net + 1) (omega arith)) here)
              (λ (ne : i ≡ net → ⊥). others i ne ∙ p.marked i ∙ ap (λ (b : Bool). both b (leads sources i)) (same-below i ne))
              (same_or_not i net);
        }

    pub first_more : {here : Bool} → here ≡ eqb first net → length sources ≤ nets_most → FirstMarks sources (set marks net here) (net + 1)
    unfolding net_marked leads
    first_more {here} e most =
        one_more (set marks net here) (length-set marks net here ∙ p.long)
        (get_or-set_same marks net here false (omega (arith, p.long)) ∙ e ∙ rw is)
        (λ i ne. get_or-set_other marks net i here false ne)

  pub first_all : length sources ≤ net → (i : ℕ) → net_marked marks i ≡ net_writable sources i
  unfolding net_writable
  first_all l i =
      let end : net ≡ length sources = omega (arith, p.within) in
      p.marked i ∙ rw end
