-- The first line: the bounds of its counts, what it gives by them, and the lines before the nodes.
--     head_bounds                                 the bounds where all are kept
--     head_malformed, -beyond, -read              1, 2, or the values
--     head_read_on, -stopped, -refused            the line with the terms after it, or the refusal
--     head_counts, head_place                     the counts, and the place where the line ends
-- Assumes nothing.
use mathlib.Core.Bool.{true, false}
use mathlib.Core.List.{List, [], ◌∷◌}
use mathlib.Core.Path.{◌≡◌, refl, ◌∙◌, sym, ap}
use Prim.Native.Nat.{ℕ, ◌≤◌}
use lib.Dec.{leb}
use lib.ListN.{length, drop}
use borrow.Author.Tests.{leb-true}
use Rattle.price.specs.Test.{both}
use Rattle.price.specs.Bounds.{nodes_most, limit_most}
use Rattle.price.proofs.TestLaws.{both_left, both_right}
use Rattle.search.specs.Tables.{edges_most}
use Rattle.job.specs.Tables.{nets_most}
use Rattle.text.specs.Lines.{letter_f, line}
use Rattle.text.specs.JobText.{values, refused, part, stopped, between, head_within, head_line, terms_part, counts_of, head_part}
use Rattle.text.specs.Steps.{row, fields_at, head_at, HeadPlace, terms_at}
use Rattle.text.specs.ReadSteps.{CountsWithin}
use Rattle.std.specs.Prelude.{Option}
use Rattle.std.specs.Prelude.{Some, None}
use Rattle.std.specs.Prelude.{Result}
use Rattle.std.specs.Prelude.{Ok, Err}
use Rattle.text.specs.declared.fields.LineFields.{LineFields}
use Rattle.text.specs.declared.place.LineFault.{LineFault}
use Rattle.text.specs.declared.place.LineRefusal.{LineRefusal}
use Rattle.text.specs.declared.optional.TermsRead.{TermsRead}
use Rattle.text.specs.declared.head.Head.{Head}
use Rattle.text.proofs.JudgedLaws.{line-malformed, line_taken, judged-beyond, judged-taken, judged-values}

head_bounds : (n edges nets limit : ℕ) → head_within (n ∷ edges ∷ nets ∷ limit ∷ []) ≡ true → CountsWithin n edges nets
unfolding head_within
head_bounds n edges nets limit e =
    let limits = between 1 limit_most limit in
    let rest = both (leb edges edges_most) (both (between 1 nets_most nets) limits) in
    let after = both_right (between 1 nodes_most n) rest e in
    let last = both_right (leb edges edges_most) (both (between 1 nets_most nets) limits) after in
    record {
      nodes_most_lem = leb-true n nodes_most (both_right (leb 1 n) (leb n nodes_most) (both_left (between 1 nodes_most n) rest e));
      edges_most_lem = leb-true edges edges_most (both_left (leb edges edges_most) (both (between 1 nets_most nets) limits) after);
      nets_most_lem = leb-true nets nets_most (both_right (leb 1 nets) (leb nets nets_most) (both_left (between 1 nets_most nets) limits last));
    }

module _ (text : List ℕ) {r : Option LineFields} (read : fields_at 4 text r ≡ line letter_f 4 text) where
  pub head_malformed : r ≡ None → refused 1 ≡ head_line text
  unfolding head_line
  head_malformed e = rw (line-malformed 4 text read e)

  module _ {l : LineFields} (e : r ≡ Some l) where
    pub head_beyond : head_within (l.first ∷ l.second ∷ l.third ∷ l.fourth ∷ []) ≡ false → refused 2 ≡ head_line text
    unfolding head_line
    head_beyond w = sym (judged-beyond head_within (λ vs. true) (line_taken 4 text read e) w)

    pub head_read :
        head_within (l.first ∷ l.second ∷ l.third ∷ l.fourth ∷ []) ≡ true
        → values (l.first ∷ l.second ∷ l.third ∷ l.fourth ∷ []) (drop l.next text) ≡ head_line text
    unfolding head_line
    head_read w = sym (judged-taken head_within (λ vs. true) (line_taken 4 text read e) w refl)

-- the first line as it was read, and the lines before the nodes
module _ (text : List ℕ) {x : Result Head LineFault} (read : head_at text x ≡ head_line text) where
  pub head_refused : {k : LineFault} → x ≡ Err k → stopped (row k) 1 ≡ head_part text
  unfolding head_part
  head_refused is = rw (← read, is)

  module _ {h : Head} (is : x ≡ Ok h) where
    bounds : head_within (h.nodes ∷ h.edges ∷ h.nets ∷ h.limit ∷ []) ≡ true
    unfolding head_line
    bounds =
        (judged-values head_within (λ vs. true) (line letter_f 4 text) (h.nodes ∷ h.edges ∷ h.nets ∷ h.limit ∷ []) (drop h.next text)
        (sym read ∙ ap (head_at text) is)).bounds

    pub head_counts : CountsWithin h.nodes h.edges h.nets
    head_counts = head_bounds h.nodes h.edges h.nets h.limit bounds

    module _ {y : Result TermsRead LineRefusal} (asked : terms_at text y ≡ terms_part h.limit 2 (drop h.next text)) where
      pub head_read_on :
          {t : TermsRead} → y ≡ Ok t
          → part (counts_of (h.nodes ∷ h.edges ∷ h.nets ∷ h.limit ∷ []) t.terms) t.place.line (drop t.place.at text) ≡ head_part text
      unfolding head_part
      head_read_on known = rw (← read, is, ← asked, known)

      pub head_stopped : {e : LineRefusal} → y ≡ Err e → stopped (row e.fault) e.line ≡ head_part text
      unfolding head_part
      head_stopped known = rw (← read, is, ← asked, known)

-- where the first line ends
pub head_place : (text : List ℕ) {x : Result Head LineFault} {h : Head} → x ≡ Ok h → HeadPlace text x → (1 ≤ h.next) × (h.next ≤ length text)
head_place text is place = rw is at place
