-- The lines before the nodes: reading them gives counts and terms within their bounds, and printing these gives the lines' bytes.
-- Assumes nothing.
use mathlib.Core.Bool.{true}
use mathlib.Core.List.{List, [], ◌∷◌, ◌++◌}
use mathlib.Core.Path.{◌≡◌, refl, ◌∙◌, ap}
use Prim.Native.Nat.{ℕ, ◌≤◌, ◌^◌}
use native.Mathlib.Omega.{arith}
use lib.Dec.{leb, ltb}
use lib.ListN.{get_or}
use borrow.Author.Tests.{le-leb, leb-true, lt-ltb}
use Rattle.price.specs.Test.{both}
use Rattle.price.specs.Bounds.{nodes_most, limit_most}
use Rattle.price.specs.Lists.{every}
use Rattle.price.specs.Tuning.{tuning_sound}
use Rattle.price.proofs.TestLaws.{both_true, both_left, both_right}
use Rattle.search.specs.Tables.{edges_most}
use Rattle.job.specs.Tables.{nets_most, rule_sound}
use Rattle.job.specs.declared.Terms.{Terms}
use Rattle.text.specs.Lines.{letter_f, letter_n, begins, print_line}
use Rattle.text.specs.JobText.{between, head_within, head_line, part, and_then, Counts, terms_part, counts_of, head_part}
use Rattle.text.specs.Printed.{Form, terms_text, Allowed}
use Rattle.text.proofs.PrintLaws.{LineRead, judged-line, line-judged, onward-part, then_part, four_of_lem}
use Rattle.text.proofs.OptionalTextLaws.{TermsGiven, terms_read, lines_after, terms-printed}

-- the bounds of the three counts, of the limit, of the tuning, of the rule and of its k
pub record HeadBounds (c : Counts) : Type 0 where
  pub some_nodes : 1 ≤ c.nodes
  pub few-nodes : c.nodes ≤ nodes_most
  pub few-edges : c.edges ≤ edges_most
  pub some_nets : 1 ≤ c.nets
  pub few-nets : c.nets ≤ nets_most
  pub some_turns : 1 ≤ c.terms.limit
  pub few-turns : c.terms.limit ≤ limit_most
  pub tuned : tuning_sound c.terms.tuning ≡ true
  pub ruled : rule_sound c.terms.rule c.terms.until ≡ true

-- ---- from reading

between-low : (low high x : ℕ) → between low high x ≡ true → low ≤ x
between-low low high x e = leb-true low x (both_left (leb low x) (leb x high) e)

between-high : (low high x : ℕ) → between low high x ≡ true → x ≤ high
between-high low high x e = leb-true x high (both_right (leb low x) (leb x high) e)

bounds_hold :
    (vs : List ℕ) (t : Terms) → head_within vs ≡ true → t.limit ≡ get_or vs 3 0 → tuning_sound t.tuning ≡ true → rule_sound t.rule t.until ≡ true
    → HeadBounds (counts_of vs t)
unfolding head_within
bounds_hold vs t e same s r =
    let n = get_or vs 0 0 in
    let m = get_or vs 1 0 in
    let k = get_or vs 2 0 in
    let l = get_or vs 3 0 in
    let e1 = both_right (between 1 nodes_most n) (both (leb m edges_most) (both (between 1 nets_most k) (between 1 limit_most l))) e in
    let e2 = both_right (leb m edges_most) (both (between 1 nets_most k) (between 1 limit_most l)) e1 in
    let p0 = both_left (between 1 nodes_most n) (both (leb m edges_most) (both (between 1 nets_most k) (between 1 limit_most l))) e in
    let p1 = both_left (leb m edges_most) (both (between 1 nets_most k) (between 1 limit_most l)) e1 in
    let p2 = both_left (between 1 nets_most k) (between 1 limit_most l) e2 in
    let p3 = both_right (between 1 nets_most k) (between 1 limit_most l) e2 in
    record {
      some_nodes = between-low 1 nodes_most n p0;
      few-nodes = between-high 1 nodes_most n p0;
      few-edges = leb-true m edges_most p1;
      some_nets = between-low 1 nets_most k p2;
      few-nets = between-high 1 nets_most k p2;
      some_turns = rw same (between-low 1 limit_most l p3);
      few-turns = rw same (between-high 1 limit_most l p3);
      tuned = s;
      ruled = r;
    }

-- the bytes are those of the counts' F line, and of the lines after it that are written
pub record HeadGiven (c : Counts) (bs rest : List ℕ) : Type 0 where
  pub bounds : HeadBounds c
  pub form : Form
  pub allowed : Allowed form c.terms
  pub text : bs ≡ print_line letter_f (c.nodes ∷ c.edges ∷ c.nets ∷ c.terms.limit ∷ []) ++ (terms_text form c.terms ++ rest)

lines_given :
    (bs vs mid rest : List ℕ) (t : Terms) → LineRead letter_f 4 head_within (λ vs. true) bs vs mid → TermsGiven (get_or vs 3 0) mid t rest → HeadGiven (counts_of vs t) bs rest
lines_given bs vs mid rest t head asked =
    record {
      bounds = bounds_hold vs t head.bounds asked.limit_is asked.tuned asked.ruled;
      form = asked.form;
      allowed = asked.allowed;
      text =
          head.text ∙ ap (λ (us : List ℕ). print_line letter_f us ++ mid) (four_of_lem vs head.long)
          ∙ rw (← asked.limit_is) (ap (λ (us : List ℕ). print_line letter_f (get_or vs 0 0 ∷ get_or vs 1 0 ∷ get_or vs 2 0 ∷ t.limit ∷ []) ++ us) asked.text);
    }

given_moved : (c d : Counts) (bs mid rest : List ℕ) → c ≡ d → mid ≡ rest → HeadGiven c bs mid → HeadGiven d bs rest
given_moved c d bs mid rest same follow answered = rw (same, follow) at answered

pub head_read : (bs : List ℕ) (c : Counts) (at : ℕ) (rest : List ℕ) → head_part bs ≡ part c at rest → HeadGiven c bs rest
unfolding head_part head_line
head_read bs c at rest e =
    let r = onward-part (head_line bs) 1 (λ vs rest. and_then (terms_part (get_or vs 3 0) 2 rest) (λ t at more. part (counts_of vs t) at more)) c at rest e in
    let vs : List ℕ = r.0 in
    let mid : List ℕ = r.1 in
    let head : LineRead letter_f 4 head_within (λ vs. true) bs vs mid = judged-line head_within (λ vs. true) letter_f 4 bs vs mid r.2 in
    let asked = then_part (terms_part (get_or vs 3 0) 2 mid) (λ t at more. part (counts_of vs t) at more) c at rest r.3 in
    let t : Terms = asked.0 in
    let more : List ℕ = asked.2 in
    let made : part (counts_of vs t) asked.1 more ≡ part c at rest = asked.4 in
    let same : counts_of vs t ≡ c = cc in
    let follow : more ≡ rest = cc in
    given_moved (counts_of vs t) c bs more rest same follow (lines_given bs vs mid more t head (terms_read (get_or vs 3 0) 2 asked.1 mid more t asked.3))

-- ---- from printing

module _ (c : Counts) (rest : List ℕ) (h : HeadBounds c) where
  head_small : every (λ v. ltb v (10 ^ 6)) (c.nodes ∷ c.edges ∷ c.nets ∷ c.terms.limit ∷ []) ≡ true
  unfolding every
  head_small =
      both_true (lt-ltb c.nodes (10 ^ 6) (omega arith))
      (both_true (lt-ltb c.edges (10 ^ 6) (omega arith))
      (both_true (lt-ltb c.nets (10 ^ 6) (omega arith)) (both_true (lt-ltb c.terms.limit (10 ^ 6) (omega arith)) refl)))

  head_within_lem : head_within (c.nodes ∷ c.edges ∷ c.nets ∷ c.terms.limit ∷ []) ≡ true
  unfolding head_within
  head_within_lem =
      both_true (both_true (le-leb 1 c.nodes h.some_nodes) (le-leb c.nodes nodes_most h.few-nodes))
      (both_true (le-leb c.edges edges_most h.few-edges)
      (both_true (both_true (le-leb 1 c.nets h.some_nets) (le-leb c.nets nets_most h.few-nets))
      (both_true (le-leb 1 c.terms.limit h.some_turns) (le-leb c.terms.limit limit_most h.few-turns))))

  -- the nodes' lines follow
  pub head_printed :
      (form : Form) → Allowed form c.terms → begins letter_n rest ≡ true
      → head_part (print_line letter_f (c.nodes ∷ c.edges ∷ c.nets ∷ c.terms.limit ∷ []) ++ (terms_text form c.terms ++ rest))
      ≡ part c (lines_after form c.terms.timed 2) rest
  unfolding head_part head_line
  head_printed form allowed next =
      rw (
        line-judged head_within (λ vs. true) letter_f (c.nodes ∷ c.edges ∷ c.nets ∷ c.terms.limit ∷ [])
            (terms_text form c.terms ++ rest) head_small head_within_lem refl,
        terms-printed c.terms form allowed rest 2 h.tuned h.ruled next,
      )
