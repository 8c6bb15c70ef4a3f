-- The nets' lines one after the other: what the loop over them keeps, and its end.
--     Going, going_first, -more, -later, -stops      the loop over the lines
--     going_short, -empty, -done                     its end
-- Assumes nothing.
use mathlib.Core.Bool.{Bool, false}
use mathlib.Core.List.{List, [], ◌∷◌}
use mathlib.Core.Path.{◌≡◌, refl, sym, ◌∙◌, ap, subst}
use Prim.Native.Nat.{ℕ, zero, suc, ◌+◌, ◌-◌, ◌≤◌, ◌<◌}
use native.Mathlib.Nat.{not-suc-le-zero}
use native.Mathlib.Omega.{arith}
use lib.Dec.{eqb}
use lib.ListN.{length, take, drop, set, replicate, length-drop, length-replicate, get_or-replicate, drop_of_length-le}
use lib.Seq.{drop-cons, take-set-le}
use borrow.Author.Tests.{lt-ltb, le-ltb, eq-eqb, ne_eqb}
use Rattle.price.proofs.TestLaws.{both_false_right}
use Rattle.search.specs.Replies.{sinks_most}
use Rattle.text.specs.JobText.{values, refused, Part, part, stopped, NetLists, net_lists, complete, net_end, net_line, net_lines}
use Rattle.text.specs.Steps.{row, nets_at, NetKept, net_line_at, KeptAfter}
use Rattle.text.specs.declared.nets.NetCursor.{NetCursor}
use Rattle.std.specs.Prelude.{Result}
use Rattle.std.specs.Prelude.{Ok, Err}
use Rattle.text.specs.declared.place.LineFault.{LineFault}
use Rattle.text.proofs.nets.NetStepLaws.{some_left, sources_now, sinks_now_lem}

module _ (m : ℕ) (timed : Bool) (kinds : List ℕ) (n nets at : ℕ) (l : NetLists) {b : ℕ} {rest bs : List ℕ} (h : bs ≡ b ∷ rest) where
  lines_more : {next : NetLists} {more : List ℕ} → net_line timed kinds n nets l bs ≡ values next more → net_lines (suc m) timed kinds n nets l at bs ≡ net_lines m timed kinds n nets next (at + 1) more
  unfolding net_lines
  lines_more {next} {more} e = let e' : net_line timed kinds n nets l (b ∷ rest) ≡ values next more = rw h at e in rw (h, e')

  lines_stop : {number : ℕ} → net_line timed kinds n nets l bs ≡ refused number → net_lines (suc m) timed kinds n nets l at bs ≡ stopped number at
  unfolding net_lines
  lines_stop {number} e = let e' : net_line timed kinds n nets l (b ∷ rest) ≡ refused number = rw h at e in rw (h, e')

lines_end : (m : ℕ) (timed : Bool) (kinds : List ℕ) (n nets at : ℕ) (l : NetLists) → net_lines m timed kinds n nets l at [] ≡ net_end nets l at
unfolding net_lines
lines_end zero timed kinds n nets at l = refl
lines_end (suc m) timed kinds n nets at l = refl

-- the lines that are left give with the lists so far what all of them give
pub record Going (timed : Bool) (kinds : List ℕ) (n nets : ℕ) (text : List ℕ) (whole : Part NetLists) (c : NetCursor) (sources first_sinks sinks criticalities seen : List ℕ) : Type 0 where
  pub left : ℕ
  pub enough : length (drop c.at text) ≤ left
  pub same : net_lines left timed kinds n nets (nets_at c sources first_sinks sinks criticalities) c.line (drop c.at text) ≡ whole
  pub kept : NetKept n nets text c sources first_sinks sinks criticalities seen

pub going_first :
    (timed : Bool) (kinds : List ℕ) (n nets : ℕ) (text : List ℕ) (from line : ℕ) (sources first_sinks sinks criticalities : List ℕ)
    → (from ≤ length text) × (line ≤ from + 1) × (n ≤ 4096) × (nets ≤ 512)
    → (nets ≤ length sources) × (nets + 1 ≤ length first_sinks) × (sinks_most ≤ length sinks) × (sinks_most ≤ length criticalities)
    → Going timed kinds n nets text (net_lines (length (drop from text)) timed kinds n nets (net_lists [] [] [] []) line (drop from text))
    (record { at = from; line = line; nets = 0; sinks = 0; first = 0 }) sources first_sinks sinks criticalities (replicate 4096 0)
going_first timed kinds n nets text from line sources first_sinks sinks criticalities b r = record {
  left = length (drop from text);
  enough = omega arith;
  same = refl;
  kept = record {
    room = record {
      nodes_most_lem = b.2;
      nets_most_lem = b.3;
      sources-long = r.0;
      firsts-long = r.1;
      sinks-long = r.2;
      criticalities-long = r.3;
      seen-long = rw (length-replicate {A = ℕ} 4096 0) b.2;
    };
    at_most = b.0;
    line-most = b.1;
    nets_read = omega arith;
    sinks_read = omega arith;
    first_is = refl;
    first_most_lem = omega arith;
    stamps = λ v h. rw (get_or-replicate {A = ℕ} 4096 v 0 0 (omega (arith, b.2))) (omega arith);
    marked = λ h. absurd (not-suc-le-zero h);
  };
}

module _
    {timed : Bool} {kinds : List ℕ} {n nets : ℕ} {text : List ℕ} {whole : Part NetLists} {c : NetCursor} {sources first_sinks sinks criticalities seen : List ℕ}
    (g : Going timed kinds n nets text whole c sources first_sinks sinks criticalities seen) where
  module _ (inside : c.at < length text) where
    left-more : g.left ≡ suc (g.left - 1)
    left-more = omega (arith, length-drop c.at text, g.enough)

    pub going_more :
        (step : Result NetCursor LineFault) {next : NetCursor} (sources' first_sinks' sinks' criticalities' seen' : List ℕ) → step ≡ Ok next
        → net_line_at text step sources' first_sinks' sinks' criticalities' ≡ net_line timed kinds n nets (nets_at c sources first_sinks sinks criticalities) (drop c.at text)
        → KeptAfter n nets text c step sources' first_sinks' sinks' criticalities' seen' → Going timed kinds n nets text whole next sources' first_sinks' sinks' criticalities' seen'
    going_more step {next} sources' first_sinks' sinks' criticalities' seen' q e a =
        let e' : values (nets_at next sources' first_sinks' sinks' criticalities') (drop next.at text) ≡ net_line timed kinds n nets (nets_at c sources first_sinks sinks criticalities) (drop c.at text) = rw q at e in
        let a' : KeptAfter n nets text c (Ok next) sources' first_sinks' sinks' criticalities' seen' = rw q at a in
        record {
          left = g.left - 1;
          enough = omega (arith, length-drop c.at text, length-drop next.at text, g.enough, a'.0);
          same = rw a'.1 (sym (lines_more (g.left - 1) timed kinds n nets c.line (nets_at c sources first_sinks sinks criticalities) (drop-cons text c.at 0 inside) (sym e')) ∙ rw (← left-more) g.same);
          kept = a'.2;
        }

    pub going_later :
        (step : Result NetCursor LineFault) {next : NetCursor} (sources' first_sinks' sinks' criticalities' seen' : List ℕ) → step ≡ Ok next
        → KeptAfter n nets text c step sources' first_sinks' sinks' criticalities' seen' → length text - next.at < length text - c.at
    going_later step {next} sources' first_sinks' sinks' criticalities' seen' q a =
        let a' : KeptAfter n nets text c (Ok next) sources' first_sinks' sinks' criticalities' seen' = rw q at a in
        omega (arith, a'.0)

    pub going_stops :
        (step : Result NetCursor LineFault) {number : LineFault} (sources' first_sinks' sinks' criticalities' : List ℕ) → step ≡ Err number
        → net_line_at text step sources' first_sinks' sinks' criticalities' ≡ net_line timed kinds n nets (nets_at c sources first_sinks sinks criticalities) (drop c.at text)
        → stopped (row number) c.line ≡ whole
    going_stops step {number} sources' first_sinks' sinks' criticalities' q e =
        let e' : refused (row number) ≡ net_line timed kinds n nets (nets_at c sources first_sinks sinks criticalities) (drop c.at text) = rw q at e in
        sym (lines_stop (g.left - 1) timed kinds n nets c.line (nets_at c sources first_sinks sinks criticalities) (drop-cons text c.at 0 inside) (sym e')) ∙ rw (← left-more) g.same

  -- the text is used up
  module _ (over : length text ≤ c.at) where
    going_end : net_end nets (nets_at c sources first_sinks sinks criticalities) c.line ≡ whole
    going_end =
        let none : drop c.at text ≡ [] = drop_of_length-le text over in
        sym (lines_end g.left timed kinds n nets c.line (nets_at c sources first_sinks sinks criticalities)) ∙ rw none at g.same

    pub going_short : (c.nets ≡ nets → ⊥) → stopped 1 c.line ≡ whole
    unfolding net_end complete
    going_short h =
        subst (λ (r : Part NetLists). r ≡ whole) (rw (sources_now g.kept, ne_eqb c.nets nets h)) going_end

    pub going_empty : c.sinks ≤ c.first → stopped 1 c.line ≡ whole
    unfolding net_end complete
    going_empty h =
        subst (λ (r : Part NetLists). r ≡ whole)
        (rw (sinks_now_lem g.kept, some_left c.first c.sinks, le-ltb c.first c.sinks h, both_false_right (eqb (length (take c.nets sources)) nets) false refl)) going_end

    pub going_done : c.nets ≡ nets → c.first < c.sinks → part (net_lists (take nets sources) (take nets (set first_sinks nets c.sinks)) (take c.sinks sinks) (take c.sinks criticalities)) c.line [] ≡ whole
    unfolding net_end complete
    going_done e h =
        let front : take nets (set first_sinks nets c.sinks) ≡ take nets first_sinks = take-set-le nets first_sinks nets c.sinks (omega arith) in
        rw front
        (ap (λ (m : ℕ). part (net_lists (take m sources) (take m first_sinks) (take c.sinks sinks) (take c.sinks criticalities)) c.line []) (sym e)
        ∙ subst (λ (r : Part NetLists). r ≡ whole)
        (rw (sources_now g.kept, sinks_now_lem g.kept, some_left c.first c.sinks, eq-eqb c.nets nets e, lt-ltb c.first c.sinks h)) going_end)
