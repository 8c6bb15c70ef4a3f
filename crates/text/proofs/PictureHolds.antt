-- The picture and the routes text of a sound log list the same branches, and each text determines its list.
--     picture_shows        what a sound log's picture shows: the path steps that its routes text lists
--     picture_once         a text shows one list of branches
--     picture_same         what is read off the two texts of a log is one list
-- Assumes nothing.
use mathlib.Core.Bool.{true, false}
use mathlib.Core.List.{List, [], ◌∷◌, ◌++◌, append_assoc, flat_map, Memᴰ}
use mathlib.Core.Path.{◌≡◌, refl, sym, ◌∙◌, ap, subst}
use Prim.Native.Nat.{ℕ, ◌^◌, ◌<◌}
use native.Mathlib.Omega.{arith}
use lib.Dec.{ltb}
use lib.ListN.{length, get_or, drop}
use borrow.Author.Tests.{eq-eqb, ltb-true}
use Rattle.price.specs.Bounds.{nodes_most}
use Rattle.price.specs.Lists.{every}
use Rattle.price.proofs.TestLaws.{both_left, both_right}
use Rattle.negotiation.specs.Records.{decode}
use Rattle.job.specs.Tables.{sources_sound}
use Rattle.text.specs.Decimal.{is_digit, decimal}
use Rattle.text.specs.Lines.{Field, field, Fields, taken, with_value, after_field}
use Rattle.text.specs.Routes.{log_sound, writable, Branch, branch_of}
use Rattle.text.specs.Dot.{dot_arrow, dot_label, dot_close, dot_end, dot_line, dot_text}
use Rattle.text.specs.Listed.{steps_by_net}
use Rattle.text.specs.Pictured.{after_bytes, number_then, dot_fields, DotLines, ended, branch, Pictured, PicturedSame}
use Rattle.text.proofs.PrintLaws.{field-printed}
use Rattle.text.proofs.RouteLineLaws.{branch_fields, Printable}
use Rattle.text.proofs.StepListLaws.{branches_are}
use Rattle.text.proofs.ListedHolds.{steps_printable, routes-listed, read_once}

-- ---- a line

-- bytes that stand there are passed
bytes_passed : (xs : List ℕ) (others : List ℕ → Fields) (rest : List ℕ) → after_bytes xs others (xs ++ rest) ≡ others rest
unfolding after_bytes
bytes_passed [] others rest = refl
bytes_passed (x ∷ xs) others rest = rw (eq-eqb x x refl) (bytes_passed xs others rest)

-- a number with the bytes behind it
number_passed :
    (v b : ℕ) (xs : List ℕ) (others : List ℕ → Fields) (rest : List ℕ) {vs end : List ℕ} → v < 10 ^ 6 → is_digit b ≡ false → others rest ≡ taken vs end
    → number_then (b ∷ xs) others (decimal v ++ (b ∷ (xs ++ rest))) ≡ taken (v ∷ vs) end
number_passed v b xs others rest l q e =
    ap (λ (f : Field). after_field f (after_bytes (b ∷ xs) others)) (field-printed v b (xs ++ rest) l q)
    ∙ ap (with_value v) (bytes_passed (b ∷ xs) others rest ∙ e)

line_parts :
    (b : Branch) (rest : List ℕ)
    → dot_line b ++ rest ≡ decimal b.from ++ (dot_arrow ++ (decimal b.to ++ (dot_label ++ (decimal b.net ++ (dot_close ++ rest)))))
unfolding dot_line
line_parts b rest =
    append_assoc (decimal b.from) (dot_arrow ++ (decimal b.to ++ (dot_label ++ (decimal b.net ++ dot_close)))) rest
    ∙ ap (λ (l : List ℕ). decimal b.from ++ (dot_arrow ++ l))
    (append_assoc (decimal b.to) (dot_label ++ (decimal b.net ++ dot_close)) rest
    ∙ ap (λ (l : List ℕ). decimal b.to ++ (dot_label ++ l)) (append_assoc (decimal b.net) dot_close rest))

-- a branch's line gives its three numbers
line_shown : (b : Branch) (rest : List ℕ) → Printable (branch_fields b) → dot_fields (dot_line b ++ rest) ≡ taken (b.from ∷ b.to ∷ b.net ∷ []) rest
unfolding dot_fields every is_digit
line_shown b rest small =
    let net : b.net < 10 ^ 6 = ltb-true b.net (10 ^ 6) (both_left (ltb b.net (10 ^ 6)) (every (λ v. ltb v (10 ^ 6)) (b.from ∷ b.to ∷ [])) small) in
    let others = both_right (ltb b.net (10 ^ 6)) (every (λ v. ltb v (10 ^ 6)) (b.from ∷ b.to ∷ [])) small in
    let from : b.from < 10 ^ 6 = ltb-true b.from (10 ^ 6) (both_left (ltb b.from (10 ^ 6)) (every (λ v. ltb v (10 ^ 6)) (b.to ∷ [])) others) in
    let last = both_right (ltb b.from (10 ^ 6)) (every (λ v. ltb v (10 ^ 6)) (b.to ∷ [])) others in
    let to : b.to < 10 ^ 6 = ltb-true b.to (10 ^ 6) (both_left (ltb b.to (10 ^ 6)) (every (λ v. ltb v (10 ^ 6)) []) last) in
    ap dot_fields (line_parts b rest)
    ∙ number_passed b.from 32 (drop 1 dot_arrow) (number_then dot_label (number_then dot_close (taken [])))
    (decimal b.to ++ (dot_label ++ (decimal b.net ++ (dot_close ++ rest)))) from refl
    (number_passed b.to 32 (drop 1 dot_label) (number_then dot_close (taken [])) (decimal b.net ++ (dot_close ++ rest)) to refl
    (number_passed b.net 34 (drop 1 dot_close) (taken []) rest net refl refl))

lines_shown : (bs : List Branch) → ((b : Branch) → Memᴰ b bs → Printable (branch_fields b)) → DotLines (flat_map dot_line bs ++ dot_end) bs
unfolding flat_map
lines_shown [] h = ended refl
lines_shown (b ∷ bs) h =
    rw (append_assoc (dot_line b) (flat_map dot_line bs) dot_end)
    (branch (line_shown b (flat_map dot_line bs ++ dot_end) (h b (Memᴰ.head refl))) (lines_shown bs (λ c m. h c (Memᴰ.tail m))))

-- ---- the picture

module _ (sources log : List ℕ) (table : sources_sound nodes_most sources ≡ true) (t : log_sound (writable sources) log ≡ true) where
  pub picture_shows : Pictured (dot_text sources (decode log)) (steps_by_net (length sources) (decode log))
  unfolding dot_text
  picture_shows =
      record {
        rest = flat_map dot_line (steps_by_net (length sources) (decode log)) ++ dot_end;
        text_is = rw (branches_are (length sources) (decode log));
        lines = lines_shown (steps_by_net (length sources) (decode log)) (steps_printable sources log table t);
      }

-- ---- reading again

-- the last line shows no branch
end_shows : {vs rest : List ℕ} → dot_fields dot_end ≡ taken vs rest → ⊥
unfolding dot_fields field is_digit
end_shows e = let z : ◌≡◌ {A = ℕ} 0 1 = cc in omega arith

lines-once : {bytes : List ℕ} {bs cs : List Branch} → DotLines bytes bs → DotLines bytes cs → bs ≡ cs
lines-once (ended e) (ended f) = refl
lines-once (ended e) (branch f q) = absurd (end_shows (ap dot_fields (sym e) ∙ f))
lines-once (branch e p) (ended f) = absurd (end_shows (ap dot_fields (sym f) ∙ e))
lines-once (branch {rest = rest} {b = b} {bs = bs} e p) (branch {rest = more} {b = c} {bs = cs} f q) =
    let same : taken (b.from ∷ b.to ∷ b.net ∷ []) rest ≡ taken (c.from ∷ c.to ∷ c.net ∷ []) more = sym e ∙ f in
    let fields : (b.from ∷ b.to ∷ b.net ∷ []) ≡ (c.from ∷ c.to ∷ c.net ∷ []) = cc in
    let follow : more ≡ rest = cc in
    ap (λ (l : List ℕ). branch_of (get_or l 2 0) (get_or l 0 0) (get_or l 1 0) ∷ bs) fields
    ∙ ap (λ (l : List Branch). c ∷ l) (lines-once p (subst (λ (l : List ℕ). DotLines l cs) follow q))

pub picture_once : {text : List ℕ} {bs cs : List Branch} → Pictured text bs → Pictured text cs → bs ≡ cs
picture_once {cs = cs} p q =
    let follow : q.rest ≡ p.rest = ap (drop 12) (sym q.text_is ∙ p.text_is) in
    lines-once p.lines (subst (λ (l : List ℕ). DotLines l cs) follow q.lines)

-- ---- both texts

-- the branches read off the routes text and those read off the picture
pub picture_same : (sources log : List ℕ) → sources_sound nodes_most sources ≡ true → log_sound (writable sources) log ≡ true → PicturedSame sources log
picture_same sources log table t =
    record {
      listed = routes-listed sources log table t;
      pictured = picture_shows sources log table t;
      same = λ l p q. (read_once p l.lines).0 ∙ picture_once (picture_shows sources log table t) q;
    }
