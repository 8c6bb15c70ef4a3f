-- B and J lines, and the branches and joined nets that they give.
--     lines_read                        the lines of printed branches and joined nets give them back
--     none_read, first_branch, first_join    what a text's beginning says of what its lines give
--     lines-printed                     only the printed lines give them
-- Assumes nothing.
use mathlib.Core.Bool.{true}
use mathlib.Core.List.{List, [], ◌∷◌, ◌++◌, append_assoc, flat_map, Memᴰ}
use mathlib.Core.Path.{◌≡◌, refl, sym, ◌∙◌, ap, subst}
use Prim.Native.Nat.{ℕ, ◌^◌}
use native.Mathlib.Omega.{arith}
use lib.Dec.{ltb}
use lib.ListN.{get_or}
use Rattle.price.specs.Lists.{every}
use Rattle.text.specs.Lines.{letter_b, letter_j, taken, line, print_line}
use Rattle.text.specs.Routes.{Branch, branch_line, branch_text, Join, join_text}
use Rattle.text.specs.Listed.{RouteLines, ended, branch, join}
use Rattle.text.proofs.PrintLaws.{line-printed, printed-line}

-- the fields of a branch's line, and of a joined net's
abbrev pub branch_fields : Branch → List ℕ
branch_fields b = b.net ∷ b.from ∷ b.to ∷ []

abbrev pub join_fields : Join → List ℕ
join_fields p = p.net ∷ p.first ∷ []

-- fields that a line gives back
abbrev pub Printable : List ℕ → Type 0
Printable vs = every (λ v. ltb v (10 ^ 6)) vs ≡ true

joins_read : (ps : List Join) → ((p : Join) → Memᴰ p ps → Printable (join_fields p)) → RouteLines (join_text ps) [] ps
unfolding join_text
joins_read [] h = ended
joins_read (p ∷ ps) h =
    join (line-printed letter_j (join_fields p) (join_text ps) (h p (Memᴰ.head refl))) (joins_read ps (λ q m. h q (Memᴰ.tail m)))

-- printed branches and joined nets are read back
module _ (ps : List Join) (js : (p : Join) → Memᴰ p ps → Printable (join_fields p)) where
  pub lines_read : (bs : List Branch) → ((b : Branch) → Memᴰ b bs → Printable (branch_fields b)) → RouteLines (branch_text bs ++ join_text ps) bs ps
  unfolding flat_map branch_line
  lines_read [] h = joins_read ps js
  lines_read (b ∷ bs) h =
      rw (append_assoc (print_line letter_b (branch_fields b)) (branch_text bs) (join_text ps))
      (branch (line-printed letter_b (branch_fields b) (branch_text bs ++ join_text ps) (h b (Memᴰ.head refl)))
      (lines_read bs (λ c m. h c (Memᴰ.tail m))))

-- no bytes are no line
no_line : (letter k : ℕ) (vs rest : List ℕ) → line letter k [] ≡ taken vs rest → ⊥
unfolding line
no_line letter k vs rest e = let z : ◌≡◌ {A = ℕ} 0 1 = cc in omega arith

-- a B line is no J line
one_letter : (bytes : List ℕ) {vs rest ws more : List ℕ} → line letter_b 3 bytes ≡ taken vs rest → line letter_j 2 bytes ≡ taken ws more → ⊥
unfolding print_line
one_letter bytes {vs} {rest} {ws} {more} e f =
    let same : print_line letter_b vs ++ rest ≡ print_line letter_j ws ++ more = sym (printed-line letter_b 3 bytes vs rest e).1 ∙ (printed-line letter_j 2 bytes ws more f).1 in
    let z : letter_b ≡ letter_j = ap (λ (l : List ℕ). get_or l 0 0) same in
    omega arith

-- a text without bytes lists nothing
pub none_read : {bs : List Branch} {ps : List Join} → RouteLines [] bs ps → (bs ≡ []) × (ps ≡ [])
none_read ended = (refl, refl)
none_read (branch {rest = rest} {b = b} e q) = absurd (no_line letter_b 3 (branch_fields b) rest e)
none_read (join {rest = rest} {p = p} e q) = absurd (no_line letter_j 2 (join_fields p) rest e)

-- the branch, and the joined net, of a line's numbers
abbrev branch_of : List ℕ → Branch
branch_of fs = record { net = get_or fs 0 0; from = get_or fs 1 0; to = get_or fs 2 0 }

abbrev join_of : List ℕ → Join
join_of fs = record { net = get_or fs 0 0; first = get_or fs 1 0 }

-- two readings of one line
same-fields : (letter k : ℕ) (bytes : List ℕ) {vs rest ws more : List ℕ} → line letter k bytes ≡ taken vs rest → line letter k bytes ≡ taken ws more → (vs ≡ ws) × (rest ≡ more)
same-fields letter k bytes {vs} {rest} {ws} {more} e f =
    let same : taken vs rest ≡ taken ws more = sym e ∙ f in
    (cc, cc)

-- a text that begins with a B line lists its branch first, then what follows
pub first_branch :
    {bytes rest : List ℕ} {b : Branch} {cs : List Branch} {qs : List Join} → line letter_b 3 bytes ≡ taken (branch_fields b) rest → RouteLines bytes cs qs
    → (ds : List Branch) × RouteLines rest ds qs × (cs ≡ b ∷ ds)
first_branch {rest = rest} {b = b} e ended = absurd (no_line letter_b 3 (branch_fields b) rest e)
first_branch {bytes = bytes} {b = b} {qs = qs} e (branch {bs = ds} f q) =
    let same = same-fields letter_b 3 bytes f e in
    (ds, subst (λ (l : List ℕ). RouteLines l ds qs) same.1 q, ap (λ (fs : List ℕ). branch_of fs ∷ ds) same.0)
first_branch {bytes = bytes} e (join f q) = absurd (one_letter bytes e f)

-- one that begins with a J line lists no branch, and its net first
pub first_join :
    {bytes rest : List ℕ} {p : Join} {cs : List Branch} {qs : List Join} → line letter_j 2 bytes ≡ taken (join_fields p) rest → RouteLines bytes cs qs
    → (rs : List Join) × RouteLines rest [] rs × (cs ≡ []) × (qs ≡ p ∷ rs)
first_join {rest = rest} {p = p} e ended = absurd (no_line letter_j 2 (join_fields p) rest e)
first_join {bytes = bytes} e (branch f q) = absurd (one_letter bytes f e)
first_join {bytes = bytes} {p = p} e (join {ps = rs} f q) =
    let same = same-fields letter_j 2 bytes f e in
    (rs, subst (λ (l : List ℕ). RouteLines l [] rs) same.1 q, refl, ap (λ (fs : List ℕ). join_of fs ∷ rs) same.0)

-- the text that gives some branches and joined nets is the one that prints them
pub lines-printed : {bytes : List ℕ} {bs : List Branch} {ps : List Join} → RouteLines bytes bs ps → bytes ≡ branch_text bs ++ join_text ps
unfolding flat_map branch_line join_text
lines-printed ended = refl
lines-printed (branch {bytes = bytes} {rest = rest} {b = b} {bs = bs} {ps = ps} e p) =
    (printed-line letter_b 3 bytes (branch_fields b) rest e).1
    ∙ ap (λ (l : List ℕ). print_line letter_b (branch_fields b) ++ l) (lines-printed p)
    ∙ sym (append_assoc (print_line letter_b (branch_fields b)) (branch_text bs) (join_text ps))
lines-printed (join {bytes = bytes} {rest = rest} {p = j} e p) =
    (printed-line letter_j 2 bytes (join_fields j) rest e).1
    ∙ ap (λ (l : List ℕ). print_line letter_j (join_fields j) ++ l) (lines-printed p)
