-- A line at a place of the text, and its three judgements: 1, 2 or 3, or the values.
--     line-begins, line_other, line-is       a line by the byte that it begins with
--     line_taken, line-malformed, line_place the fields of a line, as their answer says them
--     judged-beyond, -wrong, -taken          fields that are tested
--     judged-values                          values that are given passed both tests
--     taking-taking, onward-taking           values that are taken through a function
--     taking-values                          what they were taken of
-- Assumes nothing.
use mathlib.Core.Bool.{Bool, true, false}
use mathlib.Core.List.{List, [], ◌∷◌}
use mathlib.Core.Path.{◌≡◌, refl, sym, ◌∙◌, ap, subst}
use Prim.Native.Nat.{ℕ, ◌+◌}
use native.Mathlib.Omega.{arith}
use lib.ListN.{take, drop}
use lib.Seq.{drop-drop}
use Rattle.price.proofs.TestLaws.{by_test, true≢false}
use Rattle.text.specs.Lines.{Fields, taken, malformed, fields, line, begins}
use Rattle.text.specs.JobText.{Reading, values, refused, judged, Part, onward, taking}
use Rattle.text.specs.Steps.{After, fields_at, FieldsPlace}
use Rattle.std.specs.Prelude.{Option}
use Rattle.std.specs.Prelude.{Some, None}
use Rattle.text.specs.declared.fields.LineFields.{LineFields}

-- ---- a line at a place of the text

pub line-begins : (letter k : ℕ) (bs : List ℕ) → begins letter bs ≡ true → line letter k bs ≡ fields k (drop 1 bs)
unfolding begins line
line-begins letter k [] e = absurd (true≢false (sym e))
line-begins letter k (b ∷ bs) e = rw e

pub line_other : (letter k : ℕ) (bs : List ℕ) → begins letter bs ≡ false → line letter k bs ≡ malformed
unfolding begins line
line_other letter k [] e = refl
line_other letter k (b ∷ bs) e = rw e

-- the line that the fields after its letter make
pub line-is : (letter k at : ℕ) (text : List ℕ) {f : Fields} → begins letter (drop at text) ≡ true → f ≡ fields k (drop (at + 1) text) → line letter k (drop at text) ≡ f
line-is letter k at text b e =
    line-begins letter k (drop at text) b ∙ ap (λ (bs : List ℕ). fields k bs) (drop-drop 1 at text) ∙ sym e

-- ---- the fields of a line, as their answer says them

module _ (count : ℕ) (text : List ℕ) {r : Option LineFields} {fs : Fields} (read : fields_at count text r ≡ fs) where
  pub line-malformed : r ≡ None → fs ≡ malformed
  line-malformed e = sym read ∙ ap (fields_at count text) e

  pub line_taken : {l : LineFields} → r ≡ Some l → fs ≡ taken (take count (l.first ∷ l.second ∷ l.third ∷ l.fourth ∷ [])) (drop l.next text)
  line_taken e = sym read ∙ ap (fields_at count text) e

-- the place after them
pub line_place : (at : ℕ) (text : List ℕ) {r : Option LineFields} {l : LineFields} → r ≡ Some l → FieldsPlace at text r → After at text l.next
line_place at text e p = subst (λ (x : Option LineFields). FieldsPlace at text x) e p

-- ---- 1, 2 or 3, or the values

module _ (within ordered : List ℕ → Bool) {f : Fields} {vs rest : List ℕ} (e : f ≡ taken vs rest) where
  pub judged-beyond : within vs ≡ false → judged within ordered f ≡ refused 2
  judged-beyond w = rw (e, w)

  pub judged_wrong : within vs ≡ true → ordered vs ≡ false → judged within ordered f ≡ refused 3
  judged_wrong w o = rw (e, w, o)

  pub judged-taken : within vs ≡ true → ordered vs ≡ true → judged within ordered f ≡ values vs rest
  judged-taken w o = rw (e, w, o)

-- what values that are given tell
pub record Judged (within ordered : List ℕ → Bool) (f : Fields) (vs rest : List ℕ) : Type 0 where
  pub is : f ≡ taken vs rest
  pub bounds : within vs ≡ true
  pub order : ordered vs ≡ true

pub judged-values : (within ordered : List ℕ → Bool) (f : Fields) (vs rest : List ℕ) → judged within ordered f ≡ values vs rest → Judged within ordered f vs rest
judged-values within ordered malformed vs rest e = let z : ◌≡◌ {A = ℕ} 0 1 = cc in absurd (omega arith)
judged-values within ordered (taken us mid) vs rest e =
    by_test (within us)
    (λ p.
    by_test (ordered us)
    (λ q.
    let given : values us mid ≡ values vs rest = rw (p, q) at e in
    let same : us ≡ vs = cc in
    record { is = cc; bounds = ap within (sym same) ∙ p; order = ap ordered (sym same) ∙ q })
    (λ q.
    let bad : refused 3 ≡ values vs rest = rw (p, q) at e in
    let z : ◌≡◌ {A = ℕ} 0 1 = cc in absurd (omega arith)))
    (λ p.
    let bad : refused 2 ≡ values vs rest = rw p at e in
    let z : ◌≡◌ {A = ℕ} 0 1 = cc in absurd (omega arith))

-- ---- values that are taken through a function

pub onward-taking : {A B C : Type 0} (f : A → B) (r : Reading A) (at : ℕ) (next : B → List ℕ → Part C) → onward (taking f r) at next ≡ onward r at (λ x rest. next (f x) rest)
onward-taking f (values x rest) at next = refl
onward-taking f (refused k) at next = refl

pub taking-taking : {A B C : Type 0} (f : A → B) (g : B → C) (r : Reading A) → taking g (taking f r) ≡ taking (λ x. g (f x)) r
taking-taking f g (values x rest) = refl
taking-taking f g (refused k) = refl

-- a reading that gives values, and what they were made of
pub record Took {A B : Type 0} (f : A → B) (r : Reading A) (l : B) (rest : List ℕ) : Type 0 where
  pub given : A
  pub is : r ≡ values given rest
  pub made : l ≡ f given

pub taking-values : {A B : Type 0} (f : A → B) (r : Reading A) (l : B) (rest : List ℕ) → taking f r ≡ values l rest → Took f r l rest
taking-values f (values x rs) l rest e = let left : rs ≡ rest = cc in record { given = x; is = rw left; made = cc }
taking-values f (refused k) l rest e = absurd (let z : ◌≡◌ {A = ℕ} 0 1 = cc in omega arith)
