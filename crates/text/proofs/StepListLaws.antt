-- The path steps of the nets' latest records, as a list and branch by branch.
--     flat_append                   what two lists give, one after the other
--     branches_are                  the branches of the routes text are these steps
--     steps_only, steps_all         a branch is among them exactly where a record of its net's latest iteration has it as a step of its path
-- Assumes nothing.
use mathlib.Core.List.{List, [], ◌∷◌, ◌++◌, append_assoc, append-nil, filter, flat_map, Memᴰ}
use mathlib.Core.Logic.{⊎_elim, ite}
use mathlib.Core.Path.{◌≡◌, refl, sym, ◌∙◌, ap, subst}
use Prim.Native.Nat.{ℕ, zero, suc, ◌-◌, ◌<◌}
use native.Mathlib.Decide.{ℕ_discrete}
use native.Mathlib.Nat.{le_of_suc-le-suc, eq-or-lt_of_le}
use native.Mathlib.Omega.{arith}
use lib.Dec.{eqb}
use lib.ListN.{length, get_or}
use borrow.Author.Tests.{eq-eqb, ne_eqb}
use Rattle.price.specs.Test.{choose, both}
use Rattle.price.specs.Lists.{up_to}
use Rattle.negotiation.specs.Records.{Record}
use Rattle.negotiation.specs.Demand.{latest}
use Rattle.text.specs.Routes.{Branch, steps, passing, records_in, final_records, record_branches, tree_branches, route_branches}
use Rattle.text.specs.Listed.{step_at, path_steps, latest_of, steps_by_net, StepOf}

-- ---- steps by their numbers

-- a list made by places, from its front
up_to_first : {A : Type 0} (f : ℕ → A) (n : ℕ) → up_to f (suc n) ≡ f 0 ∷ up_to (λ k. f (suc k)) n
unfolding up_to
up_to_first f zero = refl
up_to_first f (suc n) = ap (λ l. l ++ (f (suc n) ∷ [])) (up_to_first f n)

abbrev branch : ℕ → ℕ → ℕ → Branch
branch net from to = record { net = net; from = from; to = to }

abbrev step_in : ℕ → List ℕ → ℕ → Branch
step_in net path k = branch net (get_or path k 0) (get_or path (suc k) 0)

-- the steps after a first node are as many as the other nodes
steps-after : (net u : ℕ) (path : List ℕ) → steps net (u ∷ path) ≡ up_to (step_in net (u ∷ path)) (length path)
unfolding steps up_to
steps-after net u [] = refl
steps-after net u (v ∷ path) =
    ap (λ (bs : List Branch). branch net u v ∷ bs) (steps-after net v path) ∙ sym (up_to_first (step_in net (u ∷ v ∷ path)) (length path))

steps_numbered : (net : ℕ) (path : List ℕ) → steps net path ≡ up_to (step_in net path) (length path - 1)
unfolding steps up_to
steps_numbered net [] = refl
steps_numbered net (u ∷ path) =
    let count : suc (length path) - 1 ≡ length path = omega arith in
    rw count (steps-after net u path)

steps_are : (r : Record) → steps r.net r.path ≡ path_steps r
unfolding path_steps step_at
steps_are r = steps_numbered r.net r.path

-- ---- a net's latest records, and those of the nets in order

module _ (i t : ℕ) where
  -- the tests of a record, one after the other
  abbrev in_net : (r : Record) → Dec (r.net ≡ i)
  in_net r = ℕ_discrete r.net i

  abbrev in_turn : (r : Record) → Dec (r.iteration ≡ t)
  in_turn r = ℕ_discrete r.iteration t

  iteration_with :
      (r : Record) (of taken : List Record) → taken ≡ filter in_turn of → (d : Dec (r.iteration ≡ t))
      → choose (eqb r.iteration t) (r ∷ taken) taken ≡ ite {C = List Record} d (r ∷ filter in_turn of) (filter in_turn of)
  iteration_with r of taken e (yes q) = rw (eq-eqb r.iteration t q, e)
  iteration_with r of taken e (no q) = rw (ne_eqb r.iteration t q) e

  net_with :
      (r : Record) (of taken : List Record) → taken ≡ filter in_turn of → (d : Dec (r.net ≡ i))
      → choose (both (eqb r.net i) (eqb r.iteration t)) (r ∷ taken) taken ≡ filter in_turn (ite {C = List Record} d (r ∷ of) of)
  net_with r of taken e (yes q) = rw (eq-eqb r.net i q) (iteration_with r of taken e (in_turn r))
  net_with r of taken e (no q) = rw (ne_eqb r.net i q) e

  records_are : (rs : List Record) → records_in i t rs ≡ filter in_turn (filter in_net rs)
  unfolding passing
  records_are [] = refl
  records_are (r ∷ rs) = net_with r (filter in_net rs) (records_in i t rs) (records_are rs) (in_net r)

latest_are : (i : ℕ) (rs : List Record) → final_records i rs ≡ latest_of i rs
unfolding final_records latest_of
latest_are i rs = records_are i (latest i rs) rs

record_steps : (rs : List Record) → record_branches rs ≡ flat_map path_steps rs
unfolding record_branches flat_map
record_steps [] = refl
record_steps (r ∷ rs) = rw (steps_are r, record_steps rs)

pub flat_append : {A B : Type 0} (f : A → List B) (xs ys : List A) → flat_map f (xs ++ ys) ≡ flat_map f xs ++ flat_map f ys
unfolding flat_map
flat_append f [] ys = refl
flat_append f (x ∷ xs) ys = rw (flat_append f xs ys) (sym (append_assoc (f x) (flat_map f xs) (flat_map f ys)))

-- the path steps of a net
abbrev steps_of : List Record → ℕ → List Branch
steps_of rs i = flat_map path_steps (latest_of i rs)

pub branches_are : (n : ℕ) (rs : List Record) → route_branches n rs ≡ steps_by_net n rs
unfolding route_branches tree_branches steps_by_net up_to flat_map
branches_are zero rs = refl
branches_are (suc i) rs =
    rw (branches_are i rs, record_steps (final_records i rs), latest_are i rs)
    (sym (flat_append (steps_of rs) (up_to (λ (k : ℕ). k) i) (i ∷ []) ∙ ap (λ (l : List Branch). flat_map (steps_of rs) (up_to (λ (k : ℕ). k) i) ++ l) (append-nil (steps_of rs i))))

-- ---- members of made lists

-- an entry of a list made by places stands at one of them
module _ {A : Type 0} where
  up_to_only : (f : ℕ → A) (n : ℕ) (b : A) → Memᴰ b (up_to f n) → (k : ℕ) × (k < n) × (b ≡ f k)
  unfolding up_to
  up_to_only f zero b m = absurd (mathlib.Core.List.Memᴰ.not-nil m)
  up_to_only f (suc n) b m =
      ⊎_elim
      (λ (p : Memᴰ b (up_to f n)).
      let r = up_to_only f n b p in
      (r.0, omega (arith, r.1), r.2))
      (λ (p : Memᴰ b (f n ∷ [])). (n, omega arith, mathlib.Core.List.Memᴰ.eq_of_singleton p))
      (mathlib.Core.List.Memᴰ.append_cases (up_to f n) m)

  up_to_all : (f : ℕ → A) (n k : ℕ) → k < n → Memᴰ (f k) (up_to f n)
  unfolding up_to
  up_to_all f zero k l = absurd (omega arith)
  up_to_all f (suc n) k l =
      ⊎_elim
      (λ (e : k ≡ n). mathlib.Core.List.Memᴰ.append_right (up_to f n) (mathlib.Core.List.Memᴰ.head (ap f e)))
      (λ (h : k < n). mathlib.Core.List.Memᴰ.append_left (f n ∷ []) (up_to_all f n k h))
      (eq-or-lt_of_le (le_of_suc-le-suc l))

  -- one of a list of lists is in one of these
  flat_only : (f : A → List Branch) (xs : List A) (b : Branch) → Memᴰ b (flat_map f xs) → (x : A) × Memᴰ x xs × Memᴰ b (f x)
  unfolding flat_map
  flat_only f [] b m = absurd (mathlib.Core.List.Memᴰ.not-nil m)
  flat_only f (x ∷ xs) b m =
      ⊎_elim
      (λ (p : Memᴰ b (f x)). (x, mathlib.Core.List.Memᴰ.head refl, p))
      (λ (p : Memᴰ b (flat_map f xs)).
      let r = flat_only f xs b p in
      (r.0, mathlib.Core.List.Memᴰ.tail r.1, r.2))
      (mathlib.Core.List.Memᴰ.append_cases (f x) m)

  flat_all : (f : A → List Branch) (b : Branch) (x : A) → Memᴰ b (f x) → (xs : List A) → Memᴰ x xs → Memᴰ b (flat_map f xs)
  unfolding flat_map
  flat_all f b x h [] m = absurd (mathlib.Core.List.Memᴰ.not-nil m)
  flat_all f b x h (y ∷ xs) m =
      ⊎_elim
      (λ (e : x ≡ y). mathlib.Core.List.Memᴰ.append_left (flat_map f xs) (subst (λ (z : A). Memᴰ b (f z)) e h))
      (λ (p : Memᴰ x xs). mathlib.Core.List.Memᴰ.append_right (f y) (flat_all f b x h xs p))
      (mathlib.Core.List.Memᴰ.cases_cons m)

-- those that a test takes
module _ {P : Record → Type 0} (d : (r : Record) → Dec (P r)) where
  only_with :
      (r q : Record) (rs : List Record) → (Memᴰ q (filter d rs) → Memᴰ q rs × P q) → (e : Dec (P r))
      → Memᴰ q (ite {C = List Record} e (r ∷ filter d rs) (filter d rs)) → Memᴰ q (r ∷ rs) × P q
  only_with r q rs others (yes h) m =
      ⊎_elim
      (λ (e : q ≡ r). (mathlib.Core.List.Memᴰ.head e, subst P (sym e) h))
      (λ (p : Memᴰ q (filter d rs)).
      let o = others p in
      (mathlib.Core.List.Memᴰ.tail o.0, o.1))
      (mathlib.Core.List.Memᴰ.cases_cons m)
  only_with r q rs others (no h) m =
      let o = others m in
      (mathlib.Core.List.Memᴰ.tail o.0, o.1)

  filter_only : (q : Record) (rs : List Record) → Memᴰ q (filter d rs) → Memᴰ q rs × P q
  filter_only q [] m = absurd (mathlib.Core.List.Memᴰ.not-nil m)
  filter_only q (r ∷ rs) m = only_with r q rs (filter_only q rs) (d r) m

  all_with :
      (r q : Record) (rs : List Record) → P q → (Memᴰ q rs → Memᴰ q (filter d rs)) → (e : Dec (P r)) → Memᴰ q (r ∷ rs)
      → Memᴰ q (ite {C = List Record} e (r ∷ filter d rs) (filter d rs))
  all_with r q rs h others (yes g) m =
      ⊎_elim (λ (e : q ≡ r). mathlib.Core.List.Memᴰ.head e) (λ (p : Memᴰ q rs). mathlib.Core.List.Memᴰ.tail (others p)) (mathlib.Core.List.Memᴰ.cases_cons m)
  all_with r q rs h others (no g) m =
      ⊎_elim (λ (e : q ≡ r). absurd (g (subst P e h))) (λ (p : Memᴰ q rs). others p) (mathlib.Core.List.Memᴰ.cases_cons m)

  filter-all : (q : Record) → P q → (rs : List Record) → Memᴰ q rs → Memᴰ q (filter d rs)
  filter-all q h [] m = absurd (mathlib.Core.List.Memᴰ.not-nil m)
  filter-all q h (r ∷ rs) m = all_with r q rs h (filter-all q h rs) (d r) m

-- ---- branch by branch, of the records

pub steps_only : (n : ℕ) (rs : List Record) (b : Branch) → Memᴰ b (steps_by_net n rs) → StepOf rs b
unfolding steps_by_net latest_of path_steps
steps_only n rs b m =
    let o = flat_only (steps_of rs) (up_to (λ (k : ℕ). k) n) b m in
    let i : ℕ = o.0 in
    let p = flat_only path_steps (latest_of i rs) b o.2 in
    let turn : Record = p.0 in
    let late = filter_only (in_turn i (latest i rs)) turn (filter (in_net i (latest i rs)) rs) p.1 in
    let own = filter_only (in_net i (latest i rs)) turn rs late.0 in
    let s = up_to_only (step_at turn) (length turn.path - 1) b p.2 in
    record {
      turn = turn;
      logged = own.0;
      iteration-is = late.1 ∙ ap (λ (k : ℕ). latest k rs) (sym own.1);
      place = s.0;
      within = omega (arith, s.1);
      branch-is = s.2;
    }

pub steps_all : (n : ℕ) (rs : List Record) (b : Branch) (s : StepOf rs b) → s.turn.net < n → Memᴰ b (steps_by_net n rs)
unfolding steps_by_net latest_of path_steps
steps_all n rs b s below =
    let turn : Record = s.turn in
    let i : ℕ = turn.net in
    let long = s.within in
    let step : Memᴰ b (path_steps turn) = mathlib.Core.List.Memᴰ.cast s.branch-is (up_to_all (step_at turn) (length turn.path - 1) s.place (omega arith)) in
    let late : Memᴰ turn (latest_of i rs) =
    filter-all (in_turn i (latest i rs)) turn s.iteration-is (filter (in_net i (latest i rs)) rs) (filter-all (in_net i (latest i rs)) turn refl rs s.logged) in
    flat_all (steps_of rs) b i (flat_all path_steps b turn step (latest_of i rs) late) (up_to (λ (k : ℕ). k) n) (up_to_all (λ (k : ℕ). k) n i below)
