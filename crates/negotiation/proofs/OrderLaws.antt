-- Laws of the sink whose turn it is: it is the first listed of the most critical that the tree lacks, and there is one as long as the tree lacks any.
-- So a turn tries listed sinks, in a job of either kind at least one that the tree lacks.
-- Assumes nothing.
use mathlib.Core.Bool.{Bool, true, false}
use mathlib.Core.List.{List, [], ◌∷◌, ◌++◌, append-nil}
use mathlib.Core.Logic.{◌⊎◌, inl, inr, ⊎_elim}
use mathlib.Core.Path.{◌≡◌, refl, sym, ◌∙◌}
use Prim.Native.Nat.{ℕ, zero, suc, ◌+◌, ◌-◌, ◌≤◌, ◌<◌}
use native.Mathlib.Nat.{not-suc-le-zero, le_of_suc-le-suc, eq-or-lt_of_le, zero-add}
use native.Mathlib.Omega.{arith}
use lib.Dec.{eqb, ltb}
use lib.ListN.{length, get_or, take, get_or-eq_default}
use lib.Seq.{length-slice, get_or-drop, get_or-take}
use borrow.Author.Tests.{eq-eqb, eqb-true, ltb-true, lt-ltb}
use Rattle.price.specs.Bounds.{criticality_most}
use Rattle.price.specs.Lists.{has}
use Rattle.price.proofs.TestLaws.{by_test, le_or_lt, true≢false}
use Rattle.price.proofs.ListLaws.{has-at, has_place, has_append_left, has_append_right}
use Rattle.search.proofs.DistinctLaws.{has_cons, has_first, has_rest}
use Rattle.job.specs.Job.{Job, nodes, nets, net_sinks, net_criticalities}
use Rattle.negotiation.specs.Order.{places_with, falling_from, first_open, place_due, sink_due, sinks_tried, turn_sinks, turn_weighting}
use Rattle.negotiation.specs.Routable.{Routable, Timing}
use Rattle.negotiation.proofs.MemberLaws.{no_entry, has-append_split}

module _ (joined : ℕ → Bool) (sinks : List ℕ) where
  -- places whose sinks the tree has are passed over
  skip : (c at : ℕ) (xs ps : List ℕ) → ((k : ℕ) → k < length xs → get_or xs k 0 ≡ c → joined (get_or sinks (at + k) 0) ≡ true) → first_open joined sinks (places_with c at xs ++ ps) ≡ first_open joined sinks ps
  unfolding places_with first_open
  skip c at [] ps h = refl
  skip c at (x ∷ xs) ps h =
      let rest : (k : ℕ) → k < length xs → get_or xs k 0 ≡ c → joined (get_or sinks (at + 1 + k) 0) ≡ true =
      λ k l e. let q : at + suc k ≡ at + 1 + k = omega arith in rw q at (h (suc k) (omega arith) e) in
      by_test (eqb x c)
      (λ e.
      let here : joined (get_or sinks at 0) ≡ true = let z : at + 0 ≡ at = omega arith in rw z at (h 0 (omega arith) (eqb-true x c e)) in
      rw (e, here) (skip c (at + 1) xs ps rest))
      (λ e. rw e (skip c (at + 1) xs ps rest))

  -- the first whose sink the tree lacks is found
  found : (c at : ℕ) (xs ps : List ℕ) (k : ℕ) → k < length xs → get_or xs k 0 ≡ c → joined (get_or sinks (at + k) 0) ≡ false → ((m : ℕ) → m < k → get_or xs m 0 ≡ c → joined (get_or sinks (at + m) 0) ≡ true) → first_open joined sinks (places_with c at xs ++ ps) ≡ at + k
  unfolding places_with first_open
  found c at [] ps k l e o h = absurd (not-suc-le-zero l)
  found c at (x ∷ xs) ps zero l e o h =
      let z : at + 0 ≡ at = omega arith in
      let here : joined (get_or sinks at 0) ≡ false = rw z at o in
      rw (eq-eqb x c e, here) (sym z)
  found c at (x ∷ xs) ps (suc k) l e o h =
      let q : at + suc k ≡ at + 1 + k = omega arith in
      let rest : (m : ℕ) → m < k → get_or xs m 0 ≡ c → joined (get_or sinks (at + 1 + m) 0) ≡ true =
      λ m b g. let p : at + suc m ≡ at + 1 + m = omega arith in rw p at (h (suc m) (omega arith) g) in
      let on : first_open joined sinks (places_with c (at + 1) xs ++ ps) ≡ at + suc k = found c (at + 1) xs ps k (le_of_suc-le-suc l) e (rw q at o) rest ∙ sym q in
      by_test (eqb x c)
      (λ g.
      let here : joined (get_or sinks at 0) ≡ true = let z : at + 0 ≡ at = omega arith in rw z at (h 0 (omega arith) (eqb-true x c g)) in
      rw (g, here) on)
      (λ g. rw g on)

  -- a place that the tree lacks, none more critical, none earlier as critical
  pub record Due (cs : List ℕ) (p : ℕ) : Type 0 where
    pub within : p < length cs
    pub lacks : joined (get_or sinks p 0) ≡ false
    pub most : (q : ℕ) → q < length cs → joined (get_or sinks q 0) ≡ false → get_or cs q 0 ≤ get_or cs p 0
    pub first : (q : ℕ) → q < p → joined (get_or sinks q 0) ≡ false → get_or cs q 0 < get_or cs p 0

  module _ (cs : List ℕ) (p : ℕ) (d : Due cs p) where
    in_tree : (c q : ℕ) → q < length cs → get_or cs q 0 ≡ c → get_or cs p 0 < c → joined (get_or sinks q 0) ≡ true
    in_tree c q l e above =
        by_test (joined (get_or sinks q 0)) (λ t. t) (λ o. absurd (omega (arith, d.most q l o)))

    earlier : (q : ℕ) → q < p → get_or cs q 0 ≡ get_or cs p 0 → joined (get_or sinks q 0) ≡ true
    earlier q l e =
        by_test (joined (get_or sinks q 0)) (λ t. t) (λ o. absurd (omega (arith, d.first q l o)))

    here : (ps : List ℕ) → first_open joined sinks (places_with (get_or cs p 0) 0 cs ++ ps) ≡ p
    here ps =
        found (get_or cs p 0) 0 cs ps p d.within refl (rw zero-add d.lacks) (λ m l e. rw zero-add (earlier m l e)) ∙ zero-add p

    pub due-is : (c : ℕ) → get_or cs p 0 ≤ c → first_open joined sinks (falling_from c cs) ≡ p
    unfolding falling_from
    due-is zero l =
        let z : get_or cs p 0 ≡ 0 = omega arith in
        rw (← append-nil (places_with 0 0 cs)) (rw z at (here []))
    due-is (suc c) l =
        ⊎_elim
        (λ (e : get_or cs p 0 ≡ suc c). rw e at (here (falling_from c cs)))
        (λ (b : get_or cs p 0 < suc c).
        skip (suc c) 0 cs (falling_from c cs) (λ k h e. rw zero-add (in_tree (suc c) k h e b)) ∙ due-is c (le_of_suc-le-suc b))
        (eq-or-lt_of_le l)

-- ---- the places, falling

-- each is a place of the list
places-within : (c at : ℕ) (xs : List ℕ) (p : ℕ) → has p (places_with c at xs) ≡ true → p < at + length xs
unfolding places_with
places-within c at [] p h = absurd (no_entry p h)
places-within c at (x ∷ xs) p h =
    let rest : has p (places_with c (at + 1) xs) ≡ true → p < at + suc (length xs) = λ m. omega (arith, places-within c (at + 1) xs p m) in
    by_test (eqb x c)
    (λ e.
    let m : has p (at ∷ places_with c (at + 1) xs) ≡ true = rw e at h in
    ⊎_elim (λ (q : p ≡ at). omega arith) rest (has_cons p at (places_with c (at + 1) xs) m))
    (λ e. rest (rw e at h))

pub falling_within : (c : ℕ) (cs : List ℕ) (p : ℕ) → has p (falling_from c cs) ≡ true → p < length cs
unfolding falling_from
falling_within zero cs p h = rw zero-add at (places-within 0 0 cs p h)
falling_within (suc c) cs p h =
    ⊎_elim
    (λ m. rw zero-add at (places-within (suc c) 0 cs p m))
    (falling_within c cs p)
    (has-append_split p (places_with (suc c) 0 cs) (falling_from c cs) h)

-- and every place whose entry is low enough stands among them
places-all : (c at : ℕ) (xs : List ℕ) (k : ℕ) → k < length xs → get_or xs k 0 ≡ c → has (at + k) (places_with c at xs) ≡ true
unfolding places_with
places-all c at [] k l e = absurd (not-suc-le-zero l)
places-all c at (x ∷ xs) zero l e =
    let z : at + 0 ≡ at = omega arith in
    rw (eq-eqb x c e, z) (has_first at (places_with c (at + 1) xs))
places-all c at (x ∷ xs) (suc k) l e =
    let q : at + 1 + k ≡ at + suc k = omega arith in
    let rest : has (at + suc k) (places_with c (at + 1) xs) ≡ true = rw q at (places-all c (at + 1) xs k (le_of_suc-le-suc l) e) in
    by_test (eqb x c)
    (λ g. rw g (has_rest (at + suc k) at (places_with c (at + 1) xs) rest))
    (λ g. rw g rest)

falling_all : (c : ℕ) (cs : List ℕ) (p : ℕ) → p < length cs → get_or cs p 0 ≤ c → has p (falling_from c cs) ≡ true
unfolding falling_from
falling_all zero cs p l h = rw zero-add at (places-all 0 0 cs p l (omega arith))
falling_all (suc c) cs p l h =
    ⊎_elim
    (λ (e : get_or cs p 0 ≡ suc c).
    has_append_left p (places_with (suc c) 0 cs) (falling_from c cs) (rw zero-add at (places-all (suc c) 0 cs p l e)))
    (λ (b : get_or cs p 0 < suc c).
    has_append_right p (places_with (suc c) 0 cs) (falling_from c cs) (falling_all c cs p l (le_of_suc-le-suc b)))
    (eq-or-lt_of_le h)

-- ---- the place that is due

module _ (joined : ℕ → Bool) (sinks : List ℕ) where
  -- the first open place is one of them, and open; or all of them are joined
  abbrev Opened : List ℕ → Type 0
  Opened ps = (has (first_open joined sinks ps) ps ≡ true) × (joined (get_or sinks (first_open joined sinks ps) 0) ≡ false)

  abbrev AllJoined : List ℕ → Type 0
  AllJoined ps = (first_open joined sinks ps ≡ length sinks) × ((p : ℕ) → has p ps ≡ true → joined (get_or sinks p 0) ≡ true)

  opened_more : (p : ℕ) (ps : List ℕ) → joined (get_or sinks p 0) ≡ true → Opened ps ⊎ AllJoined ps → Opened (p ∷ ps) ⊎ AllJoined (p ∷ ps)
  unfolding first_open
  opened_more p ps e r =
      ⊎_elim
      (λ (o : Opened ps). inl (rw e (has_rest (first_open joined sinks ps) p ps o.0), rw e o.1))
      (λ (a : AllJoined ps).
      inr (rw e a.0, λ q h. ⊎_elim (λ (g : q ≡ p). rw g e) (a.1 q) (has_cons q p ps h)))
      r

  pub opened : (ps : List ℕ) → Opened ps ⊎ AllJoined ps
  unfolding first_open
  opened [] = inr (refl, λ p h. absurd (no_entry p h))
  opened (p ∷ ps) =
      by_test (joined (get_or sinks p 0))
      (λ e. opened_more p ps e (opened ps))
      (λ e. inl (rw e (has_first p ps), rw e e))

  module _ (cs : List ℕ) where
    -- a place that is due is open
    pub place_open : place_due joined sinks cs < length sinks → joined (get_or sinks (place_due joined sinks cs) 0) ≡ false
    unfolding place_due
    place_open l =
        ⊎_elim (λ o. o.1) (λ a. absurd (omega (arith, a.0))) (opened (falling_from criticality_most cs))

    -- as long as one is open, one is due
    pub place_some :
        length cs ≡ length sinks → ((p : ℕ) → p < length sinks → get_or cs p 0 ≤ criticality_most)
        → (p : ℕ) → p < length sinks → joined (get_or sinks p 0) ≡ false → place_due joined sinks cs < length sinks
    unfolding place_due
    place_some long most p l e =
        ⊎_elim
        (λ o. rw long at (falling_within criticality_most cs (first_open joined sinks (falling_from criticality_most cs)) o.0))
        (λ a. absurd (true≢false (sym (a.1 p (falling_all criticality_most cs p (rw long l) (most p l))) ∙ e)))
        (opened (falling_from criticality_most cs))

    -- the sink that is due is listed, and open
    pub due_place : (x : ℕ) → has x (sink_due joined sinks cs) ≡ true → (place_due joined sinks cs < length sinks) × (x ≡ get_or sinks (place_due joined sinks cs) 0)
    unfolding sink_due
    due_place x h =
        by_test (ltb (place_due joined sinks cs) (length sinks))
        (λ b.
        let m : has x (get_or sinks (place_due joined sinks cs) 0 ∷ []) ≡ true = rw b at h in
        (ltb-true (place_due joined sinks cs) (length sinks) b, ⊎_elim (λ q. q) (λ q. absurd (no_entry x q)) (has_cons x (get_or sinks (place_due joined sinks cs) 0) [] m)))
        (λ b. absurd (no_entry x (rw b at h)))

    pub due-listed : (x : ℕ) → has x (sink_due joined sinks cs) ≡ true → has x sinks ≡ true
    due-listed x h = let at = due_place x h in rw at.1 (has-at sinks (place_due joined sinks cs) at.0)

    -- where a place is due it is that sink alone
    pub due-alone : place_due joined sinks cs < length sinks → sink_due joined sinks cs ≡ get_or sinks (place_due joined sinks cs) 0 ∷ []
    unfolding sink_due
    due-alone l = rw (lt-ltb (place_due joined sinks cs) (length sinks) l)

    -- a sink that is open leaves one that is due
    pub due_some :
        length cs ≡ length sinks → ((p : ℕ) → p < length sinks → get_or cs p 0 ≤ criticality_most)
        → (x : ℕ) → has x sinks ≡ true → joined x ≡ false → (y : ℕ) × (has y (sink_due joined sinks cs) ≡ true) × (joined y ≡ false)
    due_some long most x h e =
        let at = has_place x sinks h in
        let here : place_due joined sinks cs < length sinks = place_some long most at.0 at.1 (rw at.2 e) in
        (get_or sinks (place_due joined sinks cs) 0, rw (due-alone here) (has_first _ []), place_open here)

-- ---- what a turn tries

module _ (timed : Bool) (joined : ℕ → Bool) (sinks cs : List ℕ) where
  pub tried-listed : (x : ℕ) → has x (sinks_tried timed joined sinks cs) ≡ true → has x sinks ≡ true
  tried-listed x h =
      by_test timed
      (λ t. due-listed joined sinks cs x (rw t at h))
      (λ t. rw t at h)

  pub tried_some :
      (timed ≡ true → (length cs ≡ length sinks) × ((p : ℕ) → p < length sinks → get_or cs p 0 ≤ criticality_most))
      → (x : ℕ) → has x sinks ≡ true → joined x ≡ false → (y : ℕ) × (has y (sinks_tried timed joined sinks cs) ≡ true) × (joined y ≡ false)
  tried_some fit x h e =
      by_test timed
      (λ t. rw t (due_some joined sinks cs (fit t).0 (fit t).1 x h e))
      (λ t. rw t (x, h, e))

-- ---- of a net with a tree

module _ (j : Job) (i : ℕ) where
  module _ (tree : List ℕ) where
    pub turn-listed : (x : ℕ) → has x (turn_sinks j i tree) ≡ true → has x (net_sinks j i) ≡ true
    unfolding turn_sinks
    turn-listed = tried-listed j.terms.timed (λ s. has s tree) (net_sinks j i) (net_criticalities j i)

    -- an untimed job's turn
    module _ (plain : j.terms.timed ≡ false) where
      pub untimed-sinks : turn_sinks j i tree ≡ net_sinks j i
      unfolding turn_sinks
      untimed-sinks = rw plain

    -- a timed job's
    module _ (weighs : j.terms.timed ≡ true) where
      pub timed_sinks : turn_sinks j i tree ≡ sink_due (λ s. has s tree) (net_sinks j i) (net_criticalities j i)
      unfolding turn_sinks
      timed_sinks = rw weighs

      pub timed_criticality : (turn_weighting j i tree).criticality ≡ get_or (net_criticalities j i) (place_due (λ s. has s tree) (net_sinks j i) (net_criticalities j i)) 0
      unfolding turn_weighting
      timed_criticality = rw weighs

    pub weighting_timed : (turn_weighting j i tree).timed ≡ j.terms.timed
    unfolding turn_weighting
    weighting_timed =
        by_test j.terms.timed (λ t. rw t) (λ t. rw t)

-- ---- of a job that can be routed

module _ (j : Job) (sound : Routable j) (i : ℕ) (hi : i < nets j) where
  module _ (weighs : j.terms.timed ≡ true) where
    timing : Timing j
    timing = sound.timing weighs

    -- a net has a criticality for each sink
    pub criticalities-long : length (net_criticalities j i) ≡ length (net_sinks j i)
    unfolding net_sinks net_criticalities
    criticalities-long =
        let end : get_or j.first_sinks (i + 1) 0 ≤ length j.sinks = sound.sinks-end (i + 1) (omega arith) in
        let long : get_or j.first_sinks (i + 1) 0 ≤ length j.criticalities = rw timing.criticalities-long end in
        length-slice (get_or j.first_sinks i 0) (get_or j.first_sinks (i + 1) 0) j.criticalities long
        ∙ sym (length-slice (get_or j.first_sinks i 0) (get_or j.first_sinks (i + 1) 0) j.sinks end)

    -- none above the largest
    pub criticalities-most : (p : ℕ) → p < length (net_sinks j i) → get_or (net_criticalities j i) p 0 ≤ criticality_most
    unfolding net_sinks net_criticalities
    criticalities-most p l =
        let from : ℕ = get_or j.first_sinks i 0 in
        let to : ℕ = get_or j.first_sinks (i + 1) 0 in
        let end : to ≤ length j.sinks = sound.sinks-end (i + 1) (omega arith) in
        let few : p < to - from = rw (length-slice from to j.sinks end) at l in
        let inside : from + p < to = omega arith in
        let is : get_or (net_criticalities j i) p 0 ≡ get_or j.criticalities (from + p) 0 =
        get_or-drop from (take to j.criticalities) p 0 ∙ get_or-take to j.criticalities (from + p) 0 inside in
        rw is (timing.criticality_most_lem (from + p) (omega arith))

    pub criticality_low : (tree : List ℕ) → (turn_weighting j i tree).criticality ≤ criticality_most
    criticality_low tree =
        let cs : List ℕ = net_criticalities j i in
        let p : ℕ = place_due (λ s. has s tree) (net_sinks j i) cs in
        let low : get_or cs p 0 ≤ criticality_most =
        ⊎_elim
        (λ (l : length cs ≤ p). rw (get_or-eq_default cs 0 l) (omega arith))
        (λ (l : p < length cs). criticalities-most p (rw criticalities-long at l))
        (le_or_lt (length cs) p) in
        rw (timed_criticality j i tree weighs) low

  module _ (tree : List ℕ) where
    -- as long as the tree lacks a sink, a turn tries one that it lacks
    pub turn_some : (x : ℕ) → has x (net_sinks j i) ≡ true → has x tree ≡ false → (y : ℕ) × (has y (turn_sinks j i tree) ≡ true) × (has y tree ≡ false)
    unfolding turn_sinks
    turn_some =
        tried_some j.terms.timed (λ s. has s tree) (net_sinks j i) (net_criticalities j i) (λ t. (criticalities-long t, criticalities-most t))

    pub turn-nodes : (k : ℕ) → k < length (turn_sinks j i tree) → get_or (turn_sinks j i tree) k 0 < nodes j
    turn-nodes k l =
        let at = has_place _ (net_sinks j i) (turn-listed j i tree _ (has-at (turn_sinks j i tree) k l)) in
        rw at.2 at (sound.sink-node i hi at.0 at.1)
