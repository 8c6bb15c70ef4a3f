-- The nets read so far: what their tables keep, and their text, as an S line or a T line is added.
--     concat-, -last               texts one after the other
--     untimed-lines                the T lines of an untimed job
--     net-more, net-new, between-  the sinks of a net
--     Good, with-, -text           the nets read so far, with one source or one sink more
-- Assumes nothing.
use mathlib.Core.Bool.{Bool, true, false, not}
use mathlib.Core.List.{List, [], ◌∷◌, ◌++◌, append-nil, append_assoc}
use mathlib.Core.Logic.{⊎_elim}
use mathlib.Core.Path.{◌≡◌, refl, sym, ◌∙◌, ap, subst}
use Prim.Native.Nat.{ℕ, zero, suc, ◌+◌, ◌≤◌, ◌<◌}
use native.Mathlib.Nat.{eq-or-lt_of_le}
use native.Mathlib.Numerals.{add-one}
use native.Mathlib.Omega.{arith}
use lib.Dec.{ltb}
use lib.ListN.{length, get_or, drop, length-append, length-drop, get_or-append}
use lib.Seq.{get_or_at, take-length, drop-length, take-append-le, drop-append-le}
use borrow.Author.Count.{below_none, below_more}
use borrow.Author.Tests.{lt-ltb, eq-eqb, not-true}
use Rattle.price.specs.Lists.{every, has, distinct}
use Rattle.price.proofs.TestLaws.{true≢false, both_true, both_left, both_right}
use Rattle.price.proofs.ListLaws.{neighbours-all, has_append_right}
use Rattle.search.specs.Replies.{sinks_most}
use Rattle.search.proofs.DistinctLaws.{has_cons, has_first, has_rest, lacks, distinct_first, distinct_rest}
use Rattle.job.specs.Job.{sinks_between}
use Rattle.job.specs.Tables.{first_sinks_sound, net_sound}
use Rattle.job.proofs.NetTableLaws.{firsts-last}
use Rattle.negotiation.proofs.MemberLaws.{lacks_append, distinct_append}
use Rattle.text.specs.Lines.{letter_s, letter_t, print_line}
use Rattle.text.specs.Printed.{concat_from, each_line, further, sink_lines}
use Rattle.text.proofs.LastLaws.{every_more}

-- ---- texts

-- the text of net i of these tables
abbrev pub net_at : Bool → List ℕ → List ℕ → List ℕ → List ℕ → ℕ → List ℕ
net_at timed ss fs ts cs i = print_line letter_s (i ∷ get_or ss i 0 ∷ []) ++ sink_lines timed i (sinks_between fs ts i) (sinks_between fs cs i)

-- the first sink places with the end of the last net
abbrev pub ends : List ℕ → List ℕ → List ℕ
ends fs ts = fs ++ (length ts ∷ [])

-- one text more, and texts that agree
pub concat-last : (f : ℕ → List ℕ) (a k j : ℕ) → a + k ≡ j → concat_from f a (suc k) ≡ concat_from f a k ++ f j
unfolding concat_from
concat-last f a zero j e =
    let here : a ≡ j = omega arith in
    append-nil (f a) ∙ ap f here
concat-last f a (suc k) j e =
    rw (concat-last f (suc a) k j (omega arith)) (sym (append_assoc (f a) (concat_from f (suc a) k) (f j)))

pub concat-same : (f g : ℕ → List ℕ) (a k j : ℕ) → a + k ≡ j → ((i : ℕ) → i < j → f i ≡ g i) → concat_from f a k ≡ concat_from g a k
unfolding concat_from
concat-same f g a zero j e same = refl
concat-same f g a (suc k) j e same =
    rw (same a (omega arith), concat-same f g (suc a) k j (omega arith) same)

pub each_line-last : (letter i : ℕ) (xs : List ℕ) (t : ℕ) → each_line letter i (xs ++ (t ∷ [])) ≡ each_line letter i xs ++ print_line letter (i ∷ t ∷ [])
unfolding each_line
each_line-last letter i [] t = append-nil (print_line letter (i ∷ t ∷ []))
each_line-last letter i (x ∷ xs) t =
    rw (each_line-last letter i xs t)
    (sym (append_assoc (print_line letter (i ∷ x ∷ [])) (each_line letter i xs) (print_line letter (i ∷ t ∷ []))))

-- the T lines of an untimed job
pub untimed-lines : (i : ℕ) (ss cs : List ℕ) → sink_lines false i ss cs ≡ each_line letter_t i ss
unfolding sink_lines each_line
untimed-lines i [] cs = refl
untimed-lines i (s ∷ ss) cs = rw (untimed-lines i ss (drop 1 cs))

lines-last :
    (timed : Bool) (i : ℕ) (xs ys : List ℕ) (t c : ℕ) → length ys ≡ length xs
    → sink_lines timed i (xs ++ (t ∷ [])) (ys ++ (c ∷ [])) ≡ sink_lines timed i xs ys ++ print_line letter_t (i ∷ t ∷ further timed c)
unfolding sink_lines
lines-last timed i [] [] t c e = append-nil (print_line letter_t (i ∷ t ∷ further timed c))
lines-last timed i [] (y ∷ ys) t c e = absurd (omega arith)
lines-last timed i (x ∷ xs) [] t c e = absurd (omega arith)
lines-last timed i (x ∷ xs) (y ∷ ys) t c e =
    rw (lines-last timed i xs ys t c (omega arith))
    (sym (append_assoc (print_line letter_t (i ∷ x ∷ further timed y)) (sink_lines timed i xs ys) (print_line letter_t (i ∷ t ∷ further timed c))))

-- ---- the sinks of a net

-- one sink, other than the source and the sinks so far
net-more :
    (n s : ℕ) (xs : List ℕ) (t : ℕ) → net_sound n s xs ≡ true → ltb t n ≡ true → has t (s ∷ xs) ≡ false
    → net_sound n s (xs ++ (t ∷ [])) ≡ true
unfolding net_sound distinct has
net-more n s xs t sound node new =
    let rest = both_right (every (λ v. ltb v n) xs) _ sound in
    both_true (every_more (λ v. ltb v n) xs t (both_left (every (λ v. ltb v n) xs) _ sound) node)
    (both_true
    (distinct_append xs (t ∷ []) (both_left (distinct xs) _ rest) refl
    (λ v h.
    ⊎_elim
    (λ (e : v ≡ t). rw e (lacks t xs (λ m. true≢false (sym (has_rest t s xs m) ∙ new))))
    (λ (m : has v [] ≡ true). absurd (true≢false (sym m)))
    (has_cons v t [] h)))
    (ap not
    (lacks_append s xs (t ∷ []) (not-true (has s xs) (both_right (distinct xs) _ rest))
    (lacks s (t ∷ [])
    (λ h.
    ⊎_elim
    (λ (e : s ≡ t). true≢false (sym (has_first t xs) ∙ subst (λ (v : ℕ). has t (v ∷ xs) ≡ false) e new))
    (λ (m : has s [] ≡ true). true≢false (sym m))
    (has_cons s t [] h))))))

-- an entry does not stand before itself
distinct_before : (xs : List ℕ) (t : ℕ) (ys : List ℕ) → distinct (xs ++ (t ∷ ys)) ≡ true → has t xs ≡ false
unfolding has
distinct_before [] t ys d = refl
distinct_before (x ∷ xs) t ys d =
    lacks t (x ∷ xs)
    (λ h.
    ⊎_elim
    (λ (e : t ≡ x).
    true≢false
    (sym (subst (λ (v : ℕ). has v (xs ++ (t ∷ ys)) ≡ true) e (has_append_right t xs (t ∷ ys) (has_first t ys)))
    ∙ distinct_first x (xs ++ (t ∷ ys)) d))
    (λ (m : has t xs ≡ true). true≢false (sym m ∙ distinct_before xs t ys (distinct_rest x (xs ++ (t ∷ ys)) d)))
    (has_cons t x xs h))

-- a sink is neither the source nor a sink before it
pub net-new : (n s : ℕ) (xs : List ℕ) (t : ℕ) (ys : List ℕ) → net_sound n s (xs ++ (t ∷ ys)) ≡ true → has t (s ∷ xs) ≡ false
unfolding net_sound
net-new n s xs t ys sound =
    let rest = both_right (every (λ v. ltb v n) (xs ++ (t ∷ ys))) _ sound in
    lacks t (s ∷ xs)
    (λ h.
    ⊎_elim
    (λ (e : t ≡ s).
    true≢false
    (sym (subst (λ (v : ℕ). has v (xs ++ (t ∷ ys)) ≡ true) e (has_append_right t xs (t ∷ ys) (has_first t ys)))
    ∙ not-true (has s (xs ++ (t ∷ ys))) (both_right (distinct (xs ++ (t ∷ ys))) _ rest)))
    (λ (m : has t xs ≡ true). true≢false (sym m ∙ distinct_before xs t ys (both_left (distinct (xs ++ (t ∷ ys))) _ rest)))
    (has_cons t s xs h))

-- a net that is not the last: its sinks stay
between_front : (fs gs ts : List ℕ) (i : ℕ) → i + 1 < length fs → sinks_between (fs ++ gs) ts i ≡ sinks_between fs ts i
between_front fs gs ts i h =
    rw (get_or-append fs gs 0 i (omega arith), get_or-append fs gs 0 (i + 1) h)

-- the last net: its sinks go on to the end, and so do the entries of any other list of as many
between-last : (fs ts xs : List ℕ) (i : ℕ) → length xs ≡ length ts → length fs ≡ i + 1 → sinks_between (ends fs ts) xs i ≡ drop (get_or fs i 0) xs
between-last fs ts xs i same e =
    rw (get_or-append fs (length ts ∷ []) 0 i (omega arith), get_or_at fs (length ts) [] 0 (i + 1) e, ← same, take-length xs)

-- ---- the nets read so far

-- m nets, of which all but the last have a sink
pub record Good (n nets m : ℕ) (ss fs ts cs : List ℕ) : Type 0 where
  pub count : length ss ≡ m
  pub long : length fs ≡ m
  pub most : m ≤ nets
  pub node : (i : ℕ) → i < m → get_or ss i 0 < n
  pub begin : get_or (ends fs ts) 0 0 ≡ 0
  pub low : (i : ℕ) → i < m → get_or fs i 0 ≤ length ts
  pub rise : (i : ℕ) → i + 1 < m → get_or fs i 0 < get_or fs (i + 1) 0
  pub sound : (i : ℕ) → i < m → net_sound n (get_or ss i 0) (sinks_between (ends fs ts) ts i) ≡ true
  pub few : length ts ≤ sinks_most
  pub even : length cs ≡ length ts

-- their text
abbrev pub written : Bool → ℕ → List ℕ → List ℕ → List ℕ → List ℕ → List ℕ
written timed m ss fs ts cs = concat_from (net_at timed ss (ends fs ts) ts cs) 0 m

pub good_none : (n nets : ℕ) → Good n nets 0 [] [] [] []
good_none n nets =
    record {
      count = refl;
      long = refl;
      most = omega arith;
      node = below_none _;
      begin = refl;
      low = below_none _;
      rise = λ i h. absurd (omega arith);
      sound = below_none _;
      few = omega arith;
      even = refl;
    }

module _ {n nets m : ℕ} {ss fs ts cs : List ℕ} (g : Good n nets m ss fs ts cs) where
  ends-long : length (ends fs ts) ≡ m + 1
  ends-long = let l : length fs ≡ m = g.long in length-append fs (length ts ∷ []) ∙ rw l

  first_at : (i : ℕ) → i < m → get_or (ends fs ts) i 0 ≡ get_or fs i 0
  first_at i h = let l : length fs ≡ m = g.long in get_or-append fs (length ts ∷ []) 0 i (omega arith)

  first_here : get_or (ends fs ts) m 0 ≡ length ts
  first_here = get_or_at fs (length ts) [] 0 m g.long

  -- the next net's source
  module _ (s : ℕ) where
    source-at : (i : ℕ) → i < m → get_or (ss ++ (s ∷ [])) i 0 ≡ get_or ss i 0
    source-at i h = let l : length ss ≡ m = g.count in get_or-append ss (s ∷ []) 0 i (omega arith)

    source-here : get_or (ss ++ (s ∷ [])) m 0 ≡ s
    source-here = get_or_at ss s [] 0 m g.count

    sinks-at : (xs : List ℕ) (i : ℕ) → i < m → sinks_between (ends (ends fs ts) ts) xs i ≡ sinks_between (ends fs ts) xs i
    sinks-at xs i h = let l : length (ends fs ts) ≡ m + 1 = ends-long in between_front (ends fs ts) (length ts ∷ []) xs i (omega arith)

    sinks-here : sinks_between (ends (ends fs ts) ts) ts m ≡ []
    sinks-here = between-last (ends fs ts) ts ts m refl ends-long ∙ rw first_here (drop-length ts)

    pub with_source_lem : s < n → m < nets → ((i : ℕ) → i + 1 ≡ m → get_or fs i 0 < length ts) → Good n nets (m + 1) (ss ++ (s ∷ [])) (ends fs ts) ts cs
    unfolding net_sound every distinct has
    with_source_lem node fits due =
        let l : length (ends fs ts) ≡ m + 1 = ends-long in
        record {
          count = let c : length ss ≡ m = g.count in length-append ss (s ∷ []) ∙ rw c;
          long = l;
          most = omega arith;
          node = below_more _ m (λ i h. rw (source-at i h) (g.node i h)) (rw source-here node);
          begin = get_or-append (ends fs ts) (length ts ∷ []) 0 0 (omega arith) ∙ g.begin;
          low = below_more _ m (λ i h. rw (first_at i h) (g.low i h)) (rw first_here (omega arith));
          rise = λ i h.
              ⊎_elim
              (λ (e : i + 1 ≡ m). rw (first_at i (omega arith), e, first_here) (due i e))
              (λ (b : i + 1 < m). rw (first_at i (omega arith), first_at (i + 1) b) (g.rise i b))
              (eq-or-lt_of_le (let b : i + 1 ≤ m = omega arith in b));
          sound = below_more _ m (λ i h. rw (source-at i h, sinks-at ts i h) (g.sound i h)) (rw sinks-here refl);
          few = g.few;
          even = g.even;
        }

    pub source_text : (timed : Bool) → written timed (m + 1) (ss ++ (s ∷ [])) (ends fs ts) ts cs ≡ written timed m ss fs ts cs ++ print_line letter_s (m ∷ s ∷ [])
    unfolding sink_lines
    source_text timed =
        rw add-one
        (concat-last (net_at timed (ss ++ (s ∷ [])) (ends (ends fs ts) ts) ts cs) 0 m m (omega arith)
        ∙ rw (source-here, sinks-here, append-nil (print_line letter_s (m ∷ s ∷ [])))
        (ap (λ (r : List ℕ). r ++ print_line letter_s (m ∷ s ∷ []))
        (concat-same (net_at timed (ss ++ (s ∷ [])) (ends (ends fs ts) ts) ts cs) (net_at timed ss (ends fs ts) ts cs) 0 m m (omega arith)
        (λ i h. rw (source-at i h, sinks-at ts i h, sinks-at cs i h)))))

  -- the next sink of the last net
  module _ (i t c : ℕ) (last : i + 1 ≡ m) where
    -- of a list of as many entries, with one more
    module _ (xs : List ℕ) (x : ℕ) (same : length xs ≡ length ts) where
      sinks-kept : (k : ℕ) → k < i → sinks_between (ends fs (ts ++ (t ∷ []))) (xs ++ (x ∷ [])) k ≡ sinks_between (ends fs ts) xs k
      sinks-kept k h =
          let l : length fs ≡ m = g.long in
          let inside : get_or fs (k + 1) 0 ≤ length ts = g.low (k + 1) (omega arith) in
          between_front fs (length (ts ++ (t ∷ [])) ∷ []) (xs ++ (x ∷ [])) k (omega arith)
          ∙ ap (drop (get_or fs k 0)) (take-append-le (get_or fs (k + 1) 0) xs (x ∷ []) (omega arith))
          ∙ sym (between_front fs (length ts ∷ []) xs k (omega arith))

      sinks-grown : sinks_between (ends fs (ts ++ (t ∷ []))) (xs ++ (x ∷ [])) i ≡ sinks_between (ends fs ts) xs i ++ (x ∷ [])
      sinks-grown =
          let below : get_or fs i 0 ≤ length ts = g.low i (omega arith) in
          between-last fs (ts ++ (t ∷ [])) (xs ++ (x ∷ [])) i (rw (length-append xs (x ∷ []), length-append ts (t ∷ []), same)) (g.long ∙ sym last)
          ∙ drop-append-le (get_or fs i 0) xs (x ∷ []) (omega arith)
          ∙ ap (λ (r : List ℕ). r ++ (x ∷ [])) (sym (between-last fs ts xs i same (g.long ∙ sym last)))

    -- the last net has as many criticalities as sinks
    criticalities-here : length (sinks_between (ends fs ts) cs i) ≡ length (sinks_between (ends fs ts) ts i)
    criticalities-here =
        rw (between-last fs ts cs i g.even (g.long ∙ sym last), between-last fs ts ts i refl (g.long ∙ sym last), length-drop (get_or fs i 0) cs, length-drop (get_or fs i 0) ts, g.even)

    pub with_sink_lem : ltb t n ≡ true → has t (get_or ss i 0 ∷ drop (get_or fs i 0) ts) ≡ false → length ts < sinks_most → Good n nets m ss fs (ts ++ (t ∷ [])) (cs ++ (c ∷ []))
    with_sink_lem node new room =
        let l : length fs ≡ m = g.long in
        let more : length (ts ++ (t ∷ [])) ≡ length ts + 1 = length-append ts (t ∷ []) in
        record {
          count = g.count;
          long = l;
          most = g.most;
          node = g.node;
          begin = get_or-append fs (length (ts ++ (t ∷ [])) ∷ []) 0 0 (omega arith) ∙ sym (get_or-append fs (length ts ∷ []) 0 0 (omega arith)) ∙ g.begin;
          low = λ k h. let b = g.low k h in omega arith;
          rise = g.rise;
          sound = λ k h.
              ⊎_elim
              (λ (e : k ≡ i).
              rw (e, sinks-grown ts t refl)
              (net-more n (get_or ss i 0) (sinks_between (ends fs ts) ts i) t (g.sound i (omega arith)) node
              (rw (between-last fs ts ts i refl (g.long ∙ sym last)) new)))
              (λ (b : k < i). rw (sinks-kept ts t refl k b) (g.sound k h))
              (eq-or-lt_of_le (let b : k ≤ i = omega arith in b));
          few = omega arith;
          even = rw (length-append cs (c ∷ []), length-append ts (t ∷ []), g.even);
        }

    pub sink_text : (timed : Bool) → written timed m ss fs (ts ++ (t ∷ [])) (cs ++ (c ∷ [])) ≡ written timed m ss fs ts cs ++ print_line letter_t (i ∷ t ∷ further timed c)
    sink_text timed =
        let grown : ℕ → List ℕ = net_at timed ss (ends fs (ts ++ (t ∷ []))) (ts ++ (t ∷ [])) (cs ++ (c ∷ [])) in
        let before : ℕ → List ℕ = net_at timed ss (ends fs ts) ts cs in
        rw (← last, add-one)
        (concat-last grown 0 i i (omega arith)
        ∙ rw (
          sinks-grown ts t refl,
          sinks-grown cs c g.even,
          lines-last timed i (sinks_between (ends fs ts) ts i) (sinks_between (ends fs ts) cs i) t c criticalities-here,
        )
        (rw (concat-same grown before 0 i i (omega arith) (λ k h. rw (sinks-kept ts t refl k h, sinks-kept cs c g.even k h)))
        (rw (concat-last before 0 i i (omega arith)) (simp append_assoc))))

-- the end of the last net is above its begin
pub good_firsts : (n nets : ℕ) (ss fs ts cs : List ℕ) → Good n nets nets ss fs ts cs → ((i : ℕ) → i + 1 ≡ nets → get_or fs i 0 < length ts) → first_sinks_sound nets (length ts) (ends fs ts) ≡ true
good_firsts n nets ss fs ts cs g last =
    let long : length (ends fs ts) ≡ nets + 1 = ends-long g in
    let end : get_or (ends fs ts) nets 0 ≡ length ts = first_here g in
    firsts-last nets (length ts) (ends fs ts) long g.begin
    (neighbours-all ltb (ends fs ts)
    (λ i h.
    lt-ltb (get_or (ends fs ts) i 0) (get_or (ends fs ts) (suc i) 0)
    (rw (← add-one i, first_at g i (omega arith))
    (⊎_elim
    (λ (e : i + 1 ≡ nets). rw (e, end) (last i e))
    (λ (b : i + 1 < nets). rw (first_at g (i + 1) b) (g.rise i b))
    (eq-or-lt_of_le (let b : i + 1 ≤ nets = omega arith in b))))))
    ∙ eq-eqb (get_or (ends fs ts) nets 0) (length ts) end
