-- How many iterations a run makes, which records it has, and its reply at each of its ends.
-- Assumes nothing.
use mathlib.Core.Bool.{true, false}
use mathlib.Core.List.{List, [], ◌∷◌, ◌++◌, map, append-nil, append_assoc}
use mathlib.Core.Logic.{⊎_elim}
use mathlib.Core.Path.{◌≡◌, refl, sym, ◌∙◌, ap}
use Prim.Native.Nat.{ℕ, zero, suc, ◌+◌, ◌*◌, ◌-◌, ◌≤◌, ◌<◌}
use native.Mathlib.Nat.{le_of_suc-le-suc, eq-or-lt_of_le, le_refl}
use native.Mathlib.Numerals.{add-one}
use native.Mathlib.Omega.{arith}
use lib.Dec.{ltb}
use lib.ListN.{length, get_or, drop, replicate, length-append}
use borrow.Author.Tests.{lt-ltb, le-ltb}
use Rattle.price.specs.Lists.{first_below}
use Rattle.price.proofs.TestLaws.{by_test, le_or_lt, true≢false}
use Rattle.price.proofs.ListLaws.{drop-same}
use Rattle.price.proofs.BelowLaws.{first_below_holds, first_below-is, first_below-all}
use Rattle.search.specs.Replies.{cleared}
use Rattle.job.specs.Job.{Job, nodes, nets}
use Rattle.negotiation.specs.Records.{Record, words, encode}
use Rattle.negotiation.specs.Machine.{State, Progress, net_records, due, after_nets, state_after, iterate, over_count, first_state, iteration_after, records_after, settles_at}
use Rattle.negotiation.specs.Outcome.{continued, ran_reply, log_with, route_reply_of, route_refusal, iterations_made, iterations_left, made_from, end_iteration, all_records, logged_records, cut_iteration, end_numbers}
use Rattle.negotiation.specs.Steps.{SameFrom}
use Rattle.negotiation.specs.declared.RouteAnswer.{RouteAnswer}
use Rattle.negotiation.proofs.StateLaws.{route_if_lem, routed-next}
use Rattle.negotiation.proofs.RecordLaws.{fitting-all, fitting_cut}

-- ---- how many iterations

-- the limit leaves all of them to a run that begins
pub left_first : (j : Job) → iterations_left j (first_state j) ≡ j.terms.limit
unfolding iterations_left first_state
left_first j = omega arith

module _ (j : Job) (s : State) (most m : ℕ) (below : m < most) (unsettled : (k : ℕ) → k < m → settles_at j s k ≡ false) where
  -- the first iteration that settles is the last
  pub made-settled : settles_at j s m ≡ true → iterations_made j s most ≡ m + 1
  unfolding iterations_made
  made-settled t = rw (first_below-is (settles_at j s) most m below t unsettled, lt-ltb m most below)

  pub unsettled-more : settles_at j s m ≡ false → (k : ℕ) → k < m + 1 → settles_at j s k ≡ false
  unsettled-more t k h =
      ⊎_elim
      (λ (e : k ≡ m). rw e t)
      (λ (l : k < m). unsettled k l)
      (eq-or-lt_of_le (omega (arith, h)))

  -- where none settles the limit ends the run
  pub made_limit : settles_at j s m ≡ false → m + 1 ≡ most → iterations_made j s most ≡ m + 1
  unfolding iterations_made
  made_limit t last =
      let none : first_below (settles_at j s) most ≡ most = first_below-all (settles_at j s) most (λ k h. unsettled-more t k (omega (arith, h))) in
      rw (none, le-ltb most most (le_refl most)) (sym last)

  -- the iteration after m that do not settle is made
  pub made-least : suc m ≤ iterations_made j s most
  unfolding iterations_made
  made-least =
      let first : ℕ = first_below (settles_at j s) most in
      let least : m ≤ first =
      ⊎_elim
      (λ (l : m ≤ first). l)
      (λ (l : first < m). absurd (true≢false (sym (first_below_holds (settles_at j s) most (omega arith)) ∙ unsettled first l)))
      (le_or_lt m first) in
      by_test (ltb (first_below (settles_at j s) most) most)
      (λ t. rw t (omega arith))
      (λ t. rw t below)

-- ---- its records

module _ (j : Job) (s : State) where
  -- later iterations add records
  pub records-more : (n m : ℕ) → m ≤ n → (later : List Record) × (records_after j s n ≡ records_after j s m ++ later)
  unfolding records_after
  records-more zero m h = let e : m ≡ 0 = omega arith in ([], rw e)
  records-more (suc n) m h =
      ⊎_elim
      (λ (e : m ≡ suc n). ([], rw e (sym (append-nil (records_after j s (suc n))))))
      (λ (l : m < suc n).
      let more = records-more n m (le_of_suc-le-suc l) in (
        more.0 ++ (iteration_after j s n).records,
        ap (λ (l : List Record). l ++ (iteration_after j s n).records) more.1
            ∙ append_assoc (records_after j s m) more.0 (iteration_after j s n).records,
      ))
      (eq-or-lt_of_le h)

  -- so do later nets
  nets-more : (n i : ℕ) → i ≤ n → (later : List Record) × ((after_nets j s n).records ≡ (after_nets j s i).records ++ later)
  unfolding after_nets
  nets-more zero i h = let e : i ≡ 0 = omega arith in ([], rw e)
  nets-more (suc n) i h =
      ⊎_elim
      (λ (e : i ≡ suc n). ([], rw e (sym (append-nil (after_nets j s (suc n)).records))))
      (λ (l : i < suc n).
      let more = nets-more n i (le_of_suc-le-suc l) in
      let rs = net_records j (after_nets j s n).state n in
      route_if_lem (λ p. (later : List Record) × (p.records ≡ (after_nets j s i).records ++ later)) (due j s n) j n (after_nets j s n) (
        more.0 ++ rs,
        ap (λ (l : List Record). l ++ rs) more.1 ∙ append_assoc (after_nets j s i).records more.0 rs,
      )
      more)
      (eq-or-lt_of_le h)

-- a record of net i has its place among all
pub all_split : (j : Job) (p : Progress) (m i : ℕ) → m < iterations_left j p.state → ((k : ℕ) → k < m → settles_at j p.state k ≡ false) → i < nets j
    → due j (state_after j p.state m) i ≡ true → (made : List Record) (r : Record) (rest : List Record) → net_records j (after_nets j (state_after j p.state m) i).state i ≡ made ++ (r ∷ rest)
    → (later : List Record)
    × (all_records j p ≡ (((p.records ++ records_after j p.state m) ++ (after_nets j (state_after j p.state m) i).records) ++ made) ++ (r ∷ later))
unfolding all_records records_after iterate
all_split j p m i below unsettled net d made r rest is =
    let s = state_after j p.state m in
    let after = records-more j p.state (made_from j p.state) (suc m) (made-least j p.state (iterations_left j p.state) m below unsettled) in
    let others = nets-more j s (nets j) (suc i) net in (
      rest ++ (others.0 ++ after.0),
      rw (after.1, others.1, routed-next j s i d, is) (simp append_assoc),
    )

-- ---- its reply

cut_place : (rs : List Record) (r : Record) (later : List Record) → get_or (map (λ (q : Record). q.iteration) (rs ++ (r ∷ later))) (length rs) 0 ≡ r.iteration
cut_place [] r later = refl
cut_place (q ∷ rs) r later = cut_place rs r later

-- a record that does not fit ends the run
pub full_reply : (j : Job) (p : Progress) (work log : List ℕ) (rs : List Record) (r : Record) (later : List Record) → all_records j p ≡ rs ++ (r ∷ later)
    → length (encode rs) ≤ length log → length log < length (encode rs) + length (words r)
    → continued j p work log ≡ ran_reply j (8 ∷ r.iteration ∷ length rs ∷ []) r.iteration rs work log
unfolding continued logged_records cut_iteration
full_reply j p work log rs r later e fits over =
    let long = length-append rs (r ∷ later) in
    rw (e, fitting_cut (length log) rs later r fits over, lt-ltb (length rs) (length (rs ++ (r ∷ later))) (omega arith), cut_place rs r later)

-- where all fit, the last iteration ends it
pub whole_reply : (j : Job) (p : Progress) (work log : List ℕ) (rs : List Record) → all_records j p ≡ rs → length (encode rs) ≤ length log
    → continued j p work log ≡ ran_reply j (end_numbers j p.state) (end_iteration j p.state) rs work log
unfolding continued logged_records
whole_reply j p work log rs e fits =
    rw (e, fitting-all (length log) rs fits, le-ltb (length rs) (length rs) (le_refl (length rs)))

module _ (j : Job) (s : State) (m : ℕ) (made : made_from j s ≡ m + 1) where
  pub end-settled : settles_at j s m ≡ true → end_numbers j s ≡ []
  unfolding end_numbers
  end-settled t = let e : m + 1 - 1 ≡ m = omega arith in rw (made, e, t)

  pub end_limit : settles_at j s m ≡ false → end_numbers j s ≡ 9 ∷ j.terms.limit ∷ over_count j (iteration_after j s m).state.trees ∷ []
  unfolding end_numbers
  end_limit t = let e : m + 1 - 1 ≡ m = omega arith in rw (made, e, t)

  -- m iterations come before the last
  pub last_made : end_iteration j s ≡ s.iteration + m
  last_made = rw made (omega arith)

-- all records are those so far and those of the iterations up to m
pub all_made : (j : Job) (p : Progress) (m : ℕ) → made_from j p.state ≡ m + 1 → all_records j p ≡ p.records ++ records_after j p.state (suc m)
unfolding all_records
all_made j p m made = rw (made, add-one)

-- the work slice with 0 up to 8 × nodes
pub cleared-same : (n : ℕ) (work₀ work : List ℕ) → SameFrom (8 * n) work₀ work → replicate (8 * n) 0 ++ drop (8 * n) work ≡ cleared n [] work₀
unfolding cleared
cleared-same n work₀ work same =
    let none : 8 * n - 0 ≡ 8 * n = omega arith in
    rw (none, drop-same (8 * n) work₀ work same.long same.high)

-- a work slice that is the same behind its first entries is cleared to the same, so a run goes on from it to the same reply
pub left-same : (j : Job) (work w : List ℕ) → SameFrom (8 * nodes j) work w → cleared (nodes j) [] w ≡ cleared (nodes j) [] work
left-same j work w kept = sym (cleared-same (nodes j) w w (record { long = refl; high = λ k l. refl })) ∙ cleared-same (nodes j) work w kept

pub continued-same : (j : Job) (p : Progress) (work w log : List ℕ) → SameFrom (8 * nodes j) work w → continued j p w log ≡ continued j p work log
unfolding continued
continued-same j p work w log kept = rw (left-same j work w kept)

-- an answer is a run's reply where its numbers, the work slice and the log are
pub reply_same : (j : Job) (r : RouteAnswer) (iteration : ℕ) (numbers : List ℕ) (rs : List Record) (work₀ work log₀ log : List ℕ)
    → route_refusal r.outcome r.iteration r.turns ≡ numbers → r.iteration ≡ iteration → r.turns ≡ length rs → r.used ≡ length (encode rs)
    → SameFrom (8 * nodes j) work₀ work → log ≡ log_with rs log₀
    → route_reply_of r (replicate (8 * nodes j) 0 ++ drop (8 * nodes j) work) log ≡ ran_reply j numbers iteration rs work₀ log₀
reply_same j r iteration numbers rs work₀ work log₀ log a b c d same e =
    rw (a, b, c, d, e, cleared-same (nodes j) work₀ work same)
