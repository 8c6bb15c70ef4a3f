-- Lists, log and trees across one turn of a net.
-- Assumes nothing.
use mathlib.Core.Bool.{true, false}
use mathlib.Core.List.{List, [], ◌∷◌, ◌++◌, append_assoc, append-nil}
use mathlib.Core.Logic.{⊎_elim}
use mathlib.Core.Path.{◌≡◌, refl, sym, ◌∙◌}
use Prim.Native.Nat.{ℕ, zero, suc, ◌+◌, ◌-◌, ◌≤◌, ◌<◌}
use native.Mathlib.Nat.{not-suc-le-zero}
use native.Mathlib.Numerals.{add-one}
use native.Mathlib.Omega.{arith}
use lib.ListN.{length, get_or, take, drop, length-append, length-drop, get_or-append}
use lib.Seq.{slice, take-append_seam, drop-append_seam, drop-append-add, drop-drop, get_or-append-add}
use borrow.Author.Tests.{lt-ltb, le-leb}
use Rattle.price.specs.Bounds.{others_most}
use Rattle.price.specs.Timed.{history_bound}
use Rattle.price.specs.Test.{choose}
use Rattle.price.specs.Lists.{has}
use Rattle.price.proofs.TestLaws.{by_test, le_or_lt, both_true}
use Rattle.price.proofs.ListLaws.{has_append_left, has_append_right, get_or_up_to}
use Rattle.search.specs.Turn.{Congestion, joins, stuck}
use Rattle.search.specs.Replies.{node_sound}
use Rattle.job.specs.Job.{Job, nodes}
use Rattle.negotiation.specs.Records.{Record, record_of, words, encode, path_nodes}
use Rattle.negotiation.specs.Order.{turn_sinks}
use Rattle.negotiation.specs.Machine.{State, marks_of, turn_of, turns_of, due, after_nets}
use Rattle.negotiation.specs.Outcome.{log_with}
use Rattle.job.specs.Steps.{AllBelow}
use Rattle.negotiation.specs.TariffSteps.{logged_tariff}
use Rattle.negotiation.specs.Kept.{Tallied}
use Rattle.negotiation.specs.Runs.{All}
use Rattle.negotiation.specs.declared.tariff.Tariff.{Tariff}
use Rattle.negotiation.proofs.RecordLaws.{words-length, encode-append}
use Rattle.negotiation.proofs.MemberLaws.{lacks_append}

-- ---- what the search asks of a node

pub node_sound_lem :
    (c : Congestion) (marks : List ℕ) (v : ℕ) → v < length c.histories → 1 ≤ get_or c.histories v 0 → get_or c.histories v 0 ≤ history_bound c.weighting
    → v < length c.others → get_or c.others v 0 ≤ others_most → v < length marks → get_or marks v 0 ≤ 1 → node_sound c marks v ≡ true
unfolding node_sound
node_sound_lem c marks v a least most b few d one =
    both_true (both_true (lt-ltb _ _ a) (both_true (le-leb _ _ least) (le-leb _ _ most)))
    (both_true (both_true (lt-ltb _ _ b) (le-leb _ _ few)) (both_true (lt-ltb _ _ d) (le-leb _ _ one)))

-- ---- marks of a tree

pub mark_at : (j : Job) (tree : List ℕ) (v : ℕ) → v < nodes j → get_or (marks_of j tree) v 0 ≡ choose (has v tree) 1 0
unfolding marks_of
mark_at j tree v h = get_or_up_to {A = ℕ} (λ u. choose (has u tree) 1 0) (nodes j) v 0 h

-- a path that joins the tree is marked beside it
pub mark_more : (v : ℕ) (tree path : List ℕ) → ◌≡◌ {A = ℕ} (choose (has v path) 1 (choose (has v tree) 1 0)) (choose (has v (tree ++ path)) 1 0)
mark_more v tree path =
    by_test (has v path)
    (λ p. rw (p, has_append_right v tree path p))
    (λ p.
    by_test (has v tree)
    (λ q. rw (p, q, has_append_left v tree path q))
    (λ q. rw (p, q, lacks_append v tree path q p)))

-- ---- the machine's turns

pub turns-stuck : (j : Job) (t : ℕ) (c : Congestion) (i k : ℕ) (tree : List ℕ) → turn_of j c i tree ≡ stuck → turns_of j t c i k tree ≡ []
unfolding turns_of
turns-stuck j t c i zero tree e = refl
turns-stuck j t c i (suc k) tree e = rw e

pub turns_more :
    (j : Job) (t : ℕ) (c : Congestion) (i k : ℕ) (tree : List ℕ) (place cost : ℕ) (path : List ℕ) → turn_of j c i tree ≡ joins place cost path
    → turns_of j t c i (suc k) tree ≡ record_of t i (get_or (turn_sinks j i tree) place 0) cost path ∷ turns_of j t c i k (tree ++ path)
unfolding turns_of
turns_more j t c i k tree place cost path e = rw e

pub turns-none : (j : Job) (t : ℕ) (c : Congestion) (i : ℕ) (tree : List ℕ) → turns_of j t c i 0 tree ≡ []
unfolding turns_of
turns-none j t c i tree = refl

-- ---- the log

-- the log keeps its length where the records fit it
pub log-length : (rs : List Record) (log : List ℕ) → length (encode rs) ≤ length log → length (log_with rs log) ≡ length log
unfolding log_with
log-length rs log h =
    let all = length-append (encode rs) (drop (length (encode rs)) log) in
    let rest = length-drop (length (encode rs)) log in
    omega arith

encode_one : (r : Record) → encode (r ∷ []) ≡ words r
unfolding encode
encode_one r = append-nil (words r)

pub encode-more : (rs : List Record) (r : Record) → encode (rs ++ (r ∷ [])) ≡ encode rs ++ words r
encode-more rs r = rw (encode-append rs (r ∷ []), encode_one r)

-- one record more is written behind the others
log-more :
    (rs : List Record) (r : Record) (log : List ℕ) (n : ℕ) → length (words r) ≡ n
    → take (length (encode rs)) (log_with rs log) ++ (words r ++ drop (length (encode rs) + n) (log_with rs log)) ≡ log_with (rs ++ (r ∷ [])) log
unfolding log_with
log-more rs r log n e =
    rw (
      take-append_seam (encode rs) (drop (length (encode rs)) log),
      drop-append-add (encode rs) (drop (length (encode rs)) log) n,
      drop-drop n (length (encode rs)) log,
      encode-more rs r,
      length-append (encode rs) (words r),
      e,
    )
    (sym (append_assoc (encode rs) (words r) (drop (length (encode rs) + n) log)))

pub tallied-more :
    (rs : List Record) (log₀ : List ℕ) (t : Tariff) (log : List ℕ) (r : Record) (log' : List ℕ) (expanded : ℕ) → Tallied rs log₀ t log → t.words + (6 + length r.path) ≤ length log
    → log' ≡ take t.words log ++ (words r ++ drop (t.words + (6 + length r.path)) log)
    → Tallied (rs ++ (r ∷ [])) log₀ (logged_tariff t (6 + length r.path) expanded) log'
tallied-more rs log₀ t log r log' expanded a room is =
    let long : length (encode (rs ++ (r ∷ []))) ≡ length (encode rs) + (6 + length r.path) =
    rw (encode-more rs r, length-append (encode rs) (words r), words-length r) in
    let same : length log ≡ length log₀ = rw a.log_is (log-length rs log₀ a.fits) in
    let one : length (rs ++ (r ∷ [])) ≡ length rs + 1 = length-append rs (r ∷ []) in
    let words_are = a.words-is in
    let turns_are = a.turns-is in
    record {
      turns-is = omega arith;
      words-is = omega arith;
      log_is = is ∙ rw (a.words-is, a.log_is) (log-more rs r log₀ (6 + length r.path) (words-length r));
      fits = omega arith;
    }

-- a tally is of the turns and words alone
pub tallied_so : {rs : List Record} {log₀ log : List ℕ} {t t' : Tariff} → t'.turns ≡ t.turns → t'.words ≡ t.words → Tallied rs log₀ t log → Tallied rs log₀ t' log
tallied_so Turns-same words_same a =
    record { turns-is = Turns-same ∙ a.turns-is; words-is = words_same ∙ a.words-is; log_is = a.log_is; fits = a.fits }

-- the words after the first records are those of the others
pub tallied-slice :
    (rs ss : List Record) (log₀ : List ℕ) (t : Tariff) (log : List ℕ) (first : ℕ) → Tallied (rs ++ ss) log₀ t log → first ≡ length (encode rs)
    → slice first t.words log ≡ encode ss
unfolding log_with
tallied-slice rs ss log₀ t log first a e =
    rw (
      a.words-is,
      a.log_is,
      take-append_seam (encode (rs ++ ss)) (drop (length (encode (rs ++ ss))) log₀),
      encode-append rs ss,
      e,
    )
    (drop-append_seam (encode rs) (encode ss))

-- ---- nodes of paths

pub below-append : (n : ℕ) (xs ys : List ℕ) → AllBelow n xs → AllBelow n ys → AllBelow n (xs ++ ys)
below-append n xs ys p q k l =
    let all = length-append xs ys in
    ⊎_elim
    (λ (h : length xs ≤ k).
    let d : ℕ = k - length xs in
    let at : k ≡ length xs + d = omega arith in
    rw (at, get_or-append-add xs ys d 0) (q d (omega arith)))
    (λ (h : k < length xs). rw (get_or-append xs ys 0 k h) (p k h))
    (le_or_lt (length xs) k)

pub paths-below : (n : ℕ) (rs : List Record) → All (λ r. AllBelow n r.path) rs → AllBelow n (path_nodes rs)
unfolding path_nodes
paths-below n [] h k l = absurd (not-suc-le-zero l)
paths-below n (r ∷ rs) h k l = below-append n r.path (path_nodes rs) h.0 (paths-below n rs h.1) k l

-- ---- a net that is not due keeps all as it is

pub idle_next : (j : Job) (s : State) (i : ℕ) → due j s i ≡ false → after_nets j s (i + 1) ≡ after_nets j s i
unfolding after_nets
idle_next j s i d = rw (add-one, d)
