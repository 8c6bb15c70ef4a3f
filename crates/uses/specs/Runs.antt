-- Request 2.11: what is proved of the uses, the counts and a run of calls that add logs.
-- Assumes nothing.
use Rattle.std.specs.Prelude.{true, List, [], ◌∷◌, ◌++◌, ◌≡◌, ℕ, ◌+◌, ◌≤◌, ◌<◌, leb, length, get_or, replicate}
use Rattle.price.specs.Test.{choose}
use Rattle.price.specs.Lists.{has, up_to, count_below}
use Rattle.search.specs.Block.{Block, nodes}
use Rattle.search.specs.Tables.{faulty_table}
use Rattle.job.specs.Tables.{nets_most}
use Rattle.negotiation.specs.Records.{Record, decode}
use Rattle.negotiation.specs.Demand.{tree_read}
use Rattle.uses.specs.Uses.{kind_count, logs_most, sum_below, uses_in, UseCounts, use_counts_of, counts_refusal, add_reply}

-- how many nodes the final tree of net i has
unfoldable pub tree_size : Block → List Record → ℕ → ℕ
tree_size b rs i = count_below (λ v. has v (tree_read i rs)) (nodes b)

-- the uses of a log sum to the size of its final trees
abbrev pub UsesSum : Block → List Record → Type 0
UsesSum b rs = sum_below (uses_in b rs) kind_count ≡ sum_below (tree_size b rs) nets_most

-- the sum of the counts' uses over all kinds
abbrev pub all_uses : UseCounts → ℕ
all_uses c = sum_below (λ k. get_or c.uses k 0) kind_count

-- the size of all final trees of a log
abbrev pub trees_size : Block → List ℕ → ℕ
trees_size b log = sum_below (tree_size b (decode log)) nets_most

-- each log that is added adds the size of its final trees to the sum
abbrev pub UsesGrow : Block → Type 0
UsesGrow b =
    (c : UseCounts) (log : List ℕ) → (add_reply b c log).refusal ≡ []
    → all_uses (add_reply b c log).counts ≡ all_uses c + trees_size b log

-- nothing is left out of these sums: a final tree of a log that is added has only nodes of the block, and only nets below 512 have one
abbrev pub TreesWithin : Block → Type 0
TreesWithin b =
    (c : UseCounts) (log : List ℕ) → (add_reply b c log).refusal ≡ []
    → (i v : ℕ) → has v (tree_read i (decode log)) ≡ true → (i < nets_most) × (v < nodes b)

-- "at first all 0"
abbrev pub no_counts : UseCounts
no_counts = use_counts_of (replicate kind_count 0) 0

-- the counts after calls that add these logs, "added one after another"
unfoldable pub after_calls : Block → UseCounts → List (List ℕ) → UseCounts
after_calls b c [] = c
after_calls b c (log ∷ more) = after_calls b (add_reply b c log).counts more

-- the size of the final trees of those of these logs that are added: "a refused log adds nothing"
unfoldable pub trees_added : Block → UseCounts → List (List ℕ) → ℕ
trees_added b c [] = 0
trees_added b c (log ∷ more) =
    choose (leb 1 (length (add_reply b c log).refusal)) 0 (trees_size b log) + trees_added b (add_reply b c log).counts more

-- "The uses sum to the total size of all final trees.": of the counts after any calls that begin with 0
abbrev pub UsesTotal : Block → Type 0
UsesTotal b = (logs : List (List ℕ)) → all_uses (after_calls b no_counts logs) ≡ trees_added b no_counts logs

-- none of these calls is refused
unfoldable pub Accepted : Block → UseCounts → List (List ℕ) → Type 0
Accepted b c [] = Unit {0}
Accepted b c (log ∷ more) = ((add_reply b c log).refusal ≡ []) × Accepted b (add_reply b c log).counts more

-- one order of logs and another
pub data Reordered : List (List ℕ) → List (List ℕ) → Type 0 where
  same : {xs : List (List ℕ)} → Reordered xs xs
  swap : {x y : List ℕ} {xs : List (List ℕ)} → Reordered (x ∷ y ∷ xs) (y ∷ x ∷ xs)
  under : {x : List ℕ} {xs ys : List (List ℕ)} → Reordered xs ys → Reordered (x ∷ xs) (x ∷ ys)
  through : {xs ys zs : List (List ℕ)} → Reordered xs ys → Reordered ys zs → Reordered xs zs

-- "The order of accepted logs doesn't matter.": in another order they are accepted too, and leave the same counts
abbrev pub OrderFree : Block → Type 0
OrderFree b =
    (c : UseCounts) (xs ys : List (List ℕ)) → Reordered xs ys → Accepted b c xs
    → Accepted b c ys × (after_calls b c xs ≡ after_calls b c ys)

-- the counts of two runs, added entry by entry, and their logs with them
unfoldable pub together : UseCounts → UseCounts → UseCounts
together c d = use_counts_of (up_to (λ k. get_or c.uses k 0 + get_or d.uses k 0) kind_count) (c.logs + d.logs)

-- a run may be made in parts: two runs that begin with 0 leave, together, what one run over the logs of both leaves, as long as they have
-- no more logs than counts may be of. Logs that are refused may be among them
abbrev pub PartsAddUp : Block → Type 0
PartsAddUp b =
    (xs ys : List (List ℕ)) → (after_calls b no_counts xs).logs + (after_calls b no_counts ys).logs ≤ logs_most
    → together (after_calls b no_counts xs) (after_calls b no_counts ys) ≡ after_calls b no_counts (xs ++ ys)

-- counts that pass 5 and 13 pass them after any log, added or refused
abbrev pub StaysWithin : Block → Type 0
StaysWithin b = (c : UseCounts) (log : List ℕ) → counts_refusal b c ≡ [] → counts_refusal b (add_reply b c log).counts ≡ []

-- so a run over a sound block that begins with 0 never meets 13
abbrev pub NeverOver : Block → Type 0
NeverOver b = (logs : List (List ℕ)) → faulty_table b ≡ 0 → counts_refusal b (after_calls b no_counts logs) ≡ []
