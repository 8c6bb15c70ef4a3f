-- What the contracts of private functions say.
-- Assumes nothing.
use Rattle.std.specs.Prelude.{Bool, List, [], ◌∷◌, ℕ, ◌+◌, ◌*◌, ◌^◌, ◌≤◌, ◌<◌, ltb, get_or, Result, Ok, Err}
use Rattle.price.specs.Lists.{up_to}
use Rattle.job.specs.Tables.{nets_most}
use Rattle.negotiation.specs.Records.{Record}
use Rattle.text.specs.Lines.{print_line}
use Rattle.text.specs.Users.{nets_with}
use Rattle.uses.specs.Uses.{kind_count, letter_u, over_kind}
use Rattle.uses.specs.declared.counts.CountsRefusal.{CountsRefusal}
use Rattle.uses.specs.declared.counts.CountsRefusal.TheVariants as t
use Rattle.uses.specs.declared.AddRefusal.{AddRefusal}
use Rattle.uses.specs.declared.AddRefusal.TheVariants as a
use Rattle.uses.specs.declared.PrintRefusal.{PrintRefusal}
use Rattle.uses.specs.declared.PrintRefusal.TheVariants as p

-- ---- sums by kind

-- the sums with the weights of all nodes added, each under its node's kind
unfoldable pub tallied : List ℕ → List ℕ → List ℕ → List ℕ
tallied kinds weights sums = up_to (λ k. get_or sums k 0 + over_kind kinds (λ v. get_or weights v 0) k) kind_count

-- counts that pass 13 are below it, as 512 × 65,535 × 4,096 is; what a log adds to one this large leaves it far below 2^64
abbrev pub count_most : ℕ
count_most = 10 ^ 12

-- every kind's number is at most so large
abbrev pub AtMost : ℕ → List ℕ → Type 0
AtMost most xs = (k : ℕ) → k < kind_count → get_or xs k 0 ≤ most

-- ---- the counts' test

abbrev pub test_refusal : Result (Unit {0}) CountsRefusal → List ℕ
test_refusal (Ok _) = []
test_refusal (Err (t.BadTable table)) = 5 ∷ table ∷ []
test_refusal (Err (t.BadCount kind)) = 13 ∷ kind ∷ []

-- the same refusal by each call
abbrev pub add_due : CountsRefusal → AddRefusal
add_due (t.BadTable table) = a.BadTable table
add_due (t.BadCount kind) = a.BadCount kind

abbrev pub print_due : CountsRefusal → PrintRefusal
print_due (t.BadTable table) = p.BadTable table
print_due (t.BadCount kind) = p.BadCount kind

-- `too_many` with the kinds' nodes as a list
abbrev pub over_nodes : List ℕ → List ℕ → ℕ → ℕ → Bool
over_nodes uses nodes logs k = ltb (nets_most * logs * get_or nodes k 0) (get_or uses k 0)

-- ---- lines

-- a kind's line, from its uses and its total capacity
abbrev pub total_line : List ℕ → List ℕ → ℕ → ℕ → List ℕ
total_line uses totals logs k = print_line letter_u (k ∷ get_or uses k 0 ∷ get_or totals k 0 * logs ∷ [])

-- ---- a log's uses

-- the uses with those of a log
unfoldable pub log_added : List ℕ → List ℕ → List Record → List ℕ
log_added kinds uses rs = up_to (λ k. get_or uses k 0 + over_kind kinds (nets_with rs) k) kind_count
