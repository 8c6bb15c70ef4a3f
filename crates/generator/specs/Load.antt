-- Request 2.12: the job of a seed, a node count and a net count.
-- No draw is made again or left out, so each has its number among those of its part.
-- Assumes nothing.
use Rattle.std.specs.Prelude.{ℕ, zero, suc, ◌+◌, ◌-◌, ◌*◌, ◌/◌, Bool, not, List, [], ◌∷◌, ◌++◌, length, replicate, ◌==◌, nat_le, nat_lt}
use Rattle.price.specs.Test.{choose, both, either}
use Rattle.price.specs.Lists.{up_to}
use Rattle.job.specs.Job.{Job, job_of, plain_terms}
use Rattle.text.specs.Printed.{shortest, print_job}
use Rattle.generator.specs.Draws.{state_after, draw_at}

-- ---- nodes

-- "the first quarter, rounded down"
abbrev pub quarter : ℕ → ℕ
quarter n = n / 4

-- how many nodes stand between the quarters
abbrev pub wires : ℕ → ℕ
wires n = n - 2 * quarter n

-- "Nodes in the first quarter, rounded down, have kind 0, the last as many kind 1, the others, drawn first, kind 4 plus a draw of 12."
unfoldable pub load_kind : ℕ → ℕ → ℕ → ℕ
load_kind seed n v = choose (nat_lt v (quarter n)) 0 (choose (nat_le (n - quarter n) v) 1 (4 + draw_at seed (v - quarter n) 12))

-- ---- edges, from the state after the kinds' draws

abbrev pub rows_from : ℕ → ℕ → ℕ
rows_from seed n = state_after seed (wires n)

-- "Each node in order makes three draws of the node count"
unfoldable pub row_draw : ℕ → ℕ → ℕ → ℕ → ℕ
row_draw first n v k = draw_at first (3 * v + k) n

-- u is among three draws, and is not the node itself
abbrev pub drawn : ℕ → ℕ → ℕ → ℕ → ℕ → Bool
drawn v a b c u = both (not (u == v)) (either (u == a) (either (u == b) (u == c)))

-- the numbers below n that pass the test, rising
unfoldable pub passing : (ℕ → Bool) → ℕ → List ℕ
passing test zero = []
passing test (suc n) = passing test n ++ choose (test n) (n ∷ []) []

-- "itself and repeats are dropped, the rest sorted"
unfoldable pub load_row : ℕ → ℕ → ℕ → List ℕ
load_row first n v = passing (drawn v (row_draw first n v 0) (row_draw first n v 1) (row_draw first n v 2)) n

-- the rows of the nodes below u, one after the other
unfoldable pub load_rows : ℕ → ℕ → ℕ → List ℕ
load_rows first n zero = []
load_rows first n (suc u) = load_rows first n u ++ load_row first n u

-- ---- nets, from the state after the rows' draws

abbrev pub nets_from : ℕ → ℕ → ℕ
nets_from seed n = state_after (rows_from seed n) (3 * n)

-- "Each net then draws its source from the kind 0 nodes"
unfoldable pub load_source : ℕ → ℕ → ℕ → ℕ
load_source first n i = draw_at first (2 * i) (quarter n)

-- "and one sink from the kind 1 nodes"
unfoldable pub load_sink : ℕ → ℕ → ℕ → ℕ
load_sink first n i = n - quarter n + draw_at first (2 * i + 1) (quarter n)

-- ---- the job

-- "All capacities are 1." .. "The limit is 100." Without a W line it is untimed, so it has no tables 9 and 10
unfoldable pub load_job : ℕ → ℕ → ℕ → Job
load_job seed n nets =
    job_of (up_to (load_kind seed n) n) (replicate n 1)
    (up_to (λ u. length (load_rows (rows_from seed n) n u)) (n + 1)) (load_rows (rows_from seed n) n n)
    (up_to (load_source (nets_from seed n) n) nets) (up_to (λ i. i) (nets + 1)) (up_to (load_sink (nets_from seed n) n) nets)
    [] [] (plain_terms 100)

-- "prints the job's text": the shortest, since its terms are the plain ones
unfoldable pub load_text : ℕ → ℕ → ℕ → List ℕ
load_text seed n nets = print_job shortest (load_job seed n nets)
