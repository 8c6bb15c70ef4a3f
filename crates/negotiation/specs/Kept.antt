-- Where a run stands: a progress, the lists that keep its state, and the tariff that counts its records. The progress is no value of the
-- code. Only contracts of private functions cite this file: no caller has to believe it.
-- Assumes nothing.
use Rattle.std.specs.Prelude.{List, ◌++◌, ◌≡◌, ℕ, ◌+◌, ◌*◌, ◌≤◌, ◌<◌, length, get_or, replicate}
use Rattle.price.specs.Bounds.{factor_most, history_gain}
use Rattle.price.specs.Lists.{has, up_to}
use Rattle.job.specs.Job.{Job, nodes, nets}
use Rattle.negotiation.specs.Records.{Record, encode, path_nodes}
use Rattle.negotiation.specs.Machine.{State, Progress, tree_at, users_of}
use Rattle.negotiation.specs.Outcome.{log_with}
use Rattle.negotiation.specs.Runs.{Ran}
use Rattle.job.specs.Steps.{AllBelow}
use Rattle.negotiation.specs.declared.tariff.Tariff.{Tariff}

-- ---- where the trees stand

-- a tree stands in the log between two places: the words of some of the records, whose nodes are the tree's. An empty tree has none
pub record TreeWords (j : Job) (rs : List Record) (tree : List ℕ) (from to : ℕ) : Type 0 where
  pub earlier : List Record
  pub own : List Record
  pub later : List Record
  pub is : rs ≡ earlier ++ (own ++ later)
  pub from_is : from ≡ length (encode earlier)
  pub to_is : to ≡ length (encode (earlier ++ own))
  pub below : AllBelow (nodes j) (path_nodes own)
  pub tree_is : (v : ℕ) → has v (path_nodes own) ≡ has v tree

-- every net's tree does, between its own two places
pub record Places (j : Job) (p : Progress) (from to : List ℕ) : Type 0 where
  pub from_long : length from ≡ nets j
  pub to-long : length to ≡ nets j
  pub words : (k : ℕ) → k < nets j → TreeWords j p.records (tree_at p.state.trees k) (get_or from k 0) (get_or to k 0)

-- ---- lists and tariff

-- between two nets the lists are the state's, and no node is marked
pub record Kept (j : Job) (p : Progress) (history users marks from to : List ℕ) : Type 0 where
  pub history_is : history ≡ p.state.histories
  pub users-is : users ≡ up_to (users_of j p.state.trees) (nodes j)
  pub no_marks : marks ≡ replicate (nodes j) 0
  pub places : Places j p from to

-- the tariff counts these records, and they stand in the log
pub record Tallied (rs : List Record) (log₀ : List ℕ) (t : Tariff) (log : List ℕ) : Type 0 where
  pub turns-is : t.turns ≡ length rs
  pub words-is : t.words ≡ length (encode rs)
  pub log_is : log ≡ log_with rs log₀
  pub fits : length (encode rs) ≤ length log₀

-- ---- where a run goes on

-- factor and histories after m whole iterations: what they have grown by at most
pub record Grown (j : Job) (s : State) (m : ℕ) : Type 0 where
  pub long : length s.histories ≡ nodes j
  pub least : (v : ℕ) → v < nodes j → 1 ≤ get_or s.histories v 0
  pub most : (v : ℕ) → v < nodes j → get_or s.histories v 0 ≤ 1 + m * history_gain
  pub factor_most_lem : s.factor ≤ factor_most

-- so many whole iterations are made, fewer than the limit
pub record CanGoOn (j : Job) (p : Progress) : Type 0 where
  pub made : ℕ
  pub below : made < j.terms.limit
  pub iteration-is : p.state.iteration ≡ made + 1
  pub grown : Grown j p.state made
  pub trees-long : length p.state.trees ≡ nets j

-- the lists, the tariff and the log are those of a run that goes on from p
pub record Ready (j : Job) (p : Progress) (t : Tariff) (history users marks from to dues log : List ℕ) : Type 0 where
  pub can : CanGoOn j p
  pub iteration-is : t.iteration ≡ p.state.iteration
  pub factor-is : t.factor ≡ p.state.factor
  pub kept : Kept j p history users marks from to
  pub due-long : length dues ≡ nets j
  pub tallied : Tallied p.records log t log

-- they are those of some run of whole iterations, and no nodes are counted yet
pub record SomeReady (j : Job) (t : Tariff) (history users marks from to dues log : List ℕ) : Type 0 where
  pub progress : Progress
  pub ready : Ready j progress t history users marks from to dues log
  pub iterations : ℕ
  pub ran : Ran j iterations progress.records progress.state
  pub none-expanded : t.expanded ≡ 0
