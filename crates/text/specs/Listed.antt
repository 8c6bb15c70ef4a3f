-- Document 01, "Routes text", from the reader's side: which branches its B lines list, by the records of the log and the places
-- of their paths, and which nets request 2.3's J lines list, by table 5.
-- Assumes nothing.
use mathlib.Core.List.{List, [], ◌∷◌, ◌++◌, filter, flat_map, Memᴰ}
use Rattle.std.specs.Prelude.{◌≡◌, ℕ, suc, ◌-◌, ◌<◌, length, get_or}
use Rattle.std.proofs.Math.Decide.{ℕ_discrete}
use Rattle.price.specs.Lists.{up_to}
use Rattle.negotiation.specs.Records.{Record, decode}
use Rattle.negotiation.specs.Demand.{latest}
use Rattle.text.specs.Lines.{letter_r, letter_b, letter_j, taken, line, print_line}
use Rattle.text.specs.Routes.{Branch, Join, route_joins}

-- "`B,net,from,to`" and "`J,net,first` after the B lines": the lines of a text, read one after the other to its end as a job
-- text's are, give these branches and then these joined nets
pub data RouteLines : List ℕ → List Branch → List Join → Type 0 where
  ended : RouteLines [] [] []
  branch :
      {bytes rest : List ℕ} {b : Branch} {bs : List Branch} {ps : List Join}
      → line letter_b 3 bytes ≡ taken (b.net ∷ b.from ∷ b.to ∷ []) rest → RouteLines rest bs ps → RouteLines bytes (b ∷ bs) ps
  join :
      {bytes rest : List ℕ} {p : Join} {ps : List Join}
      → line letter_j 2 bytes ≡ taken (p.net ∷ p.first ∷ []) rest → RouteLines rest [] ps → RouteLines bytes [] (p ∷ ps)

-- step k of a record's path, from its node k to its node k + 1
unfoldable pub step_at : Record → ℕ → Branch
step_at r k = record { net = r.net; from = get_or r.path k 0; to = get_or r.path (suc k) 0 }

-- the steps of a record's path: one fewer than its nodes
unfoldable pub path_steps : Record → List Branch
path_steps r = up_to (step_at r) (length r.path - 1)

-- request 2.7: net i's "records of the latest iteration in which it has any", in log order
unfoldable pub latest_of : ℕ → List Record → List Record
latest_of i rs =
    filter (λ (r : Record). ℕ_discrete r.iteration (latest i rs)) (filter (λ (r : Record). ℕ_discrete r.net i) rs)

-- their path steps, of the first n nets in order, record after record
unfoldable pub steps_by_net : ℕ → List Record → List Branch
steps_by_net n rs = flat_map (λ (i : ℕ). flat_map path_steps (latest_of i rs)) (up_to (λ (i : ℕ). i) n)

-- "`R,iteration,turns` from the last record and the record count, then `B,net,from,to`"; request 2.7: "those of each net in
-- order, from its records of the latest iteration in which it has any"; and the J lines by net. The R line is said by its bytes: a
-- record count may have more digits than a field that is read
pub record Listed (sources log text : List ℕ) : Type 0 where
  pub earlier : List Record
  pub last : Record
  pub last-is : decode log ≡ earlier ++ (last ∷ [])
  pub rest : List ℕ
  pub text_is : text ≡ print_line letter_r (last.iteration ∷ length (decode log) ∷ []) ++ rest
  pub lines : RouteLines rest (steps_by_net (length sources) (decode log)) (route_joins sources)

-- a record of its net's latest iteration has the branch as a step of its path
pub record StepOf (rs : List Record) (b : Branch) : Type 0 where
  pub turn : Record
  pub logged : Memᴰ turn rs
  pub iteration-is : turn.iteration ≡ latest turn.net rs
  pub place : ℕ
  pub within : suc place < length turn.path
  pub branch-is : b ≡ step_at turn place

-- request 2.3: a net of table 5 that isn't the first of its source, with the one that is
pub record JoinOf (sources : List ℕ) (p : Join) : Type 0 where
  pub within : p.net < length sources
  pub earlier : p.first < p.net
  pub same_source : get_or sources p.first 0 ≡ get_or sources p.net 0
  pub none_before : (k : ℕ) → k < p.first → get_or sources k 0 ≡ get_or sources p.net 0 → ⊥
