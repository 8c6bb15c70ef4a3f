-- What the private functions that join nets do to their lists. Only their contracts cite this file: no caller has to believe it.
-- Assumes nothing.
use Rattle.std.specs.Prelude.{Bool, true, List, [], ◌++◌, ◌≡◌, ℕ, ◌+◌, ◌-◌, ◌≤◌, ◌<◌, eqb, length, get_or, take}
use Rattle.price.specs.Bounds.{nodes_most}
use Rattle.price.specs.Test.{choose}
use Rattle.price.specs.Lists.{has, up_to}
use Rattle.search.specs.Replies.{sinks_most}
use Rattle.job.specs.Job.{Job, nets, job_of, plain_terms}
use Rattle.job.specs.Join.{listed_places, entries_at, taking, places_before, joined}
use Rattle.job.specs.Steps.{AllBelow}
use Rattle.job.specs.Tables.{nets_most}

-- What joining asks of tables 5 to 7. A sound job's have it.
pub record Joinable (sources first_sinks sinks : List ℕ) : Type 0 where
  pub nets-few : length sources ≤ nets_most
  pub firsts-long : length first_sinks ≡ length sources + 1
  pub order : (i : ℕ) → i < length sources → get_or first_sinks i 0 ≤ get_or first_sinks (i + 1) 0
  pub end : (i : ℕ) → i ≤ length sources → get_or first_sinks i 0 ≤ length sinks
  pub sinks-few : length sinks ≤ sinks_most
  pub sinks-below : AllBelow nodes_most sinks

-- the tables as a job of no block, since places depend on these three tables alone
abbrev pub nets_only : List ℕ → List ℕ → List ℕ → Job
nets_only sources first_sinks sinks = job_of [] [] [] [] sources first_sinks sinks [] [] (plain_terms 1)

-- how many sinks net k lists
abbrev pub listed_count : List ℕ → ℕ → ℕ
listed_count first_sinks k = get_or first_sinks (k + 1) 0 - get_or first_sinks k 0

-- what net k adds to the places taken for a net: those it lists, where its source is that net's
abbrev pub with_listed : List ℕ → List ℕ → List ℕ → ℕ → ℕ → List ℕ → List ℕ
with_listed sources first_sinks sinks net k taken =
    choose (eqb (get_or sources k 0) (get_or sources net 0))
    (taking sinks taken (listed_places (nets_only sources first_sinks sinks) k)) taken

-- While a net takes places: those of the nets before it stand first, then its own, and a sink that stands at one of its own is stamped.
pub record PlacesTaken (stamp : ℕ) (sinks before taken seen places : List ℕ) (count : ℕ) : Type 0 where
  pub within : count ≤ length places
  pub placed : take count places ≡ before ++ taken
  pub stamped : (v : ℕ) → v < length seen → eqb (get_or seen v 0) stamp ≡ has v (entries_at sinks taken)
  pub stamps : (v : ℕ) → v < length seen → get_or seen v 0 ≤ stamp

-- the places of the first nets stand first, and no stamp is above the last of these nets'
pub record Placed (sources first_sinks sinks seen places : List ℕ) (net count : ℕ) : Type 0 where
  pub within : count ≤ length places
  pub placed : take count places ≡ places_before (nets_only sources first_sinks sinks) net
  pub stamps : (v : ℕ) → v < length seen → get_or seen v 0 ≤ net

-- the places of all nets, and where each net's begin
pub record JoinedPlaces (j : Job) (firsts places : List ℕ) (count : ℕ) : Type 0 where
  pub within : count ≤ length places
  pub placed : take count places ≡ places_before j (nets j)
  pub firsts_are : take (nets j + 1) firsts ≡ up_to (λ i. length (places_before j i)) (nets j + 1)

-- there is room for the stamps and the places
pub record JoinRoom (sinks seen places : List ℕ) : Type 0 where
  pub seen-room : nodes_most ≤ length seen
  pub places-room : length sinks ≤ length places

-- Tables 6 and 7 of the joined nets, in a timed job table 10 too: each stands at the front of its list. They depend on no other table.
pub record JoinedTables (sources first_sinks sinks criticalities : List ℕ) (timed : Bool) (firsts joint jointly : List ℕ) (count : ℕ)
    : Type 0 where
  pub few : count ≤ length sinks
  pub within : count ≤ length joint
  pub criticalities-within : count ≤ length jointly
  pub ends-within : length sources + 1 ≤ length firsts
  pub firsts_are : take (length sources + 1) firsts ≡ (joined (nets_only sources first_sinks sinks)).first_sinks
  pub sinks_are : take count joint ≡ (joined (nets_only sources first_sinks sinks)).sinks
  pub criticalities_are :
      timed ≡ true → take count jointly ≡ entries_at criticalities (places_before (nets_only sources first_sinks sinks) (length sources))
