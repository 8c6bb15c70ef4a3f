-- Request 2.3: "all nets of one source are joined into the first of them, sinks in listed order, a sink seen already being left out".
-- Assumes nothing.
use Rattle.std.specs.Prelude.{Bool, List, [], ◌∷◌, ◌++◌, map, ℕ, zero, suc, ◌+◌, ◌-◌, eqb, length, get_or}
use Rattle.price.specs.Test.{choose}
use Rattle.price.specs.Lists.{has, up_to, place_of}
use Rattle.job.specs.Job.{Job, nets, source, if_timed}

-- of table 5: the first net of net i's source
unfoldable pub first_of : List ℕ → ℕ → ℕ
first_of sources i = place_of (get_or sources i 0) sources

-- net i is the first of its source
unfoldable pub leads : List ℕ → ℕ → Bool
leads sources i = eqb (first_of sources i) i

-- the places from `at` on, this many
unfoldable pub places_from : ℕ → ℕ → List ℕ
places_from at zero = []
places_from at (suc k) = at ∷ places_from (suc at) k

-- the places of table 7 at which net i lists its sinks
unfoldable pub listed_places : Job → ℕ → List ℕ
listed_places j i = places_from (get_or j.first_sinks i 0) (get_or j.first_sinks (i + 1) 0 - get_or j.first_sinks i 0)

-- the entries of a table at some places
abbrev pub entries_at : List ℕ → List ℕ → List ℕ
entries_at table places = map (λ p. get_or table p 0) places

-- "a sink seen already being left out": places are taken in turn, but for those whose sink stands at one that is taken already
unfoldable pub taking : List ℕ → List ℕ → List ℕ → List ℕ
taking sinks taken [] = taken
taking sinks taken (p ∷ ps) =
    taking sinks (choose (has (get_or sinks p 0) (entries_at sinks taken)) taken (taken ++ (p ∷ []))) ps

-- the places that the nets of net i's source list, of the first k nets, in listed order
unfoldable pub places_of_first : Job → ℕ → ℕ → List ℕ
places_of_first j i zero = []
places_of_first j i (suc k) =
    choose (eqb (source j k) (source j i)) (taking j.sinks (places_of_first j i k) (listed_places j k)) (places_of_first j i k)

-- "joined into the first of them": the first has the places of all, the others none
unfoldable pub joined_places : Job → ℕ → List ℕ
joined_places j i = choose (leads j.sources i) (places_of_first j i (nets j)) []

-- the places of the first k nets, one net after the other
unfoldable pub places_before : Job → ℕ → List ℕ
places_before j zero = []
places_before j (suc k) = places_before j k ++ joined_places j k

-- the job of joined nets: "The joined net routes under the first one's number", with the same sources; the others have no sinks. Request
-- 2.9: "After a join of nets under 2.3 the first listing's criticality counts."
abbrev pub joined : Job → Job
joined j =
    record {
      block = j.block;
      sources = j.sources;
      first_sinks = up_to (λ i. length (places_before j i)) (nets j + 1);
      sinks = entries_at j.sinks (places_before j (nets j));
      delays = j.delays;
      criticalities = if_timed j.terms (entries_at j.criticalities (places_before j (nets j)));
      terms = j.terms;
    }
