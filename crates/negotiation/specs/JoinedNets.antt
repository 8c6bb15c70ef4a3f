-- What requests 2.3 and 2.9 promise of joined nets, so that no one has to read how they are made.
-- Assumes nothing.
use Rattle.std.specs.Prelude.{true, false, [], ◌≡◌, ℕ, ◌≤◌, ◌<◌, ltb, get_or}
use Rattle.price.specs.Lists.{has, distinct, neighbours}
use Rattle.job.specs.Job.{Job, nets, source, net_sinks, net_criticalities}
use Rattle.job.specs.Join.{first_of, leads, listed_places, entries_at, joined_places, joined}

-- of a sound job
pub record JoinedNets (j : Job) : Type 0 where
  -- "all nets of one source are joined into the first of them": every listed sink is one of the first net of its source,
  pub listed : (k s : ℕ) → k < nets j → has s (net_sinks j k) ≡ true → has s (net_sinks (joined j) (first_of j.sources k)) ≡ true
  -- a net that is not the first has none, and the first has only those that nets of its source list
  pub others : (i : ℕ) → i < nets j → leads j.sources i ≡ false → net_sinks (joined j) i ≡ []
  pub only :
      (i s : ℕ) → i < nets j → has s (net_sinks (joined j) i) ≡ true
      → (k : ℕ) × (k < nets j) × (source j k ≡ source j i) × (has s (net_sinks j k) ≡ true)
  -- "sinks in listed order": they stand at rising places of table 7
  pub sinks-at : (i : ℕ) → i < nets j → net_sinks (joined j) i ≡ entries_at j.sinks (joined_places j i)
  pub in_order : (i : ℕ) → i < nets j → neighbours ltb (joined_places j i) ≡ true
  -- "a sink seen already being left out"
  pub once : (i : ℕ) → i < nets j → distinct (net_sinks (joined j) i) ≡ true
  -- "the first listing's criticality counts": a timed job's criticalities stand at the same places of table 10, and no net of the source
  -- lists the sink at an earlier place
  pub criticalities-at :
      (i : ℕ) → i < nets j → j.terms.timed ≡ true → net_criticalities (joined j) i ≡ entries_at j.criticalities (joined_places j i)
  pub first_listed :
      (i k p q : ℕ) → k < nets j → source j k ≡ source j i → has p (listed_places j k) ≡ true → has q (joined_places j i) ≡ true
      → get_or j.sinks p 0 ≡ get_or j.sinks q 0 → q ≤ p
