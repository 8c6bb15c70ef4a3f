-- The promises of requests 2.3 and 2.9 of joined nets, held for every sound job; that the joined job can be routed; where every sink has a path.
-- Assumes nothing.
use mathlib.Core.Bool.{true, false}
use mathlib.Core.List.{List, [], ◌∷◌}
use mathlib.Core.Logic.{⊎_elim}
use mathlib.Core.Path.{◌≡◌, refl, sym, ◌∙◌, ap, subst}
use Prim.Native.Nat.{ℕ, zero, suc, ◌+◌, ◌-◌, ◌≤◌, ◌<◌}
use native.Mathlib.Nat.{le_refl, le_trans}
use native.Mathlib.Numerals.{add-one}
use native.Mathlib.Omega.{arith}
use lib.ListN.{length, get_or, length-map, length-append, get_or-eq_default}
use lib.Seq.{slice, slice_empty, slice-cons}
use Rattle.price.specs.Bounds.{criticality_most}
use Rattle.price.specs.Lists.{neighbours, has, distinct, up_to}
use Rattle.price.proofs.TestLaws.{by_test, true≢false, le_or_lt}
use Rattle.price.proofs.ListLaws.{every-at, has-at, has_place, length_up_to, get_or_up_to}
use Rattle.search.specs.Paths.{Walk}
use Rattle.search.proofs.BlockLaws.{kinds-few}
use Rattle.search.proofs.DistinctLaws.{has_cons, has_first, has_rest, lacks}
use Rattle.job.specs.Job.{Job, nodes, nets, source, net_sinks}
use Rattle.job.specs.Join.{first_of, leads, places_from, listed_places, entries_at, places_of_first, joined_places, places_before, joined}
use Rattle.negotiation.specs.JoinSteps.{Joinable, listed_count}
use Rattle.negotiation.specs.JoinedNets.{JoinedNets}
use Rattle.negotiation.specs.Machine.{State, has_sinks, due}
use Rattle.negotiation.specs.Routable.{Routable, Timing}
use Rattle.job.specs.Tables.{SoundJob, exceeds, sink_kind, one_of, pins_of}
use Rattle.negotiation.specs.Unreachable.{AllReachable}
use Rattle.negotiation.proofs.DueLaws.{due-sinks}
use Rattle.negotiation.proofs.RoutableLaws.{nets-few, sinks-few, firsts_rise, no_source, routable_of}
use Rattle.job.proofs.JobLaws.{firsts-long, firsts-most}
use Rattle.job.proofs.FirstNetLaws.{first_below_lem, first_source, first_leads}
use Rattle.negotiation.proofs.JoinLaws.{ListedFor, joined-sinks, joined_for, first_once, first_rises, first_covers, before_more, places-few}
use Rattle.negotiation.proofs.FirstListedLaws.{first_listed, joined-criticalities}
use Rattle.negotiation.proofs.MemberLaws.{no_entry}
use Rattle.negotiation.proofs.TakingLaws.{from_has, entry_has}

-- ---- places and sinks

-- a part of a list, by its places
slice-entries : (a n : ℕ) (xs : List ℕ) → a + n ≤ length xs → slice a (a + n) xs ≡ entries_at xs (places_from a n)
unfolding places_from
slice-entries a zero xs h = let e : a + 0 ≡ a = omega arith in rw e (slice_empty a xs)
slice-entries a (suc n) xs h =
    let e : a + suc n ≡ suc a + n = omega arith in
    slice-cons a (a + suc n) xs 0 (omega arith) h ∙ ap (λ (l : List ℕ). get_or xs a 0 ∷ l) (rw e (slice-entries (suc a) n xs (omega arith)))

-- a sink stands at one of the places
entries_place : (sinks ps : List ℕ) (s : ℕ) → has s (entries_at sinks ps) ≡ true → (p : ℕ) × (has p ps ≡ true) × (get_or sinks p 0 ≡ s)
entries_place sinks [] s h = absurd (no_entry s h)
entries_place sinks (q ∷ qs) s h =
    ⊎_elim
    (λ (e : s ≡ get_or sinks q 0). (q, has_first q qs, sym e))
    (λ (r : has s (entries_at sinks qs) ≡ true). let at = entries_place sinks qs s r in (at.0, has_rest at.0 q qs at.1, at.2))
    (has_cons s (get_or sinks q 0) (entries_at sinks qs) h)

-- where no entry is above a bound, none at any place is, and none of those taken
low-all : (most : ℕ) (cs : List ℕ) → ((p : ℕ) → p < length cs → get_or cs p 0 ≤ most) → (p : ℕ) → get_or cs p 0 ≤ most
low-all most cs low p =
    ⊎_elim
    (λ (h : length cs ≤ p). rw (get_or-eq_default cs 0 {n = p} h) (omega arith))
    (λ (h : p < length cs). low p h)
    (le_or_lt (length cs) p)

entries-low : (most : ℕ) (cs : List ℕ) → ((p : ℕ) → get_or cs p 0 ≤ most) → (ps : List ℕ) (k : ℕ) → get_or (entries_at cs ps) k 0 ≤ most
entries-low most cs low [] k = omega arith
entries-low most cs low (p ∷ ps) zero = low p
entries-low most cs low (p ∷ ps) (suc k) = entries-low most cs low ps k

-- ---- first nets and others

module _ (j : Job) (i : ℕ) where
  joined-all : leads j.sources i ≡ true → joined_places j i ≡ places_of_first j i (nets j)
  unfolding joined_places
  joined-all q = rw q

  joined-none : leads j.sources i ≡ false → joined_places j i ≡ []
  unfolding joined_places
  joined-none q = rw q

  pub joined-others : i < nets j → leads j.sources i ≡ false → net_sinks (joined j) i ≡ []
  joined-others h q = joined-sinks j i h ∙ ap (entries_at j.sinks) (joined-none q)

  -- a net that has sinks is the first of its source, so every record of the joined job's run names such a net
  pub sinks_lead : i < nets j → has_sinks (joined j) i ≡ true → leads j.sources i ≡ true
  unfolding has_sinks
  sinks_lead h e =
      by_test (leads j.sources i)
      (λ q. q)
      (λ q. absurd (true≢false (sym e ∙ rw (joined-others h q) refl)))

  pub due-leads : (t : State) → i < nets j → due (joined j) t i ≡ true → leads j.sources i ≡ true
  due-leads t h e = sinks_lead h (due-sinks (joined j) t i e)

-- ---- a sound job

-- what has a sink's kind is a node
kind_node : (kinds : List ℕ) (v : ℕ) → sink_kind (get_or kinds v 0) ≡ true → v < length kinds
unfolding one_of
kind_node kinds v e =
    ⊎_elim
    (λ (h : length kinds ≤ v). absurd (true≢false (sym e ∙ rw (get_or-eq_default kinds 0 {n = v} h) refl)))
    (λ (h : v < length kinds). h)
    (le_or_lt (length kinds) v)

module _ (j : Job) (s : SoundJob j) where
  -- every entry of table 7 is a node
  sink-node : (p : ℕ) → p < length j.sinks → get_or j.sinks p 0 < nodes j
  unfolding pins_of
  sink-node p h =
      kind_node j.block.kinds (get_or j.sinks p 0) (every-at (λ v. sink_kind (get_or j.block.kinds v 0)) j.sinks s.sink_pins_lem p h)

  pub joinable_of : Joinable j.sources j.first_sinks j.sinks
  joinable_of =
      record {
        nets-few = nets-few j s;
        firsts-long = firsts-long _ _ _ s.first_sinks_sound_lem;
        order = λ i h. let l = firsts_rise j s i h in omega (arith, l);
        end = λ i h. firsts-most _ _ _ s.first_sinks_sound_lem i h;
        sinks-few = sinks-few j s;
        sinks-below = λ p h. le_trans (sink-node p h) (kinds-few j.block.kinds s.block-sound.kinds_sound_lem);
      }

  -- a net's sinks, by their places
  net-entries : (k : ℕ) → k < nets j → net_sinks j k ≡ entries_at j.sinks (listed_places j k)
  unfolding net_sinks listed_places
  net-entries k h =
      let from = get_or j.first_sinks k 0 in
      let to = get_or j.first_sinks (k + 1) 0 in
      let order : from ≤ to = joinable_of.order k h in
      let end : to ≤ length j.sinks = joinable_of.end (k + 1) (omega arith) in
      let e : from + (to - from) ≡ to = omega arith in
      rw e at (slice-entries from (to - from) j.sinks (omega arith))

  listed-sink : {i p : ℕ} (l : ListedFor j i (nets j) p) → has (get_or j.sinks p 0) (net_sinks j l.net) ≡ true
  unfolding listed_places
  listed-sink {i} {p} l =
      rw (net-entries l.net l.below)
      (entry_has j.sinks (listed_places j l.net) p
      (from_has p (get_or j.first_sinks l.net 0) (listed_count j.first_sinks l.net) l.low (let high = l.high in let low = l.low in omega arith)))

  -- ---- the promises

  only_listed :
      (i t : ℕ) → i < nets j → has t (net_sinks (joined j) i) ≡ true
      → (k : ℕ) × (k < nets j) × (source j k ≡ source j i) × (has t (net_sinks j k) ≡ true)
  only_listed i t h m =
      let at = entries_place j.sinks (joined_places j i) t (rw (joined-sinks j i h) at m) in
      let l = (joined_for j joinable_of i at.0 at.1).1 in
      (l.net, l.below, l.same, subst (λ (x : ℕ). has x (net_sinks j l.net) ≡ true) at.2 (listed-sink l))

  pub joined-nets : JoinedNets j
  unfolding neighbours distinct
  joined-nets =
      record {
        listed = λ k t h m.
            let i = first_of j.sources k in
            rw (joined-sinks j i (first_below_lem j.sources k h), joined-all j i (first_leads j.sources k h))
            (first_covers j joinable_of i (nets j) k t h (sym (first_source j.sources k h)) (rw (net-entries k h) at m));
        others = joined-others j;
        only = only_listed;
        sinks-at = joined-sinks j;
        in_order = λ i h.
            by_test (leads j.sources i)
            (λ q. rw (joined-all j i q) (first_rises j joinable_of i (nets j) (le_refl (nets j))))
            (λ q. rw (joined-none j i q));
        once = λ i h.
            by_test (leads j.sources i)
            (λ q. rw (joined-sinks j i h, joined-all j i q) (first_once j joinable_of i (nets j)))
            (λ q. rw (joined-others j i h q));
        criticalities-at = joined-criticalities j;
        first_listed = first_listed j joinable_of;
      }

  -- ---- the joined job can be routed

  pub joined_no_source : (i : ℕ) → i < nets j → has (source j i) (net_sinks (joined j) i) ≡ false
  joined_no_source i h =
      lacks (source j i) (net_sinks (joined j) i)
      (λ m.
      let o = only_listed i (source j i) h m in
      true≢false (sym (subst (λ (v : ℕ). has v (net_sinks j o.0) ≡ true) (sym o.2) o.3) ∙ no_source j s o.0 o.1))

  -- a timed job's criticalities are taken from the same places as its sinks
  joined-timing : exceeds (nodes j) j.terms ≡ false → j.terms.timed ≡ true → Timing (joined j)
  joined-timing fits timed =
      let r = (routable_of j s fits).timing timed in
      let places : List ℕ = places_before j (nets j) in
      let cs : List ℕ = j.criticalities in
      let here : (joined j).criticalities ≡ entries_at cs places = rw timed in
      record {
        delays-long = r.delays-long;
        delay_most_lem = r.delay_most_lem;
        criticalities-long =
            ap length here ∙ length-map places (λ p. get_or cs p 0) ∙ sym (length-map places (λ p. get_or j.sinks p 0));
        criticality_most_lem =
            λ p h. rw here (entries-low criticality_most cs (low-all criticality_most cs (λ q l. r.criticality_most_lem q (rw r.criticalities-long at l))) places p);
        nodes-few = r.nodes-few;
        limit_low = r.limit_low;
      }

  pub joined-routable : exceeds (nodes j) j.terms ≡ false → Routable (joined j)
  unfolding places_before
  joined-routable fits =
      let r = routable_of j s fits in
      let count : (ℕ → ℕ) = λ i. length (places_before j i) in
      let begin : ((i : ℕ) → i ≤ nets j → get_or (up_to count (nets j + 1)) i 0 ≡ count i) =
      λ i h. get_or_up_to count (nets j + 1) i 0 (omega arith) in
      let all : length (entries_at j.sinks (places_before j (nets j))) ≡ count (nets j) = length-map (places_before j (nets j)) (λ p. get_or j.sinks p 0) in
      record {
        block-sound = r.block-sound;
        nets-few = r.nets-few;
        source-node = r.source-node;
        first_sinks-long = length_up_to count (nets j + 1);
        sinks-order = λ i h.
            let grows : count (i + 1) ≡ count i + length (joined_places j i) = rw add-one (length-append (places_before j i) (joined_places j i)) in
            rw (begin i (omega arith), begin (i + 1) (omega arith)) (omega arith);
        sinks-end = λ i h.
            let more = before_more j i (nets j) h in
            let grows : count (nets j) ≡ count i + length more.0 = ap length more.1 ∙ length-append (places_before j i) more.0 in
            rw (begin i h, all) (omega arith);
        sinks-few = rw all (le_trans (places-few j joinable_of (nets j)) r.sinks-few);
        sink-node = λ i h k l.
            let o = only_listed i (get_or (net_sinks (joined j) i) k 0) h (has-at (net_sinks (joined j) i) k l) in
            let at = has_place (get_or (net_sinks (joined j) i) k 0) (net_sinks j o.0) o.3 in
            subst (λ (v : ℕ). v < nodes j) at.2 (r.sink-node o.0 o.1 at.0 at.1);
        source_no_sink = joined_no_source;
        limit_some = r.limit_some;
        limit_few = r.limit_few;
        tuning_sound_lem = r.tuning_sound_lem;
        until_some = r.until_some;
        timing = joined-timing fits;
      }

  -- where every listed sink has a path, every sink of a joined net has one
  pub joined_reachable : AllReachable j → AllReachable (joined j)
  joined_reachable all i t h m =
      let o = only_listed i t h m in
      let way = all o.0 t o.1 o.3 in
      (way.0, subst (λ (v : ℕ). Walk j.block v way.0 t) o.2 way.1)
