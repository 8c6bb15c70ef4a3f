-- Laws of the loops that join nets, one net after the other, and of the tables that they make.
-- Assumes nothing.
use mathlib.Core.Bool.{Bool, true, false}
use mathlib.Core.List.{List, [], append-nil}
use mathlib.Core.Path.{◌≡◌, refl, sym, ◌∙◌, ap, fun_ext}
use Prim.Native.Nat.{ℕ, zero, suc, ◌+◌, ◌≤◌, ◌<◌, zero-le}
use native.Mathlib.Nat.{le_refl}
use native.Mathlib.Numerals.{add-one}
use native.Mathlib.Omega.{arith}
use lib.ListN.{length, get_or, take, set, replicate, length-set, length-append, length-replicate}
use lib.Seq.{ext_get_or, get_or-set_same, get_or-set_other, get_or-take, length-take-le}
use borrow.Author.Count.{below_none, below_more}
use borrow.Author.Tests.{eq-eqb, ne_eqb}
use Rattle.price.specs.Bounds.{nodes_most}
use Rattle.price.specs.Lists.{has, up_to}
use Rattle.price.proofs.TestLaws.{by_test}
use Rattle.price.proofs.ListLaws.{has-at, length_up_to, get_or_up_to}
use Rattle.search.specs.Replies.{sinks_most}
use Rattle.job.specs.declared.Terms.{Terms}
use Rattle.job.specs.Job.{Job, if_timed, job_of}
use Rattle.job.specs.Join.{first_of, leads, places_from, listed_places, entries_at, taking, places_of_first, joined_places, places_before, joined}
use Rattle.negotiation.specs.JoinSteps.{Joinable, JoinRoom, nets_only, listed_count, with_listed, PlacesTaken, Placed, JoinedPlaces, JoinedTables}
use Rattle.job.specs.Steps.{AllBelow}
use Rattle.negotiation.proofs.JoinLaws.{none_before, places-few, before_below, taking-room}
use Rattle.job.proofs.SinkMarkLaws.{unmarked_new}

-- ---- a net more

module _ (sources first_sinks : List ℕ) (net k : ℕ) {sinks before seen places : List ℕ} (taken : List ℕ) {count : ℕ} where
  -- net k has another source
  pub has-taken_other : (get_or sources k 0 ≡ get_or sources net 0 → ⊥) → PlacesTaken (net + 1) sinks before taken seen places count → PlacesTaken (net + 1) sinks before (with_listed sources first_sinks sinks net k taken) seen places count
  has-taken_other n has-taken = rw (ne_eqb (get_or sources k 0) (get_or sources net 0) n) has-taken

  -- net k has the source
  pub has-taken-listed :
      get_or sources k 0 ≡ get_or sources net 0
      → PlacesTaken (net + 1) sinks before (taking sinks taken (places_from (get_or first_sinks k 0) (listed_count first_sinks k))) seen places count → PlacesTaken (net + 1) sinks before (with_listed sources first_sinks sinks net k taken) seen places count
  unfolding listed_places
  has-taken-listed e has-taken = rw (eq-eqb (get_or sources k 0) (get_or sources net 0) e) has-taken

-- so many places are taken
has-taken-count : {stamp : ℕ} {sinks before taken seen places : List ℕ} {count : ℕ} → PlacesTaken stamp sinks before taken seen places count → length before + length taken ≡ count
has-taken-count {before} {taken} {places} {count} has-taken =
    sym (length-append before taken) ∙ ap length (sym has-taken.placed) ∙ length-take-le count places has-taken.within

-- ---- all nets of a source

-- The loop over the nets: the places of net `net`'s source, of the first k nets, are taken.
pub record TakingNets (sources first_sinks sinks : List ℕ) (net : ℕ) (seen₀ places₀ seen places : List ℕ) (count k : ℕ) : Type 0 where
  pub high : k ≤ length sources
  pub seen-long : length seen ≡ length seen₀
  pub places-long : length places ≡ length places₀
  pub lead : leads sources net ≡ true
  pub has-taken :
      PlacesTaken (net + 1) sinks (places_before (nets_only sources first_sinks sinks) net) (places_of_first (nets_only sources first_sinks sinks) net k) seen places count

-- the code's test of the first net
pub is_first : (sources : List ℕ) (net first : ℕ) → first ≡ first_of sources net → first ≡ net → leads sources net ≡ true
unfolding leads
is_first sources net first e f = eq-eqb (first_of sources net) net (sym e ∙ f)

pub not_first : (sources : List ℕ) (net first : ℕ) → first ≡ first_of sources net → (first ≡ net → ⊥) → leads sources net ≡ false
unfolding leads
not_first sources net first e n = ne_eqb (first_of sources net) net (λ q. n (e ∙ q))

module _ {sources first_sinks sinks : List ℕ} {net : ℕ} where
  module _ {seen places : List ℕ} {start : ℕ} (p : Placed sources first_sinks sinks seen places net start) where
    -- a first net begins with itself
    pub nets-none : net < length sources → leads sources net ≡ true → TakingNets sources first_sinks sinks net seen places seen places start net
    unfolding has
    nets-none h lead =
        let before = places_before (nets_only sources first_sinks sinks) net in
        let has-taken : PlacesTaken (net + 1) sinks before [] seen places start =
        record {
          within = p.within;
          placed = p.placed ∙ sym (append-nil before);
          stamped = λ v l. ne_eqb (get_or seen v 0) (net + 1) (λ e. let most = p.stamps v l in omega arith);
          stamps = λ v l. let most = p.stamps v l in omega arith;
        } in
        record {
          high = omega arith;
          seen-long = refl;
          places-long = refl;
          lead = lead;
          has-taken = rw (none_before (nets_only sources first_sinks sinks) net h lead net (le_refl net)) has-taken;
        }

    -- a net that is not the first takes none
    pub placed_other : leads sources net ≡ false → Placed sources first_sinks sinks seen places (net + 1) start
    unfolding places_before joined_places
    placed_other q =
        record {
          within = p.within;
          placed = p.placed ∙ rw (add-one, q) (sym (append-nil (places_before (nets_only sources first_sinks sinks) net)));
          stamps = λ v h. let most = p.stamps v h in omega arith;
        }

  module _ {seen₀ places₀ seen places : List ℕ} {count k : ℕ} (t : TakingNets sources first_sinks sinks net seen₀ places₀ seen places count k) where
    pub room-kept : JoinRoom sinks seen₀ places₀ → JoinRoom sinks seen places
    room-kept room =
        record {
          seen-room = omega (arith, room.seen-room, t.seen-long);
          places-room = omega (arith, room.places-room, t.places-long);
        }

    -- there is room for the places of the next net
    pub nets-room : Joinable sources first_sinks sinks → JoinRoom sinks seen₀ places₀ → k < length sources → get_or sources k 0 ≡ get_or sources net 0 → count + listed_count first_sinks k ≤ length places
    nets-room tables room h e =
        let count-is = has-taken-count t.has-taken in
        let few = taking-room (nets_only sources first_sinks sinks) tables net k t.lead h e in
        omega (arith, room.places-room, t.places-long)

    pub nets-more :
        {seen' places' : List ℕ} {count' : ℕ} → k < length sources → length seen' ≡ length seen → length places' ≡ length places
        → ((before taken : List ℕ) → PlacesTaken (net + 1) sinks before taken seen places count
        → PlacesTaken (net + 1) sinks before (with_listed sources first_sinks sinks net k taken) seen' places' count')
        → TakingNets sources first_sinks sinks net seen₀ places₀ seen' places' count' (k + 1)
    unfolding places_of_first
    nets-more h seen_same places_same goes =
        record {
          high = omega arith;
          seen-long = seen_same ∙ t.seen-long;
          places-long = places_same ∙ t.places-long;
          lead = t.lead;
          has-taken = rw (add-one k) (goes _ _ t.has-taken);
        }

    pub nets-all : length sources ≤ k → Placed sources first_sinks sinks seen places (net + 1) count
    unfolding places_before joined_places
    nets-all end =
        let e : k ≡ length sources = omega (arith, t.high) in
        record {
          within = t.has-taken.within;
          placed = rw (add-one, t.lead, ← e) t.has-taken.placed;
          stamps = t.has-taken.stamps;
        }

-- ---- all nets

-- The loop over all nets: the places of those passed stand first, and each net's begin where its entry says.
pub record Joining (sources first_sinks sinks firsts₀ places₀ firsts places seen : List ℕ) (count net : ℕ) : Type 0 where
  pub high : net ≤ length sources
  pub firsts-long : length firsts ≡ length firsts₀
  pub places-long : length places ≡ length places₀
  pub seen-long : length seen ≡ nodes_most
  pub begins : (i : ℕ) → i < net → get_or firsts i 0 ≡ length (places_before (nets_only sources first_sinks sinks) i)
  pub places_of : Placed sources first_sinks sinks seen places net count

placed-count : {sources first_sinks sinks seen places : List ℕ} {net count : ℕ} → Placed sources first_sinks sinks seen places net count → count ≡ length (places_before (nets_only sources first_sinks sinks) net)
placed-count {places} {count} p = sym (length-take-le count places p.within) ∙ ap length p.placed

pub joining_none : (sources first_sinks sinks firsts places : List ℕ) → Joining sources first_sinks sinks firsts places firsts places (replicate nodes_most 0) 0 0
unfolding places_before
joining_none sources first_sinks sinks firsts places =
    record {
      high = zero-le;
      firsts-long = refl;
      places-long = refl;
      seen-long = length-replicate {A = ℕ} nodes_most 0;
      begins = below_none _;
      places_of =
          record {
            within = zero-le;
            placed = refl;
            stamps = λ v h. let none = unmarked_new nodes_most v in omega arith;
          };
    }

module _ {sources first_sinks sinks firsts₀ places₀ firsts places seen : List ℕ} {count net : ℕ} (j : Joining sources first_sinks sinks firsts₀ places₀ firsts places seen count net) where
  -- the count fits an entry of table 6
  pub joining_few : Joinable sources first_sinks sinks → count ≤ sinks_most
  joining_few tables =
      let count-is = placed-count j.places_of in
      let few = places-few (nets_only sources first_sinks sinks) tables net in
      omega (arith, tables.sinks-few)

  pub joining_room : length sinks ≤ length places₀ → JoinRoom sinks seen places
  joining_room room = record { seen-room = omega (arith, j.seen-long); places-room = omega (arith, j.places-long) }

  -- where the net's places begin is stored
  begins-more : net < length firsts → (i : ℕ) → i < net + 1 → get_or (set firsts net count) i 0 ≡ length (places_before (nets_only sources first_sinks sinks) i)
  begins-more h =
      below_more _ net
      (λ i l. get_or-set_other firsts net i count 0 (λ e. let z : i ≡ net = e in omega arith) ∙ j.begins i l)
      (get_or-set_same firsts net count 0 h ∙ placed-count j.places_of)

  pub joining_more :
      {places' seen' : List ℕ} {count' : ℕ} → net < length sources → length sources + 1 ≤ length firsts₀
      → length places' ≡ length places → length seen' ≡ length seen → Placed sources first_sinks sinks seen' places' (net + 1) count'
      → Joining sources first_sinks sinks firsts₀ places₀ (set firsts net count) places' seen' count' (net + 1)
  joining_more h long places_same seen_same p =
      record {
        high = omega arith;
        firsts-long = length-set firsts net count ∙ j.firsts-long;
        places-long = places_same ∙ j.places-long;
        seen-long = seen_same ∙ j.seen-long;
        begins = begins-more (omega (arith, j.firsts-long));
        places_of = p;
      }

  pub joining_all : length sources ≤ net → length sources + 1 ≤ length firsts₀ → JoinedPlaces (nets_only sources first_sinks sinks) (set firsts net count) places count
  joining_all end long =
      let e : net ≡ length sources = omega (arith, j.high) in
      let n = length sources + 1 in
      let begin : (ℕ → ℕ) = λ i. length (places_before (nets_only sources first_sinks sinks) i) in
      let all : length (take n (set firsts net count)) ≡ n =
      length-take-le n (set firsts net count) (rw (length-set firsts net count, j.firsts-long) long) in
      record {
        within = j.places_of.within;
        placed = rw e at j.places_of.placed;
        firsts_are =
            ext_get_or 0 (take n (set firsts net count)) (up_to begin n) (all ∙ sym (length_up_to begin n))
            (λ i l.
            get_or-take n (set firsts net count) i 0 (omega arith) ∙ begins-more (omega (arith, j.firsts-long)) i (omega arith)
            ∙ sym (get_or_up_to begin n i 0 (omega arith)));
      }

-- ---- the tables

-- places depend on tables 5 to 7 alone
module _ (j k : Job) (five : j.sources ≡ k.sources) (six : j.first_sinks ≡ k.first_sinks) (seven : j.sinks ≡ k.sinks) where
  first_same : (i n : ℕ) → places_of_first j i n ≡ places_of_first k i n
  unfolding places_of_first listed_places
  first_same i zero = refl
  first_same i (suc n) = rw (first_same i n, five, six, seven)

  pub places_same : (n : ℕ) → places_before j n ≡ places_before k n
  unfolding places_before joined_places
  places_same zero = refl
  places_same (suc n) = rw (places_same n, first_same n (length j.sources), five)

module _ {sources first_sinks sinks firsts places : List ℕ} {count : ℕ} (tables : Joinable sources first_sinks sinks) (j : JoinedPlaces (nets_only sources first_sinks sinks) firsts places count) where
  pub count-few : count ≤ length sinks
  count-few =
      let count-is : count ≡ length (places_before (nets_only sources first_sinks sinks) (length sources)) =
      sym (length-take-le count places j.within) ∙ ap length j.placed in
      let few = places-few (nets_only sources first_sinks sinks) tables (length sources) in
      omega arith

  pub places-below : AllBelow (length sinks) (take count places)
  places-below =
      rw j.placed
      (λ i h. before_below (nets_only sources first_sinks sinks) tables (length sources) _ (has-at (places_before (nets_only sources first_sinks sinks) (length sources)) i h))

  pub tables_joined :
      {criticalities joint jointly : List ℕ} {timed : Bool} → count ≤ length joint → count ≤ length jointly → length sources + 1 ≤ length firsts
      → take count joint ≡ entries_at sinks (take count places) → (timed ≡ true → take count jointly ≡ entries_at criticalities (take count places))
      → JoinedTables sources first_sinks sinks criticalities timed firsts joint jointly count
  tables_joined {criticalities} room room-too ends e e-too =
      record {
        few = count-few;
        within = room;
        criticalities-within = room-too;
        ends-within = ends;
        firsts_are = j.firsts_are;
        sinks_are = e ∙ ap (entries_at sinks) j.placed;
        criticalities_are = λ t. e-too t ∙ ap (entries_at criticalities) j.placed;
      }

-- a table that timed jobs alone have
pub if_timed_lem : (t : Terms) → t.timed ≡ true → (table : List ℕ) → if_timed t table ≡ table
if_timed_lem t w table = rw w

if_untimed : (t : Terms) → t.timed ≡ false → (table : List ℕ) → if_timed t table ≡ []
if_untimed t w table = rw w

-- the joined job is that of the tables made
module _ {sources first_sinks sinks criticalities firsts joint jointly : List ℕ} {count : ℕ} (t : Terms)
    (tables : JoinedTables sources first_sinks sinks criticalities t.timed firsts joint jointly count) (kinds capacities first_edges edge_targets delays : List ℕ) where
  abbrev listed : Job
  listed = job_of kinds capacities first_edges edge_targets sources first_sinks sinks delays criticalities t

  same : (n : ℕ) → places_before (nets_only sources first_sinks sinks) n ≡ places_before listed n
  same = places_same (nets_only sources first_sinks sinks) listed refl refl refl

  firsts_same : take (length sources + 1) firsts ≡ (joined listed).first_sinks
  firsts_same = tables.firsts_are ∙ ap (λ (f : ℕ → List ℕ). up_to (λ i. length (f i)) (length sources + 1)) (fun_ext same)

  sinks-same : take count joint ≡ (joined listed).sinks
  sinks-same = tables.sinks_are ∙ ap (entries_at sinks) (same (length sources))

  criticalities-same : if_timed t (take count jointly) ≡ (joined listed).criticalities
  criticalities-same =
      by_test t.timed
      (λ w.
      if_timed_lem t w (take count jointly) ∙ tables.criticalities_are w ∙ ap (entries_at criticalities) (same (length sources))
      ∙ ap (λ (cs : List ℕ). entries_at cs (places_before listed (length sources))) (sym (if_timed_lem t w criticalities))
      ∙ sym (if_timed_lem t w (entries_at listed.criticalities (places_before listed (length sources)))))
      (λ w.
      if_untimed t w (take count jointly) ∙ sym (if_untimed t w (entries_at listed.criticalities (places_before listed (length sources)))))

  pub joined-job : job_of kinds capacities first_edges edge_targets sources (take (length sources + 1) firsts) (take count joint) delays (take count jointly) t ≡ joined listed
  joined-job = rw (firsts_same, sinks-same, criticalities-same)
