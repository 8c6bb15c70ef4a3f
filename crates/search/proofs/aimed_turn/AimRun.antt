-- A turn that aims, in the terms of the function that runs it: its lists, and any tables that have the edges that count.
--     TurnOver, turn_task    what a turn is over
--     Turning                how far it has come, whatever tables have the edges that count
--     turn-begins                                     the beginning
--     level-ready, turn_raised                        the level rises to the least one at which a node waits
--     expands-ready, turn-expands, same_blanks        a node is expanded
--     spreads-ready, turn-spreads, spreading_falls    a node spreads its estimate
--     turn-ends                                       the end
--     falls_expanding, falls_spreading                the falling number
-- Assumes nothing.
use mathlib.Core.Bool.{true}
use mathlib.Core.List.{List}
use mathlib.Core.Logic.{◌⊎◌, ⊎_elim}
use mathlib.Core.Path.{◌≡◌, refl, sym, ◌∙◌, subst}
use Prim.Native.Nat.{ℕ, ◌+◌, ◌-◌, ◌*◌, ◌≤◌, ◌<◌, min}
use native.Mathlib.Omega.{arith}
use lib.ListN.{length, get_or}
use Rattle.price.specs.Bounds.{kind_most, nodes_most}
use Rattle.price.proofs.TestLaws.{both_right, le_or_lt}
use Rattle.price.proofs.BelowLaws.{count_most_lem}
use Rattle.price.proofs.PriceLaws.{base-pos}
use Rattle.search.specs.Block.{block_of, graph_of, row, has_edge}
use Rattle.search.specs.Distance.{far}
use Rattle.search.specs.Turn.{Congestion}
use Rattle.search.specs.Aimed.{estimate, expands_by}
use Rattle.search.specs.Clamped.{clamped, clamped_price, clamped_base, clamped_scale, clamped_weight, ListsLong}
use Rattle.search.specs.ByTarget.{in_both, Counted}
use Rattle.search.specs.Layout.{entry_at}
use Rattle.search.specs.Buckets.{buckets, Lined, waits, LowestFrom}
use Rattle.search.specs.Estimates.{scale_most, level_most, reach_most, lacking_in, GiveReady, Spread, SinksGiven}
use Rattle.search.specs.Aiming.{BestAim, LowAim, Expanded, ExpandReady, ExpandsExactly, AimDone}
use Rattle.search.specs.AimedTurn.{LeastLacking, none_comes, tree_lacks, none-near, others_lack, Started, TurnReady, SinksAimed}
use Rattle.search.proofs.EdgeLaws.{edge-node}
use Rattle.search.proofs.ClampedLaws.{base_light}
use Rattle.search.proofs.WeightLaws.{weight_dear}
use Rattle.search.proofs.SpreadRun.{fair-clamped}
use Rattle.search.proofs.JoinLaws.{fitted-lent}
use Rattle.search.proofs.BucketLaws.{lined_some}
use Rattle.search.proofs.aimed_turn.AimState.{AimTask, has_left, Aiming, blanks, dist-sized}
use Rattle.search.proofs.aimed_turn.AimStart.{aim_begins}
use Rattle.search.proofs.aimed_turn.AimExpands.{expand_ready, expand_more, expand_blanks}
use Rattle.search.proofs.aimed_turn.AimSpreads.{raise_more, spread-more, spread_falls}
use Rattle.search.proofs.aimed_turn.AimEnds.{aim_ends, aim_exactly}

-- ---- weights and prices

pub clamped_base-pos : (kinds : List ℕ) (v : ℕ) → 1 ≤ clamped_base kinds v
unfolding clamped_base
clamped_base-pos kinds v = base-pos (clamped 0 kind_most (get_or kinds v 0))

-- no price is below the weight
pub clamped_dear : (kinds capacities : List ℕ) (c : Congestion) (v : ℕ) → clamped_scale c.weighting * clamped_base kinds v ≤ clamped_price kinds capacities c v
unfolding clamped_weight
clamped_dear kinds capacities c v = weight_dear kinds capacities c v

-- capacities are no part of an edge
pub block-edge : (ks cs fs ts : List ℕ) (u v : ℕ) → has_edge (block_of ks cs fs ts) u v ≡ has_edge (graph_of ks fs ts) u v
unfolding has_edge row
block-edge ks cs fs ts u v = refl

block-expanded :
    (ks cs fs ts fb bs : List ℕ) (price : ℕ → ℕ) {w w₂ : List ℕ} {u : ℕ} → Expanded (length ks) (in_both (graph_of ks fs ts) (graph_of ks fb bs)) price w w₂ u
    → Expanded (length ks) (in_both (block_of ks cs fs ts) (graph_of ks fb bs)) price w w₂ u
unfolding has_edge row
block-expanded ks cs fs ts fb bs price x = x

-- ---- what a turn is over

pub record TurnOver (ks cs fs ts fb bs : List ℕ) (c : Congestion) (marks sinks w₀ : List ℕ) (scale : ℕ) : Type 0 where
  pub ready : TurnReady (block_of ks cs fs ts) (graph_of ks fb bs) c marks sinks w₀
  pub scale_is : scale ≡ clamped_scale c.weighting
  pub scale_pos : 1 ≤ scale
  pub scale_most_lem : scale ≤ scale_most

module _ {ks cs fs ts fb bs : List ℕ} {c : Congestion} {marks sinks w₀ : List ℕ} {scale : ℕ} (o : TurnOver ks cs fs ts fb bs c marks sinks w₀ scale)
    {firsts targets backs sources : List ℕ} (k : Counted (block_of ks cs fs ts) (graph_of ks fb bs) firsts targets backs sources) where
  pub within_both :
      (u v : ℕ) → v < length ks → has_edge (block_of ks cs firsts targets) u v ≡ true → has_edge (graph_of ks backs sources) u v ≡ true
  within_both u v h e =
      let hu : u < length ks =
      edge-node (block_of ks cs firsts targets) (record { few = o.ready.fitted.few; firsts-long = k.searched.firsts-long }) u v e in
      let both-have : in_both (block_of ks cs fs ts) (graph_of ks fb bs) u v ≡ true =
      sym (k.searched.edges u v hu h) ∙ sym (block-edge ks cs firsts targets u v) ∙ e in
      k.estimated.edges u v hu h ∙ both_right (has_edge (block_of ks cs fs ts) u v) (has_edge (graph_of ks fb bs) v u) both-have

  abbrev pub turn_task : AimTask (block_of ks cs firsts targets)
  turn_task =
      record {
        firsts = backs;
        targets = sources;
        backs = fb;
        sources = bs;
        edge = in_both (block_of ks cs fs ts) (graph_of ks fb bs);
        price = clamped_price ks cs c;
        base = clamped_base ks;
        scale = scale;
        some = o.ready.fitted.some;
        shape = record { few = o.ready.fitted.few; firsts-long = k.searched.firsts-long };
        firsts-long = k.estimated.firsts-long;
        fair = fair-clamped (block_of ks cs firsts targets) ks cs c o.ready.fitted.few o.ready.fitted.timed_few;
        base-pos = λ v h. clamped_base-pos ks v;
        base_most_lem = λ v h. base_light ks v;
        scale_pos = o.scale_pos;
        scale_most_lem = o.scale_most_lem;
        dear = λ v h. rw o.scale_is (clamped_dear ks cs c v);
        counts = λ u v hu hv. block-edge ks cs firsts targets u v ∙ k.searched.edges u v hu hv;
        turned = k.estimated.edges;
        within = within_both;
      }

-- how far it has come, whatever tables have the edges that count
pub record Turning {ks cs fs ts fb bs : List ℕ} {c : Congestion} {marks sinks w₀ : List ℕ} {scale : ℕ} (o : TurnOver ks cs fs ts fb bs c marks sinks w₀ scale)
    (w head : List ℕ) (count lack best low level expanded : ℕ) : Type 0 where
  pub aiming :
      {firsts targets backs sources : List ℕ} (k : Counted (block_of ks cs fs ts) (graph_of ks fb bs) firsts targets backs sources)
      → Aiming (turn_task o k) marks sinks w₀ w head count lack best low level expanded

-- at a level at which a node waits, if any does
pub record Raised {ks cs fs ts fb bs : List ℕ} {c : Congestion} {marks sinks w₀ : List ℕ} {scale : ℕ} (o : TurnOver ks cs fs ts fb bs c marks sinks w₀ scale)
    (w head : List ℕ) (count lack best low level expanded : ℕ) : Type 0 where
  pub turning : Turning o w head count lack best low level expanded
  pub there :
      {firsts targets backs sources : List ℕ} (k : Counted (block_of ks cs fs ts) (graph_of ks fb bs) firsts targets backs sources) → 0 < count
      → (v : ℕ) × (waits (turning.aiming k).estimating.lined v ≡ true) × ((turning.aiming k).estimating.lined.level v ≡ level)

-- ---- the beginning

pub turn-begins :
    {ks cs fs ts fb bs : List ℕ} {c : Congestion} {marks sinks w w₀ w₁ head : List ℕ} {scale trees count lack : ℕ}
    (o : TurnOver ks cs fs ts fb bs c marks sinks w₀ scale) → Started (length ks) marks w w₀ trees
    → ((back : List ℕ) → SinksGiven (graph_of ks fb back) (clamped_base ks) scale marks sinks w₀ w₁ head count (length sinks))
    → lack ≡ lacking_in (length ks) w₁ → Turning o w₁ head count lack far far 0 0
turn-begins {bs = bs} o st g is = record { aiming = λ k. aim_begins (turn_task o k) st o.ready.fitted.enough (g bs) is }

module _ {ks cs fs ts fb bs : List ℕ} {c : Congestion} {marks sinks w₀ : List ℕ} {scale : ℕ} {o : TurnOver ks cs fs ts fb bs c marks sinks w₀ scale}
    {w head : List ℕ} {count lack best low level expanded : ℕ} where
  -- some tables have the edges that count
  module _ (s : Turning o w head count lack best low level expanded) where
    pub turn-long : (length w ≡ length w₀) × (8 * length ks ≤ length w) × (1 ≤ length ks) × (length ks ≤ nodes_most)
    turn-long = let a = s.aiming o.ready.counted in (a.same-long, a.searching.long, o.ready.fitted.some, o.ready.fitted.few)

    pub turn_count_lem : expanded ≤ length ks
    turn_count_lem =
        let a = s.aiming o.ready.counted in
        omega (arith, a.expanding.counted, count_most_lem (has_left (length ks) w) (length ks))

    pub turn_low : (scale ≤ scale_most) × (level ≤ level_most) × ((low ≡ far) ⊎ (low ≤ reach_most))
    turn_low = let a = s.aiming o.ready.counted in (o.scale_most_lem, a.estimating.level_most_lem, a.searching.low_aim.most)

    pub turn-heads : length head ≡ buckets
    turn-heads = (s.aiming o.ready.counted).estimating.lined.waiting.heads

    -- ---- the level rises

    pub level-ready : 0 < count → (length head ≡ buckets) × (level ≤ level_most) × ((b : ℕ) × (b < buckets) × (get_or head b 0 ≡ 0 → ⊥))
    level-ready some =
        let e = (s.aiming o.ready.counted).estimating in
        (turn-heads, e.level_most_lem, lined_some e.lined some)

    raised_on : {level' : ℕ} → LowestFrom head level level' → Raised o w head count lack best low level' expanded
    raised_on found =
        record {
          turning = record { aiming = λ k. (raise_more (s.aiming k) found).0 };
          there = λ k some. (raise_more (s.aiming k) found).1;
        }

    raised_none : count ≤ 0 → Raised o w head count lack best low level expanded
    raised_none none = record { turning = s; there = λ k some. absurd (omega arith) }

    pub turn_raised :
        {level' : ℕ} → (LowestFrom head level level') ⊎ ((count ≤ 0) × (level' ≡ level)) → Raised o w head count lack best low level' expanded
    turn_raised {level'} came =
        ⊎_elim
        (λ (f : LowestFrom head level level'). raised_on f)
        (λ (f : (count ≤ 0) × (level' ≡ level)). subst (λ (j : ℕ). Raised o w head count lack best low j expanded) (sym f.1) (raised_none f.0))
        came

    -- ---- a step, and the end

    module _ {coming : ℕ} (l : LeastLacking scale level count lack low coming) (top : entry_at (length ks) w 1 ≤ far) where
      pub turn-ends :
          (min (entry_at (length ks) w 1) coming ≡ far) ⊎ (best < min (entry_at (length ks) w 1) coming) → (firsts targets backs sources : List ℕ)
          → Counted (block_of ks cs fs ts) (graph_of ks fb bs) firsts targets backs sources
          → SinksAimed (block_of ks cs fs ts) (graph_of ks fb bs) c marks sinks w₀ w firsts targets backs sources best expanded
      unfolding clamped_weight
      turn-ends stop firsts targets backs sources k =
          let a = s.aiming k in
          let guess : ℕ → ℕ → ℕ = λ m. estimate (graph_of ks backs sources) (λ x. m * clamped_base ks x) marks sinks in
          record {
            done =
                subst (λ (m : ℕ). AimDone (block_of ks cs firsts targets) (clamped_price ks cs c) (guess m) marks sinks w best expanded) o.scale_is
                (aim_ends a l top stop);
            exactly = λ near.
                subst
                (λ (m : ℕ).
                ExpandsExactly (length ks) (in_both (block_of ks cs fs ts) (graph_of ks fb bs)) (clamped_price ks cs c) w₀ w
                (expands_by (block_of ks cs firsts targets) (clamped_price ks cs c) (guess m) marks sinks) expanded)
                o.scale_is (aim_exactly a l top stop near);
            long = a.same-long;
            beyond = a.beyond;
          }

      module _ (more : (min (entry_at (length ks) w 1) coming ≡ far → ⊥) × (min (entry_at (length ks) w 1) coming ≤ best)) where
        -- the node of least key is expanded
        module _ (next : entry_at (length ks) w 1 ≤ coming) where
          near_key : (entry_at (length ks) w 1 < far) × (entry_at (length ks) w 1 ≤ best)
          near_key =
              let is : min (entry_at (length ks) w 1) coming ≡ entry_at (length ks) w 1 = omega arith in
              let m = more.1 in
              (⊎_elim (λ (q : far ≤ entry_at (length ks) w 1). absurd (more.0 (omega arith))) (λ q. q) (le_or_lt far (entry_at (length ks) w 1)), omega arith)

          pub expands-ready : ListsLong ks cs c × (length fs ≡ length ks + 1) × (length fb ≡ length ks + 1) × ExpandReady (length ks) w
          expands-ready =
              let f = o.ready.fitted in
              (fitted-lent ks cs fs ts f, f.firsts-long, o.ready.backs-long, expand_ready (s.aiming o.ready.counted) l near_key.0 next near_key.1)

          module _ {w₂ : List ℕ} (x : (u : ℕ) × Expanded (length ks) (in_both (graph_of ks fs ts) (graph_of ks fb bs)) (clamped_price ks cs c) w w₂ u) where
            pub turn-expands :
                {best' low' : ℕ} → (BestAim (length ks) best w → BestAim (length ks) best' w₂) → (LowAim (length ks) low w → LowAim (length ks) low' w₂)
                → Turning o w₂ head count lack best' low' level (expanded + 1)
            turn-expands goes falls =
                record {
                  aiming = λ k.
                      expand_more (s.aiming k) l near_key.0 next near_key.1 x.0 (block-expanded ks cs fs ts fb bs (clamped_price ks cs c) x.1) goes falls;
                }

            pub same_blanks : blanks (length ks) w₂ ≡ blanks (length ks) w
            same_blanks =
                expand_blanks (s.aiming o.ready.counted) l near_key.0 next near_key.1 x.0
                (block-expanded ks cs fs ts fb bs (clamped_price ks cs c) x.1)

        -- a node spreads its estimate: one waits, since such a node is coming
        module _ (next : coming < entry_at (length ks) w 1) where
          some_waits : 0 < count
          some_waits = by l
            where
              by : LeastLacking scale level count lack low coming → 0 < count
              by (none_comes none is) = absurd (omega arith)
              by (tree_lacks some lacks is) = some
              by (none-near some full none is) = some
              by (others_lack some full close is) = some

  module _ (r : Raised o w head count lack best low level expanded) {coming : ℕ} (l : LeastLacking scale level count lack low coming)
      (top : entry_at (length ks) w 1 ≤ far) (more : (min (entry_at (length ks) w 1) coming ≡ far → ⊥) × (min (entry_at (length ks) w 1) coming ≤ best))
      (next : coming < entry_at (length ks) w 1) where
    pub spreads-ready :
        (g : GiveReady (graph_of ks fb bs) (clamped_base ks) scale level w head count lack)
        × ((v : ℕ) × (waits g.lined v ≡ true) × (g.lined.level v ≡ level))
    spreads-ready =
        let a = r.turning.aiming o.ready.counted in (
          record {
            few = o.ready.fitted.few;
            firsts-long = o.ready.backs-long;
            base_most_lem = λ v h. base_light ks v;
            scale_pos = o.scale_pos;
            scale_most_lem = o.scale_most_lem;
            level_most_lem = a.estimating.level_most_lem;
            sized = record { long = a.searching.long; near = dist-sized a.searching };
            queue = a.searching.queue;
            lined = a.estimating.lined;
            lacking_is = a.searching.lacking_is;
          },
          r.there o.ready.counted (some_waits r.turning l top more next),
        )

  module _ (s : Turning o w head count lack best low level expanded) {w₂ head₂ : List ℕ} {count₂ : ℕ}
      (given : (l : Lined (length ks) (clamped_base ks) scale w head count level)
      → Spread (graph_of ks fb bs) (clamped_base ks) scale level w w₂ head head₂ count count₂ l) where
    pub turn-spreads : {lack₂ : ℕ} → lack₂ ≡ lacking_in (length ks) w₂ → Turning o w₂ head₂ count₂ lack₂ best low level expanded
    turn-spreads is = record { aiming = λ k. let a = s.aiming k in spread-more a (given a.estimating.lined) is }

    pub spreading_falls : blanks (length ks) w₂ + count₂ < blanks (length ks) w + count
    spreading_falls =
        let a = s.aiming o.ready.counted in
        spread_falls a.estimating (given a.estimating.lined)

-- ---- the falling number

pub falls_expanding : (n e k : ℕ) {b b₂ : ℕ} → e + 1 ≤ n → b₂ ≡ b → (n - (e + 1)) + (b₂ + k) < (n - e) + (b + k)
falls_expanding n e k h is = omega arith

pub falls_spreading : (n e : ℕ) {m m₂ : ℕ} → m₂ < m → (n - e) + m₂ < (n - e) + m
falls_spreading n e h = omega arith
