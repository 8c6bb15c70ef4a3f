-- A whole search: the tree is marked, its labels spread until nothing waits, and they are the distances of all nodes.
-- Assumes nothing.
use mathlib.Core.Bool.{true, false}
use mathlib.Core.List.{List, [], ◌++◌}
use mathlib.Core.Logic.{⊎_elim, inl}
use mathlib.Core.Path.{◌≡◌, refl, sym, ◌∙◌}
use Prim.Native.Nat.{ℕ, ◌+◌, ◌-◌, ◌*◌, ◌≤◌, ◌<◌}
use native.Mathlib.Nat.{not-suc-le-zero}
use native.Mathlib.Omega.{arith}
use lib.ListN.{length, get_or, take, drop, replicate}
use lib.Seq.{length-take-le, get_or-take, ext_get_or}
use Rattle.std.proofs.lemmas.Grind.{get_or_default_zero}
use Rattle.price.specs.Lists.{every}
use Rattle.price.proofs.TestLaws.{le_or_lt, never_true, true≢false}
use Rattle.price.proofs.ListLaws.{drop-same}
use Rattle.search.specs.Block.{block_of, graph_of}
use Rattle.search.specs.Tables.{Sound}
use Rattle.search.specs.Distance.{far, tree_has, distances, distance}
use Rattle.search.specs.Turn.{Congestion, price_at}
use Rattle.search.specs.Clamped.{clamped_price, ListsLong}
use Rattle.search.specs.Replies.{cleared, sink_list_sound}
use Rattle.search.specs.Labels.{goal, label_at}
use Rattle.search.specs.Spread.{RunReady, SpreadStopped}
use Rattle.search.specs.TurnWork.{TreeMarked, GoalsMarked, LeastGoal}
use Rattle.search.specs.Priceable.{Fitted, PricesReady}
use Rattle.search.proofs.DistanceLaws.{length-distances, distance_top}
use Rattle.search.proofs.GraphLaws.{distances-same}
use Rattle.search.proofs.PriceSameLaws.{distances-same as distances-price}
use Rattle.search.proofs.StoreLaws.{same_none}
use Rattle.search.proofs.SpreadExact.{Live, exact, exact_label}
use Rattle.search.proofs.HaltLaws.{Halted, OpenAt}
use Rattle.search.proofs.PriceableLaws.{fitted}
use Rattle.search.proofs.JoinLaws.{fitted-lent, join_ready, join_halts}
use Rattle.search.proofs.PathReplyLaws.{fitting-sound, price-clamped}

no_sinks : (n : ℕ) → sink_list_sound n [] ≡ true
unfolding sink_list_sound every
no_sinks n = refl

-- a search is a turn without sinks: there is no goal, and a last step costs at least 0
no_goals : (n : ℕ) (w : List ℕ) → GoalsMarked n [] w w 0
no_goals n w = record { same = same_none 0 n w; there = λ j l. absurd (not-suc-le-zero l); only = λ v h. inl refl }

no_step : (n : ℕ) (price : ℕ → ℕ) (w : List ℕ) → LeastGoal n price [] w 0 0
no_step n price w = record { most = omega arith; least = λ j l. absurd (not-suc-le-zero l) }

module _ {ks cs fs ts : List ℕ} {c : Congestion} {marks : List ℕ} (w₀ : List ℕ) (pre : PricesReady ks cs c marks × Sound (block_of ks cs fs ts) × (8 * length ks ≤ length w₀)) where
  search_fits : Fitted (block_of ks cs fs ts) c marks [] w₀
  search_fits =
      fitted (block_of ks cs fs ts) c marks [] w₀
      (fitting-sound (block_of ks cs fs ts) c marks [] w₀ pre.1 (no_sinks (length ks)) pre.2 pre.0.nodes-sound pre.0.factor_most_lem pre.0.weighable)

  pub search_lent : ListsLong ks cs c
  search_lent = fitted-lent ks cs fs ts search_fits

  pub search_marks : (length ks ≤ 4096) × (length ks ≤ length marks) × (3 * length ks ≤ length w₀)
  search_marks = (search_fits.few, search_fits.marks_long, omega (arith, pre.2))

  module _ {w₁ : List ℕ} {count : ℕ} (t : TreeMarked (length ks) marks w₀ w₁ count) where
    pub search_ready : RunReady (graph_of ks fs ts) (clamped_price ks cs c) false w₁ count 0
    search_ready = join_ready ks cs fs ts c search_fits t (no_goals (length ks) w₁) (no_step (length ks) (clamped_price ks cs c) w₁) false

    module _ {w₂ : List ℕ} {best : ℕ} (r : SpreadStopped (graph_of ks fs ts) (clamped_price ks cs c) false 0 w₁ w₂ best) where
      halted : Halted (graph_of ks fs ts) (clamped_price ks cs c) marks [] w₀ w₂ best
      halted = join_halts ks cs fs ts c search_fits t (no_goals (length ks) w₁) (no_step (length ks) (clamped_price ks cs c) w₁) false r

      -- without goals every edge is looked at
      none_spared : (v : ℕ) → Live (graph_of ks fs ts) false w₁ v
      none_spared v spared = absurd (true≢false (sym spared.0))

      -- no goal is near, so the labels have stopped where nothing waits
      level-far : far ≤ r.level
      level-far =
          let none : best ≡ far =
          ⊎_elim
          (λ e. e)
          (λ (g : (j : ℕ) × OpenAt (length ks) marks [] j × (label_at w₂ (get_or [] j 0) ≡ best) × (best < goal)). absurd (not-suc-le-zero g.1.0))
          halted.some in
          ⊎_elim (λ (e : r.level ≡ far). omega arith) (λ (l : best < r.level + 0). omega arith) r.stopped

      -- a node that has got no label has none from the start, and is not in the tree
      never_labelled : (v : ℕ) → v < length ks → goal ≤ label_at w₂ v → label_at w₂ v ≡ far
      never_labelled v h bare =
          let out : tree_has marks v ≡ false = never_true (tree_has marks v) (λ i. let z = halted.zero_in v h i in omega arith) in
          let first : label_at w₁ v ≡ far = t.labels v h ∙ rw out in
          r.onward.still v h (omega arith) bare ∙ first

      final : (v : ℕ) → v < length ks → label_at w₂ v ≡ distance (graph_of ks fs ts) (clamped_price ks cs c) marks v
      final v h =
          let top = distance_top (graph_of ks fs ts) (clamped_price ks cs c) marks v in
          let least = level-far in
          ⊎_elim
          (λ (bare : goal ≤ label_at w₂ v).
          let none = never_labelled v h bare in
          ⊎_elim
          (λ (q : far ≤ distance (graph_of ks fs ts) (clamped_price ks cs c) marks v). omega arith)
          (λ (q : distance (graph_of ks fs ts) (clamped_price ks cs c) marks v < far).
          (exact marks halted.shaped halted.fair r.spread halted.zero_in halted.pos-out v h (none_spared v) q (omega (arith, halted.fair.pos v h))).1)
          (le_or_lt far (distance (graph_of ks fs ts) (clamped_price ks cs c) marks v)))
          (λ (l : label_at w₂ v < goal). exact_label marks halted.shaped halted.fair r.spread halted.zero_in halted.pos-out v h (none_spared v) l (omega (arith, halted.fair.pos v h)))
          (le_or_lt goal (label_at w₂ v))

      still-long : length w₂ ≡ length w₀
      still-long = r.onward.long ∙ t.long

      -- clamped prices are the prices
      same-prices : distances (block_of ks cs fs ts) (clamped_price ks cs c) marks ≡ distances (block_of ks cs fs ts) (price_at (block_of ks cs fs ts) c) marks
      same-prices =
          distances-price (block_of ks cs fs ts) (clamped_price ks cs c) (price_at (block_of ks cs fs ts) c)
          (price-clamped (block_of ks cs fs ts) c marks [] w₀ pre.1 (no_sinks (length ks)) pre.2 pre.0.nodes-sound pre.0.factor_most_lem pre.0.weighable) marks

      first_part : take (length ks) w₂ ≡ distances (block_of ks cs fs ts) (price_at (block_of ks cs fs ts) c) marks
      first_part =
          let found : List ℕ = distances (graph_of ks fs ts) (clamped_price ks cs c) marks in
          let count : length (take (length ks) w₂) ≡ length ks = length-take-le (length ks) w₂ (omega (arith, still-long, pre.2)) in
          let all : length (distances (graph_of ks fs ts) (clamped_price ks cs c) marks) ≡ length ks = length-distances (graph_of ks fs ts) (clamped_price ks cs c) marks in
          ext_get_or 0 (take (length ks) w₂) (distances (graph_of ks fs ts) (clamped_price ks cs c) marks) (count ∙ sym all)
          (λ i l.
          let h : i < length ks = omega arith in
          get_or-take (length ks) w₂ i 0 h ∙ final i h ∙ get_or_default_zero (distances (graph_of ks fs ts) (clamped_price ks cs c) marks) i far (omega arith))
          ∙ distances-same ks cs fs ts (clamped_price ks cs c) marks ∙ same-prices

      -- past 8 × nodes nothing was written
      last-part : drop (8 * length ks) w₂ ≡ drop (8 * length ks) w₀
      last-part = drop-same (8 * length ks) w₀ w₂ still-long (λ k l. r.onward.high k (omega arith) ∙ t.high k (omega arith))

      pub search_leaves :
          {w₃ : List ℕ} → w₃ ≡ take (length ks) w₂ ++ (replicate (8 * length ks - length ks) 0 ++ drop (8 * length ks) w₂)
          → w₃ ≡ cleared (length ks) (distances (block_of ks cs fs ts) (price_at (block_of ks cs fs ts) c) marks) w₀
      unfolding cleared
      search_leaves end = rw (length-distances (block_of ks cs fs ts) (price_at (block_of ks cs fs ts) c) marks, ← first_part, ← last-part) end
