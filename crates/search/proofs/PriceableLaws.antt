-- Laws of what can be priced (specs/Priceable.antt): what tests that pass have shown. They speak of public definitions alone, and the crates
-- above cite this file.
--     fitted                              all lengths are right
--     sinks-few, sinks-nodes              a list of sinks keeps its rule
--     bad_here, bad_nowhere               the lowest node whose numbers are bad
--     sound-graph                         sound tables without capacities
--     ready-                              numbers within their bounds: each node's price, fair prices
--     answered-price, answered-refused    what the price's answer says of a node that can be priced
-- Assumes nothing.
use mathlib.Core.Bool.{Bool, true, false, not}
use mathlib.Core.List.{List, []}
use mathlib.Core.Logic.{⊎_elim}
use mathlib.Core.Path.{◌≡◌, sym, ◌∙◌}
use Prim.Native.Nat.{ℕ, ◌+◌, ◌-◌, ◌≤◌, ◌<◌}
use native.Mathlib.Nat.{le_trans}
use native.Mathlib.Omega.{arith}
use lib.Dec.{leb, ltb, eqb}
use lib.ListN.{length, get_or}
use borrow.Author.Tests.{leb-true, ltb-true, eqb-true}
use Rattle.price.specs.Bounds.{nodes_most, others_most, timed_nodes_most, delay_most}
use Rattle.price.specs.Replies.{priced, price_reply_of}
use Rattle.price.specs.Timed.{history_bound, weighed_most, weighed_reply}
use Rattle.std.specs.Prelude.{Result, Ok, Err}
use Rattle.price.specs.declared.BadNumber.{BadNumber}
use Rattle.price.proofs.TestLaws.{true≢false, both_left, both_right, le_or_lt}
use Rattle.price.proofs.ListLaws.{every-at}
use Rattle.price.proofs.BelowLaws.{first_below-is, first_below-all}
use Rattle.price.proofs.ReplyLaws.{answer-priced, answer_not_refused}
use Rattle.price.proofs.TimedLaws.{bound-most, weighed-pos, weighed_most_lem, weighed-path, weighed-low, reply_delay, weighed-priced}
use Rattle.search.specs.Block.{Block, nodes, block_of, graph_of, row}
use Rattle.search.specs.Tables.{Sound, Graph, edges_most, edge_targets_sound, delays_sound}
use Rattle.search.specs.Paths.{Fair}
use Rattle.search.specs.Turn.{Congestion, congested_at, price_at}
use Rattle.search.specs.Replies.{work_needed, bounded, history_bounded, node_sound, bad_node, sinks_most, sink_list_sound, timed_fitting, fitting_lengths, lengths_fitting, fitting}
use Rattle.search.specs.Priceable.{Fitted, PriceReady, PricesReady}
use Rattle.search.proofs.BlockLaws.{kinds_some, kinds-few, kind_most_lem, capacities-long, capacity_least, capacity_most_lem}

-- ---- lengths that are right

-- the lengths of a timed turn
timed_fitted : (timed : Bool) (n delays : ℕ) → timed_fitting timed n delays ≡ true → timed ≡ true → (n ≤ timed_nodes_most) × (n ≤ delays)
timed_fitted false n delays t e = absurd (true≢false (sym e))
timed_fitted true n delays t e = (leb-true n timed_nodes_most (both_left _ _ t), leb-true n delays (both_right (leb n timed_nodes_most) _ t))

-- a test of all lengths that holds says each
pub fitted : (b : Block) (c : Congestion) (marks sinks work : List ℕ) → fitting b c marks sinks work ≡ true → Fitted b c marks sinks work
unfolding fitting_lengths
fitted b c marks sinks work t =
    let t₀ = both_left (lengths_fitting b c marks sinks work) _ t in
    let timed = timed_fitted c.weighting.timed (nodes b) (length c.delays) (both_right (lengths_fitting b c marks sinks work) _ t) in
    let t₁ = both_right (leb 1 (nodes b)) _ t₀ in
    let t₂ = both_right (leb (nodes b) nodes_most) _ t₁ in
    let t₃ = both_right (eqb (length b.capacities) (nodes b)) _ t₂ in
    let t₄ = both_right (eqb (length b.first_edges) (nodes b + 1)) _ t₃ in
    let t₅ = both_right (leb (length b.edge_targets) edges_most) _ t₄ in
    let t₆ = both_right (leb (work_needed (nodes b)) (length work)) _ t₅ in
    let t₇ = both_right (leb (nodes b) (length c.histories)) _ t₆ in
    let t₈ = both_right (leb (nodes b) (length c.others)) _ t₇ in
    record {
      some = leb-true _ _ (both_left _ _ t₀);
      few = leb-true _ _ (both_left _ _ t₁);
      capacities-long = eqb-true _ _ (both_left _ _ t₂);
      firsts-long = eqb-true _ _ (both_left _ _ t₃);
      targets-few = leb-true _ _ (both_left _ _ t₄);
      enough = leb-true _ _ (both_left _ _ t₅);
      histories-long = leb-true _ _ (both_left _ _ t₆);
      others-long = leb-true _ _ (both_left _ _ t₇);
      marks_long = leb-true _ _ (both_left _ _ t₈);
      sinks-few = leb-true _ _ (both_right (leb (nodes b) (length marks)) _ t₈);
      timed_few = λ e. (timed e).0;
      delays-long = λ e. (timed e).1;
    }

-- ---- a list of sinks that keeps its rule

module _ (n : ℕ) (sinks : List ℕ) (s : sink_list_sound n sinks ≡ true) where
  pub sinks-few : length sinks ≤ sinks_most
  unfolding sink_list_sound
  sinks-few = leb-true _ _ (both_left (leb (length sinks) sinks_most) _ s)

  pub sinks-nodes : (i : ℕ) → i < length sinks → get_or sinks i 0 < n
  unfolding sink_list_sound
  sinks-nodes i l = ltb-true _ _ (every-at (λ s. ltb s n) sinks (both_right (leb (length sinks) sinks_most) _ s) i l)

-- ---- the lowest node that is not sound

module _ (n : ℕ) (c : Congestion) (marks : List ℕ) (v : ℕ) (all : (k : ℕ) → k < v → node_sound c marks k ≡ true) where
  pub bad_here : v < n → node_sound c marks v ≡ false → bad_node n c marks ≡ v
  unfolding bad_node
  bad_here h bad = first_below-is (λ v. not (node_sound c marks v)) n v h (rw bad) (λ j l. rw (all j l))

  pub bad_nowhere : v ≡ n → bad_node n c marks ≡ v
  unfolding bad_node
  bad_nowhere h = first_below-all (λ v. not (node_sound c marks v)) n (λ j l. rw (all j (omega arith))) ∙ sym h

-- ---- what is ready

-- what a sound node has
record NodeSound (c : Congestion) (marks : List ℕ) (v : ℕ) : Type 0 where
  has_history : v < length c.histories
  history_least : 1 ≤ get_or c.histories v 0
  history_most_lem : get_or c.histories v 0 ≤ history_bound c.weighting
  has-others : v < length c.others
  others_most_lem : get_or c.others v 0 ≤ others_most
  has_mark : v < length marks
  mark_bit : get_or marks v 0 ≤ 1

node-has : (c : Congestion) (marks : List ℕ) (v : ℕ) → node_sound c marks v ≡ true → NodeSound c marks v
unfolding node_sound
node-has c marks v s =
    let history = both_left (history_bounded (history_bound c.weighting) c.histories v) _ s in
    let others-mark = both_right (history_bounded (history_bound c.weighting) c.histories v) _ s in
    let others = both_left (bounded others_most c.others v) _ others-mark in
    let mark = both_right (bounded others_most c.others v) _ others-mark in
    let history-bounds = both_right (ltb v (length c.histories)) _ history in
    record {
      has_history = ltb-true _ _ (both_left _ _ history);
      history_least = leb-true _ _ (both_left _ _ history-bounds);
      history_most_lem = leb-true _ _ (both_right (leb 1 (get_or c.histories v 0)) _ history-bounds);
      has-others = ltb-true _ _ (both_left _ _ others);
      others_most_lem = leb-true _ _ (both_right (ltb v (length c.others)) _ others);
      has_mark = ltb-true _ _ (both_left _ _ mark);
      mark_bit = leb-true _ _ (both_right (ltb v (length marks)) _ mark);
    }

module _ (ks cs fs ts : List ℕ) (c : Congestion) (marks : List ℕ) where
  pub sound-graph : Sound (block_of ks cs fs ts) → Graph (graph_of ks fs ts)
  unfolding edge_targets_sound row
  sound-graph s =
      record {
        some = kinds_some ks s.kinds_sound_lem;
        few = kinds-few ks s.kinds_sound_lem;
        first_edges_sound_lem = s.first_edges_sound_lem;
        edge_targets_sound_lem = s.edge_targets_sound_lem;
      }

  module _ (r : PricesReady ks cs c marks) where
    ready-node : (v : ℕ) → v < length ks → NodeSound c marks v
    ready-node v h = node-has c marks v (r.nodes-sound v h)

    -- each list has an entry for every node
    pub ready-long : 1 ≤ length ks → (length ks ≤ length c.histories) × (length ks ≤ length c.others) × (length ks ≤ length marks)
    ready-long some =
        let node = ready-node (length ks - 1) (omega arith) in
        (omega (arith, node.has_history), omega (arith, node.has-others), omega (arith, node.has_mark))

    -- where they are weighed, every node has a delay within its bound
    pub ready-delays : c.weighting.timed ≡ true → length c.delays ≡ length ks
    unfolding delays_sound
    ready-delays t = eqb-true _ _ (both_left (eqb (length c.delays) (length ks)) _ (r.weighable t).delays_sound_lem)

    ready_delay : (v : ℕ) → v < length ks → c.weighting.timed ≡ true → get_or c.delays v 0 ≤ delay_most
    unfolding delays_sound
    ready_delay v h t =
        let long : length c.delays ≡ length ks = ready-delays t in
        leb-true _ _
        (every-at (λ d. leb d delay_most) c.delays (both_right (eqb (length c.delays) (length ks)) _ (r.weighable t).delays_sound_lem) v (omega arith))

    pub ready-price : (v : ℕ) → v < length ks → PriceReady ks cs c v
    ready-price v h =
        let node = ready-node v h in
        let long : length cs ≡ length ks = capacities-long (length ks) cs r.capacities_sound_lem in
        record {
          has_kind = h;
          has_capacity = omega arith;
          has_history = node.has_history;
          has-others = node.has-others;
          has_delay = λ t. let all : length c.delays ≡ length ks = ready-delays t in omega arith;
          bounds = record {
            five = record {
              kind_most_lem = kind_most_lem ks r.kinds_sound_lem v h;
              factor_most_lem = r.factor_most_lem;
              others_most_lem = node.others_most_lem;
              capacity_least = capacity_least (length ks) cs r.capacities_sound_lem v h;
              capacity_most_lem = capacity_most_lem (length ks) cs r.capacities_sound_lem v h;
              history_least = node.history_least;
              history_most_lem = le_trans node.history_most_lem (bound-most c.weighting);
            };
            history_bound_lem = node.history_most_lem;
            delay_most_lem = ready_delay v h;
            criticality_most_lem = λ t. (r.weighable t).criticality_most_lem;
          };
        }

    pub ready-fair : Fair (graph_of ks fs ts) (price_at (block_of ks cs fs ts) c)
    unfolding price_at congested_at
    ready-fair =
        record {
          ceiling = weighed_most c.weighting;
          low = let most = weighed-low c.weighting in omega arith;
          fits = weighed-path c.weighting (length ks) (kinds-few ks r.kinds_sound_lem) (λ t. (r.weighable t).few);
          pos = λ v h. weighed-pos (ready-price v h).bounds;
          most = λ v h. weighed_most_lem (ready-price v h).bounds;
        }

    -- the same of the block with its capacities
    pub ready-block-fair : Fair (block_of ks cs fs ts) (price_at (block_of ks cs fs ts) c)
    ready-block-fair = let f = ready-fair in record { ceiling = f.ceiling; low = f.low; fits = f.fits; pos = f.pos; most = f.most }

    pub ready_marks : length ks ≤ length marks
    ready_marks =
        ⊎_elim
        (λ (l : length ks ≤ length marks). l)
        (λ (l : length marks < length ks). absurd (let m = (ready-node (length marks) l).has_mark in omega arith))
        (le_or_lt (length ks) (length marks))

-- ---- what the price's answer says of a node that is ready to be priced

-- the delay is read only where it is weighed
module _ {kinds capacities : List ℕ} {c : Congestion} {v : ℕ} (ready : PriceReady kinds capacities c v) {d : ℕ} (read : c.weighting.timed ≡ true → d ≡ get_or c.delays v 0) where
  reply :
      weighed_reply c.weighting (get_or kinds v 0) c.factor (get_or c.others v 0) (get_or capacities v 0) (get_or c.histories v 0) d
      ≡ priced (price_at (block_of kinds capacities [] []) c v)
  unfolding price_at congested_at
  reply = reply_delay c.weighting _ _ _ _ _ d read ∙ weighed-priced c.weighting _ _ _ _ _ _ ready.bounds

  pub answered-price :
      {r : Result ℕ BadNumber} {p : ℕ} → r ≡ Ok p
      → price_reply_of r ≡ weighed_reply c.weighting (get_or kinds v 0) c.factor (get_or c.others v 0) (get_or capacities v 0) (get_or c.histories v 0) d
      → p ≡ price_at (block_of kinds capacities [] []) c v
  answered-price q e = answer-priced (e ∙ reply) q

  pub answered-refused :
      {r : Result ℕ BadNumber} {bad : BadNumber} → r ≡ Err bad
      → price_reply_of r ≡ weighed_reply c.weighting (get_or kinds v 0) c.factor (get_or c.others v 0) (get_or capacities v 0) (get_or c.histories v 0) d → ⊥
  answered-refused q e = answer_not_refused (e ∙ reply) q
