-- What of a sound job routing rests on.
-- Assumes nothing.
use mathlib.Core.Bool.{true, false}
use mathlib.Core.List.{List}
use mathlib.Core.Path.{◌≡◌}
use Prim.Native.Nat.{ℕ, ◌+◌, ◌≤◌, ◌<◌}
use native.Mathlib.Nat.{le_trans}
use native.Mathlib.Omega.{arith}
use lib.Dec.{leb, ltb, eqb}
use lib.ListN.{length, get_or}
use lib.Seq.{length-slice}
use borrow.Author.Tests.{le-leb, lt-ltb, leb-true, ltb-true, eqb-true, not-true}
use Rattle.price.specs.Bounds.{limit_most, delay_most}
use Rattle.price.specs.Lists.{every, has, distinct}
use Rattle.price.proofs.TestLaws.{both_left, both_right, both_true}
use Rattle.price.proofs.ListLaws.{every-at, every-all}
use Rattle.price.specs.Tuning.{tuning_sound}
use Rattle.price.proofs.TuningLaws.{TuningWithin, tuning_within_lem}
use Rattle.search.specs.Replies as search
use Rattle.search.specs.Replies.{sinks_most}
use Rattle.search.specs.Tables.{delays_sound}
use Rattle.job.specs.Job.{Job, nodes, nets, source, net_sinks}
use Rattle.job.specs.Tables.{net_sound, sinks_sound, limit_sound, rule_sound, terms_sound, nets_most, exceeds, SoundJob}
use Rattle.negotiation.specs.Routable.{Routable, Timing}
use Rattle.negotiation.specs.Machine.{has_sinks}
use Rattle.job.proofs.JobLaws.{firsts-long, firsts-most, firsts-order, limit_least, net-rule, source-below, sources-few, sources_some}
use Rattle.job.proofs.JobLaws.{criticalities-long, criticality_most_lem, timed_nodes, timed_limit}

-- a list of few enough sinks, each a node, is one that the search takes
pub sinks_listed : (n : ℕ) (ss : List ℕ) → length ss ≤ sinks_most → ((k : ℕ) → k < length ss → get_or ss k 0 < n) → search.sink_list_sound n ss ≡ true
unfolding search.sink_list_sound
sinks_listed n ss few all =
    both_true (le-leb (length ss) sinks_most few) (every-all (λ s. ltb s n) ss (λ k l. lt-ltb (get_or ss k 0) n (all k l)))

module _ (j : Job) (s : SoundJob j) where
  pub nets_some : 1 ≤ nets j
  nets_some = sources_some _ _ s.sources_sound_lem

  -- the rule of table 7 for a net
  module _ (i : ℕ) (h : i < nets j) where
    sinks-rule : net_sound (nodes j) (source j i) (net_sinks j i) ≡ true
    unfolding net_sinks
    sinks-rule = net-rule _ _ _ _ s.sinks_sound_lem i h

    nodes_of-sinks : (k : ℕ) → k < length (net_sinks j i) → get_or (net_sinks j i) k 0 < nodes j
    unfolding net_sound
    nodes_of-sinks k l = ltb-true _ _ (every-at (λ v. ltb v (nodes j)) (net_sinks j i) (both_left _ _ sinks-rule) k l)

    pub no_source : has (source j i) (net_sinks j i) ≡ false
    unfolding net_sound
    no_source =
        not-true _ (both_right (distinct (net_sinks j i)) _ (both_right (every (λ v. ltb v (nodes j)) (net_sinks j i)) _ sinks-rule))

  pub firsts_rise : (i : ℕ) → i < nets j → get_or j.first_sinks i 0 < get_or j.first_sinks (i + 1) 0
  firsts_rise i h = firsts-order _ _ _ s.first_sinks_sound_lem i h

  -- the bounds of nets, sinks and limit
  pub nets-few : nets j ≤ nets_most
  nets-few = sources-few _ _ s.sources_sound_lem

  pub sinks-few : length j.sinks ≤ search.sinks_most
  unfolding sinks_sound
  sinks-few = leb-true _ _ (both_left _ _ s.sinks_sound_lem)

  pub limit_some : 1 ≤ j.terms.limit
  unfolding terms_sound
  limit_some = limit_least j.terms.limit (both_left _ _ s.terms_sound_lem)

  pub limit_few : j.terms.limit ≤ limit_most
  unfolding terms_sound limit_sound
  limit_few = leb-true _ _ (both_right (leb 1 j.terms.limit) _ (both_left _ _ s.terms_sound_lem))

  module _ (weighs : j.terms.timed ≡ true) where
    delays-long : length j.delays ≡ nodes j
    unfolding delays_sound
    delays-long = eqb-true _ _ (both_left _ _ (s.delays_sound_lem weighs))

    delay_most_lem : (v : ℕ) → v < nodes j → get_or j.delays v 0 ≤ delay_most
    unfolding delays_sound
    delay_most_lem v h =
        leb-true _ _
        (every-at (λ d. leb d delay_most) j.delays (both_right (eqb (length j.delays) (nodes j)) _ (s.delays_sound_lem weighs)) v
        (rw delays-long h))

    timing_of : exceeds (nodes j) j.terms ≡ false → Timing j
    timing_of fits =
        record {
          delays-long = delays-long;
          delay_most_lem = delay_most_lem;
          criticalities-long = criticalities-long _ _ (s.criticalities_sound_lem weighs);
          criticality_most_lem =
              λ p h.
              criticality_most_lem _ j.criticalities (s.criticalities_sound_lem weighs) p (rw (criticalities-long _ _ (s.criticalities_sound_lem weighs)) h);
          nodes-few = timed_nodes _ _ fits weighs;
          limit_low = timed_limit _ _ fits weighs;
        }

  -- a sound job can be routed, a timed one where it exceeds no bound
  pub routable_of : exceeds (nodes j) j.terms ≡ false → Routable j
  unfolding terms_sound rule_sound
  routable_of fits =
      record {
        block-sound = s.block-sound;
        nets-few = nets-few;
        source-node = λ i h. source-below _ _ s.sources_sound_lem i h;
        first_sinks-long = firsts-long _ _ _ s.first_sinks_sound_lem;
        sinks-order = λ i h. let l = firsts_rise i h in omega (arith, l);
        sinks-end = λ i h. firsts-most _ _ _ s.first_sinks_sound_lem i h;
        sinks-few = sinks-few;
        sink-node = nodes_of-sinks;
        source_no_sink = no_source;
        limit_some = limit_some;
        limit_few = limit_few;
        tuning_sound_lem = both_left _ _ (both_right (limit_sound j.terms.limit) _ s.terms_sound_lem);
        until_some =
            leb-true _ _
            (both_left _ _
            (both_left _ _ (both_right (tuning_sound j.terms.tuning) _ (both_right (limit_sound j.terms.limit) _ s.terms_sound_lem))));
        timing = λ weighs. timing_of weighs fits;
      }

  -- every net of a sound job has sinks
  pub all-sinks : (i : ℕ) → i < nets j → has_sinks j i ≡ true
  unfolding has_sinks net_sinks
  all-sinks i h =
      let rises = firsts_rise i h in
      let within : get_or j.first_sinks (i + 1) 0 ≤ length j.sinks = firsts-most _ _ _ s.first_sinks_sound_lem (i + 1) (omega arith) in
      le-leb 1 (length (net_sinks j i)) (rw (length-slice (get_or j.first_sinks i 0) (get_or j.first_sinks (i + 1) 0) j.sinks within) (omega arith))

-- the tuning's bounds
pub tuning-fits : (j : Job) → Routable j → TuningWithin j.terms.tuning
tuning-fits j r = tuning_within_lem j.terms.tuning r.tuning_sound_lem

-- ---- a net's sinks

module _ (j : Job) (r : Routable j) (i : ℕ) (h : i < nets j) where
  -- a net has no more sinks than table 7 has entries
  sinks-within : length (net_sinks j i) ≤ length j.sinks
  unfolding net_sinks
  sinks-within =
      let end = r.sinks-end (i + 1) (omega arith) in
      rw (length-slice (get_or j.first_sinks i 0) (get_or j.first_sinks (i + 1) 0) j.sinks end) (omega arith)

  -- as the search asks it of a list of sinks
  pub sinks-searched : search.sink_list_sound (nodes j) (net_sinks j i) ≡ true
  sinks-searched =
      sinks_listed _ _ (le_trans sinks-within r.sinks-few) (r.sink-node i h)
