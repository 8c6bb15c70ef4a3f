-- What routing rests on: less than the rules of tables 5 to 10 say, so that a job whose nets of one source are joined has it too. Only
-- contracts of private functions cite this file: no caller has to believe it.
-- Assumes nothing.
use Rattle.std.specs.Prelude.{true, false, ◌≡◌, ℕ, ◌+◌, ◌≤◌, ◌<◌, length, get_or}
use Rattle.price.specs.Bounds.{limit_most, delay_most, criticality_most, timed_nodes_most, timed_limit_most}
use Rattle.price.specs.Lists.{has}
use Rattle.price.specs.Tuning.{tuning_sound}
use Rattle.search.specs.Tables.{Sound}
use Rattle.search.specs.Replies.{sinks_most}
use Rattle.job.specs.Job.{Job, nodes, nets, source, net_sinks}
use Rattle.job.specs.Tables.{nets_most}

-- what a timed job rests on besides
pub record Timing (j : Job) : Type 0 where
  pub delays-long : length j.delays ≡ nodes j
  pub delay_most_lem : (v : ℕ) → v < nodes j → get_or j.delays v 0 ≤ delay_most
  pub criticalities-long : length j.criticalities ≡ length j.sinks
  pub criticality_most_lem : (p : ℕ) → p < length j.sinks → get_or j.criticalities p 0 ≤ criticality_most
  pub nodes-few : nodes j ≤ timed_nodes_most
  pub limit_low : j.terms.limit ≤ timed_limit_most

-- A sound job has it. So has a job of which some nets have no sinks: its table 6 never falls, where that of a sound job strictly rises.
pub record Routable (j : Job) : Type 0 where
  pub block-sound : Sound j.block
  pub nets-few : nets j ≤ nets_most
  pub source-node : (i : ℕ) → i < nets j → source j i < nodes j
  pub first_sinks-long : length j.first_sinks ≡ nets j + 1
  pub sinks-order : (i : ℕ) → i < nets j → get_or j.first_sinks i 0 ≤ get_or j.first_sinks (i + 1) 0
  pub sinks-end : (i : ℕ) → i ≤ nets j → get_or j.first_sinks i 0 ≤ length j.sinks
  pub sinks-few : length j.sinks ≤ sinks_most
  pub sink-node : (i : ℕ) → i < nets j → (k : ℕ) → k < length (net_sinks j i) → get_or (net_sinks j i) k 0 < nodes j
  pub source_no_sink : (i : ℕ) → i < nets j → has (source j i) (net_sinks j i) ≡ false
  pub limit_some : 1 ≤ j.terms.limit
  pub limit_few : j.terms.limit ≤ limit_most
  pub tuning_sound_lem : tuning_sound j.terms.tuning ≡ true
  pub until_some : 1 ≤ j.terms.until
  pub timing : j.terms.timed ≡ true → Timing j
