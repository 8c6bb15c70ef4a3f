-- `join::joined_tables` meets its contract: the places of all nets, and the sinks at them, in a timed job their criticalities too.
-- Assumes nothing.
use mathlib.Core.Bool.{true}
use mathlib.Core.Path.{◌≡◌, sym, ◌∙◌, subst}
use Prim.Native.Nat.{ℕ, ◌+◌, ◌≤◌}
use native.Mathlib.Nat.{le_trans}
use native.Mathlib.Omega.{arith}
use lib.ListN.{length, take}
use Rattle.price.proofs.TestLaws.{true≢false}
use Rattle.job.specs.Steps.{AllBelow}
use Rattle.negotiation.proofs.JoiningLaws.{count-few, places-below, tables_joined}
use Rattle.negotiation.proofs.join.joined_tables.Goals.{After-join_nets-count}
use Rattle.negotiation.proofs.join.joined_tables.Goals as goal

module _ (c : After-join_nets-count) where
  few : c.join_nets-count.result ≤ length c.args.job.now.sink.now
  few = count-few c.requires.joinable c.join_nets-count.ensures

  few-bytes : c.join_nets-count.result ≤ length c.args.criticalities.now
  few-bytes = le_trans few c.requires.criticality_len.1

  ends : length c.args.job.now.source.now + 1 ≤ length c.join_nets-count.new.firsts
  ends = omega (arith, c.requires.source_in_bounds.0, c.join_nets-count.auto.firsts)

pub gather-requires : goal.gather-requires
gather-requires c =
    record {
      count_in_bounds = (c.join_nets-count.ensures.within, le_trans (few (goal.at.gather-requires c).After-join_nets-count) c.requires.source_in_bounds.1);
      all_below = places-below c.requires.joinable c.join_nets-count.ensures;
    }

pub gather-requires-then-job : goal.gather-requires-then-job
gather-requires-then-job c =
    let weighs : c.args.job.now.terms.timed ≡ true = c.if-job.true in
    let low = places-below c.requires.joinable c.join_nets-count.ensures in
    record {
      count_in_bounds = (c.join_nets-count.ensures.within, few-bytes (goal.at.gather-requires-then-job c).After-join_nets-count);
      all_below =
          subst (λ (k : ℕ). AllBelow k (take c.join_nets-count.result c.join_nets-count.new.places))
          (sym (c.requires.criticality_len.0 weighs)) low;
    }

pub returns-then-job : goal.returns-then-job
returns-then-job c =
    let bytes = c.gather-then-job in
    let counted = (goal.at.returns-then-job c).After-join_nets-count in
    let room : c.join_nets-count.result ≤ length c.gather.new.entries = omega (arith, few counted, c.requires.source_in_bounds.1, c.gather.auto.entries) in
    let room-too : c.join_nets-count.result ≤ length bytes.new.entries = omega (arith, few-bytes counted, bytes.auto.entries) in
    tables_joined c.requires.joinable c.join_nets-count.ensures room room-too (ends counted) (c.gather.ensures 0) (λ w. bytes.ensures 0)

pub returns-else-job : goal.returns-else-job
returns-else-job c =
    let counted = (goal.at.returns-else-job c).After-join_nets-count in
    let room : c.join_nets-count.result ≤ length c.gather.new.entries = omega (arith, few counted, c.requires.source_in_bounds.1, c.gather.auto.entries) in
    tables_joined c.requires.joinable c.join_nets-count.ensures room (few-bytes counted) (ends counted) (c.gather.ensures 0)
    (λ w. absurd (true≢false (sym w ∙ c.if-job.false)))
