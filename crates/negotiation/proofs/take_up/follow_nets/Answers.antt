-- `negotiation::take_up::follow_nets` meets its contract: from any progress at which an iteration opens so, the nets passed follow (`TakeNetLaws`). What is
-- safe rests on the one that is asked for.
-- Assumes nothing.
use mathlib.Core.Path.{refl}
use Prim.Native.Nat.{ℕ, ◌+◌, ◌*◌}
use native.Mathlib.Omega.{arith}
use lib.ListN.{length, get_or}
use Rattle.job.specs.Job.{Job}
use Rattle.job.specs.Job.{job_in}
use Rattle.negotiation.specs.Routable.{Routable}
use Rattle.negotiation.specs.Steps.{SameFrom}
use Rattle.negotiation.specs.TakeSteps.{NetPlaces, NetsOpen, NetsOn}
use Rattle.negotiation.proofs.KeepTurn.{same_twice}
use Rattle.negotiation.proofs.take_up.JudgedLaws.{sent_on}
use Rattle.negotiation.proofs.take_up.TakeNetLaws.{nets-start, net-ready, net_asks, nets-stopped, end-ready, net-next, nets-all}
use Rattle.negotiation.proofs.take_up.follow_nets.Goals.{After-follow_net, At-loop-net}
use Rattle.negotiation.proofs.take_up.follow_nets.Goals as goal

module _ (c : At-loop-net) where
  -- the job in the tables that are lent
  abbrev job : Job
  job = job_in c.args.job.now

  -- the progress that is asked for
  opened :
      NetsOpen job c.requires.0.progress c.args.begun c.args.history.now c.args.users.now c.args.in_tree.now c.args.tree_from.now
      c.args.tree_to.now c.args.due.now c.args.log.now
  opened = c.requires.0.open_so

  routable : Routable job
  routable = opened.routable

  -- where a net's sinks stand
  places : (i : ℕ) → NetPlaces job i (get_or c.args.job.now.first_sink.now i 0) (get_or c.args.job.now.first_sink.now (i + 1) 0)
  places i = record { from_is = refl; to_is = refl }

  -- the nets so far, of what is asked for
  so_far :
      NetsOn c.args.walk.audit job c.requires.0.progress c.loop-net.net c.loop-net.tariff c.args.history.now c.loop-net.users c.loop-net.in_tree
      c.loop-net.tree_from c.loop-net.tree_to c.args.log.now
  so_far = c.loop-net.invariant.0 _ opened

module _ (c : After-follow_net) where
  -- the work memory that they leave
  work-same :
      SameFrom (8 * length c.args.job.now.block.kind.now) c.args.work.now c.follow_net.new.work
  work-same = same_twice c.loop-net.invariant.2 c.follow_net.ensures.same_from

pub loop-net-init : goal.loop-net-init
loop-net-init c = ((λ p o. nets-start _ _ o), omega arith, record { long = refl; high = λ k l. refl })

pub bounds-job-net : goal.bounds-job-net
bounds-job-net c = let l = (routable (goal.at.bounds-job-net c).At-loop-net).first_sinks-long in let h = c.loop-net-test.true in omega arith

pub bounds-job-net-in-loop-net : goal.bounds-job-net-in-loop-net
bounds-job-net-in-loop-net c = let l = (routable (goal.at.bounds-job-net-in-loop-net c).At-loop-net).first_sinks-long in let h = c.loop-net-test.true in omega arith

pub begin_net-turns-requires : goal.begin_net-turns-requires
begin_net-turns-requires c =
    let o = opened (goal.at.begin_net-turns-requires c).At-loop-net in
    net-ready _ o.routable o.due-is (so_far (goal.at.begin_net-turns-requires c).At-loop-net) c.loop-net-test.true

pub follow_net-requires : goal.follow_net-requires
follow_net-requires c =
    let o = opened (goal.at.follow_net-requires c).At-loop-net in
    let room = c.requires.1 in
    let same = c.loop-net.invariant.2.long in
    λ some. (
      record {
        progress = (so_far (goal.at.follow_net-requires c).At-loop-net).progress;
        opens =
            net_asks _ o.routable o.due-is (so_far (goal.at.follow_net-requires c).At-loop-net) c.loop-net-test.true c.begin_net-turns.ensures.idle c.begin_net-turns.ensures.begun
            (places (goal.at.follow_net-requires c).At-loop-net _) some;
      },
      omega arith,
    )

pub returns-in_err-tariff : goal.returns-in_err-tariff
returns-in_err-tariff c = record {
  same_from = work-same (goal.at.returns-in_err-tariff c).After-follow_net;
  nets_answered = λ p o.
      rw (sent_on c.from_residual.result c.from_residual.ensures.1)
      (nets-stopped _ o.routable o.due-is (c.loop-net.invariant.0 _ o) c.loop-net-test.true c.begin_net-turns.ensures.idle c.begin_net-turns.ensures.begun
      (places (goal.at.returns-in_err-tariff c).At-loop-net _) c.args.walk.over c.follow_net.ensures.value (λ q. c.follow_net.ensures.net_answered _ q)
      c.in_err-tariff.was _ _ _ _ _);
}

pub end_net-requires : goal.end_net-requires
end_net-requires c =
    let o = opened (goal.at.end_net-requires c).At-loop-net in
    end-ready _ o.routable o.due-is (so_far (goal.at.end_net-requires c).At-loop-net) c.loop-net-test.true c.begin_net-turns.ensures.idle c.begin_net-turns.ensures.begun
    (places (goal.at.end_net-requires c).At-loop-net _) c.args.walk.over c.follow_net.ensures.value
    (λ q. c.follow_net.ensures.net_answered _ q) c.in_ok-tariff.was

pub loop-net-preserved : goal.loop-net-preserved
loop-net-preserved c =
    let few = c.loop-net-test.true in (
      (λ p o.
          net-next _ o.routable o.due-is (c.loop-net.invariant.0 _ o) c.loop-net-test.true c.begin_net-turns.ensures.idle c.begin_net-turns.ensures.begun
          (places (goal.at.loop-net-preserved c).At-loop-net _) c.args.walk.over c.follow_net.ensures.value
          (λ q. c.follow_net.ensures.net_answered _ q) c.in_ok-tariff.was
          c.end_net.ensures.passed c.end_net.ensures.ended),
      omega arith,
      work-same (goal.at.loop-net-preserved c).After-follow_net,
    )

pub returns : goal.returns
returns c = record { same_from = c.loop-net.invariant.2; nets_answered = λ p o. nets-all _ (c.loop-net.invariant.0 _ o) c.loop-net.invariant.1 c.loop-net-test.false }
