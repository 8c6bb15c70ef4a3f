-- `negotiation::routed_from` meets its contract: refusals 5, 15 and 6 by their tests, the rest by the answer of the joined nets.
-- Assumes nothing.
use mathlib.Core.Path.{◌≡◌, refl, sym, subst}
use Prim.Native.Nat.{◌+◌}
use native.Mathlib.Omega.{arith}
use lib.ListN.{length, take}
use lib.Seq.{length-take-le}
use Rattle.job.specs.Job.{job_in}
use Rattle.job.specs.Job.{Job, job_of}
use Rattle.job.specs.Join.{joined}
use Rattle.negotiation.specs.Routable.{Routable}
use Rattle.negotiation.proofs.JoiningLaws.{joined-job}
use Rattle.negotiation.proofs.RefusalLaws.{TestsPass, no_refusal, accepted_passes, refused-counts}
use Rattle.negotiation.proofs.RouteLaws.{given_joinable, given_critical, given_routable, job-refused, joined-answered, joined-counts}
use Rattle.negotiation.proofs.routed_from.Goals.{After-joined_tables-count, In_default, Start}
use Rattle.negotiation.proofs.routed_from.Goals as goal

-- the job that is lent
abbrev job : Start → Job
job e =
    job_in e.args.job.now

-- they pass
module _ (c : In_default) where
  abbrev listed : Job
  listed =
      job_in c.args.job.now

  passes : TestsPass listed (length c.args.work.now)
  passes = accepted_passes listed _ c.refusal_of.ensures (no_refusal _ c.in_default.not-Err)

-- the nets are joined
module _ (c : After-joined_tables-count) where
  abbrev given : Job
  given =
      job_in c.args.job.now

  -- the job of the joined tables
  abbrev made : Job
  made =
      job_of c.args.job.now.block.kind.now c.args.job.now.block.capacity.now c.args.job.now.block.first_edge.now c.args.job.now.block.edge_target.now c.args.job.now.source.now
      (take (length c.args.job.now.source.now + 1) c.joined_tables-count.new.firsts) (take c.joined_tables-count.result c.joined_tables-count.new.sinks)
      c.args.job.now.delay.now (take c.joined_tables-count.result c.joined_tables-count.new.criticalities) c.args.job.now.terms

  made-is : made ≡ joined given
  made-is =
      let block = c.args.job.now.block in
      joined-job c.args.job.now.terms c.joined_tables-count.ensures block.kind.now block.capacity.now block.first_edge.now
      block.edge_target.now c.args.job.now.delay.now

pub joined_tables-count-requires : goal.joined_tables-count-requires
joined_tables-count-requires c =
    let at = (goal.at.joined_tables-count-requires c).In_default in
    let tables = given_joinable (listed at) (passes at) in
    let few = (given_routable (listed at) (passes at)).nets-few in record {
      joinable = tables;
      source_in_bounds = (omega arith, tables.sinks-few);
      criticality_len = (given_critical (listed at) (passes at) _ refl, tables.sinks-few);
    }

pub slice_bounds-joined-end : goal.slice_bounds-joined-end
slice_bounds-joined-end c = sym (length-take-le _ _ c.joined_tables-count.ensures.ends-within)

pub slice_bounds-joined-end-2 : goal.slice_bounds-joined-end-2
slice_bounds-joined-end-2 c = sym (length-take-le _ _ c.joined_tables-count.ensures.within)

pub slice_bounds-joined-end-3 : goal.slice_bounds-joined-end-3
slice_bounds-joined-end-3 c = sym (length-take-le _ _ c.joined_tables-count.ensures.criticalities-within)

pub route_joined-requires : goal.route_joined-requires
route_joined-requires c =
    let at = goal.at.route_joined-requires c in
    (subst Routable (sym (made-is at.After-joined_tables-count)) (given_routable (listed at.In_default) (passes at.In_default)), (passes at.In_default).enough)

pub returns-in-Err : goal.returns-in-Err
returns-in-Err c =
    let lent = job (goal.at.returns-in-Err c).Start in record {
      answers = job-refused c.args.start lent _ _ c.refusal_of.ensures c.in-Err.is _ c.refused.ensures;
      expanded = refused-counts c.args.aimed (joined lent) _ c.refused.result _ c.refused.ensures;
    }

pub returns : goal.returns
returns c =
    let at = (goal.at.returns c).After-joined_tables-count in record {
      answers = joined-answered c.args.start (given at) _ _ c.refusal_of.ensures (no_refusal _ c.in_default.not-Err) (made at) (made-is at) _ c.route_joined.ensures.answers;
      expanded = joined-counts (made at) (made-is at) _ _ _ _ c.route_joined.ensures.expanded;
    }
