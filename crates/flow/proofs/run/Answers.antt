-- `flow::run` meets its contract: the reader's answer says which parts of the tables are the job's, and the routing of these is the run's.
-- Assumes nothing.
use mathlib.Core.Path.{◌∙◌, sym}
use native.Mathlib.Omega.{arith}
use lib.Seq.{length-take-le}
use Rattle.std.proofs.lemmas.Result.{err_from_is_err_and}
use Rattle.text.specs.ReadReplies.{Tables, tables_of}
use Rattle.flow.proofs.RunLaws.{Taken, read_refused, read_taken}
use Rattle.flow.proofs.run.Goals.{After-read_job, In_ok-counts}
use Rattle.flow.proofs.run.Goals as goal

-- the tables as they are lent, and as the reader leaves them
abbrev lent_at : After-read_job → Tables
lent_at c =
    let a = c.args in
    tables_of a.kind.now a.capacity.now a.first_edge.now a.edge_target.now a.source.now a.first_sink.now a.sink.now
    a.delay.now a.criticality.now

abbrev left_at : After-read_job → Tables
left_at c =
    let l = c.read_job.new in
    tables_of l.kind l.capacity l.first_edge l.edge_target l.source l.first_sink l.sink l.delay l.criticality

pub returns-in_err-counts : goal.returns-in_err-counts
returns-in_err-counts c =
    let d = (goal.at.returns-in_err-counts c).After-read_job in
    let p = err_from_is_err_and c.from_residual.result c.from_residual.ensures.1 in
    record { answers = rw p.1 (read_refused _ _ p.0 p.2 (lent_at d) (left_at d) _ _ _ c.in_err-counts.ensures.answers) }

abbrev lent : In_ok-counts → Tables
lent c =
    let a = c.args in
    tables_of a.kind.now a.capacity.now a.first_edge.now a.edge_target.now a.source.now a.first_sink.now a.sink.now
    a.delay.now a.criticality.now

abbrev left : In_ok-counts → Tables
left c =
    let l = c.read_job.new in
    tables_of l.kind l.capacity l.first_edge l.edge_target l.source l.first_sink l.sink l.delay l.criticality

-- what the counts of a text that is taken mark out
taken : (c : In_ok-counts)
    → Taken c.args.style c.args.text.now c.in_ok-counts.counts.nodes c.in_ok-counts.counts.edges c.in_ok-counts.counts.nets
    c.in_ok-counts.counts.sinks c.in_ok-counts.counts.terms (lent c) (left c)
taken c = read_taken _ _ _ _ _ _ _ _ _ c.in_ok-counts.ensures.answers

pub overflow_add-job : goal.overflow_add-job
overflow_add-job c = let f = (taken (goal.at.overflow_add-job c).In_ok-counts).few-nodes in omega arith

pub overflow_add-job-2 : goal.overflow_add-job-2
overflow_add-job-2 c = let f = (taken (goal.at.overflow_add-job-2 c).In_ok-counts).few-nets in omega arith

pub slice_bounds-job-end : goal.slice_bounds-job-end
slice_bounds-job-end c = (taken (goal.at.slice_bounds-job-end c).In_ok-counts).kinds_fit

pub slice_bounds-job-end-2 : goal.slice_bounds-job-end-2
slice_bounds-job-end-2 c = sym (length-take-le _ _ ((taken (goal.at.slice_bounds-job-end-2 c).In_ok-counts).kinds_fit))

pub slice_bounds-job-end-3 : goal.slice_bounds-job-end-3
slice_bounds-job-end-3 c = (taken (goal.at.slice_bounds-job-end-3 c).In_ok-counts).capacities_fit

pub slice_bounds-job-end-4 : goal.slice_bounds-job-end-4
slice_bounds-job-end-4 c = sym (length-take-le _ _ ((taken (goal.at.slice_bounds-job-end-4 c).In_ok-counts).capacities_fit))

pub slice_bounds-job-end-5 : goal.slice_bounds-job-end-5
slice_bounds-job-end-5 c = (taken (goal.at.slice_bounds-job-end-5 c).In_ok-counts).first_edges_fit

pub slice_bounds-job-end-6 : goal.slice_bounds-job-end-6
slice_bounds-job-end-6 c = sym (length-take-le _ _ ((taken (goal.at.slice_bounds-job-end-6 c).In_ok-counts).first_edges_fit))

pub slice_bounds-job-end-7 : goal.slice_bounds-job-end-7
slice_bounds-job-end-7 c = (taken (goal.at.slice_bounds-job-end-7 c).In_ok-counts).edge_targets_fit

pub slice_bounds-job-end-8 : goal.slice_bounds-job-end-8
slice_bounds-job-end-8 c = sym (length-take-le _ _ ((taken (goal.at.slice_bounds-job-end-8 c).In_ok-counts).edge_targets_fit))

pub slice_bounds-job-end-9 : goal.slice_bounds-job-end-9
slice_bounds-job-end-9 c = (taken (goal.at.slice_bounds-job-end-9 c).In_ok-counts).sources_fit

pub slice_bounds-job-end-10 : goal.slice_bounds-job-end-10
slice_bounds-job-end-10 c = sym (length-take-le _ _ ((taken (goal.at.slice_bounds-job-end-10 c).In_ok-counts).sources_fit))

pub slice_bounds-job-end-11 : goal.slice_bounds-job-end-11
slice_bounds-job-end-11 c = (taken (goal.at.slice_bounds-job-end-11 c).In_ok-counts).first_sinks_fit

pub slice_bounds-job-end-12 : goal.slice_bounds-job-end-12
slice_bounds-job-end-12 c = sym (length-take-le _ _ ((taken (goal.at.slice_bounds-job-end-12 c).In_ok-counts).first_sinks_fit))

pub slice_bounds-job-end-13 : goal.slice_bounds-job-end-13
slice_bounds-job-end-13 c = (taken (goal.at.slice_bounds-job-end-13 c).In_ok-counts).sinks_fit

pub slice_bounds-job-end-14 : goal.slice_bounds-job-end-14
slice_bounds-job-end-14 c = sym (length-take-le _ _ ((taken (goal.at.slice_bounds-job-end-14 c).In_ok-counts).sinks_fit))

pub slice_bounds-job-end-15 : goal.slice_bounds-job-end-15
slice_bounds-job-end-15 c = (taken (goal.at.slice_bounds-job-end-15 c).In_ok-counts).delays_fit _ c.if_timed.ensures

pub slice_bounds-job-end-16 : goal.slice_bounds-job-end-16
slice_bounds-job-end-16 c = sym (length-take-le _ _ ((taken (goal.at.slice_bounds-job-end-16 c).In_ok-counts).delays_fit _ c.if_timed.ensures))

pub slice_bounds-job-end-17 : goal.slice_bounds-job-end-17
slice_bounds-job-end-17 c = (taken (goal.at.slice_bounds-job-end-17 c).In_ok-counts).criticalities_fit _ c.if_timed-2.ensures

pub slice_bounds-job-end-18 : goal.slice_bounds-job-end-18
slice_bounds-job-end-18 c = sym (length-take-le _ _ ((taken (goal.at.slice_bounds-job-end-18 c).In_ok-counts).criticalities_fit _ c.if_timed-2.ensures))

pub returns : goal.returns
returns c =
    let d = (goal.at.returns c).In_ok-counts in
    let runs = (taken d).runs _ _ c.if_timed.ensures c.if_timed-2.ensures _ _ _ in
    record { answers = c.route_job.ensures (left d) ∙ runs }
