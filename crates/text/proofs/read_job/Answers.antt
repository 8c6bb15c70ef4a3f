-- `text::read_job` meets its contract: all lines are read into tables of its own, and the job is written over those that were lent.
-- Assumes nothing.
use native.Mathlib.Omega.{arith}
use Rattle.text.specs.ReadReplies.{Tables, tables_of, read_reply_of}
use Rattle.text.proofs.OptionalLineLaws.{passed_on}
use Rattle.text.proofs.ReadJobLaws.{job_read_lem, job-stopped, job-counts}
use Rattle.text.proofs.read_job.Goals.{Start}
use Rattle.text.proofs.read_job.Goals as goal

abbrev lent : Start → Tables
lent s = let a = s.args in tables_of a.kind.now a.capacity.now a.first_edge.now a.edge_target.now a.source.now a.first_sink.now a.sink.now a.delay.now a.criticality.now

pub store_job-requires : goal.store_job-requires
store_job-requires c =
    let counts = job-counts c.in_ok-counts.was c.read_lines.ensures.job_place in record {
      room_for_all = record {
        kinds-long = omega arith;
        capacities-long = omega arith;
        delays-long = omega arith;
        edge-room = record { firsts-long = omega arith; targets-long = omega arith };
        net-room = record { sources-long = omega arith; firsts-long = omega arith; sinks-long = omega arith; criticalities-long = omega arith };
      };
      counts_within = (counts.0, counts.1);
    }

pub returns : goal.returns
returns c =
    let lines = c.read_lines in
    let read = lines.ensures.criticality_after in
    let l = lines.new in
    let left = c.store_job.new in record {
      answers = job_read_lem c.args.text.now lines.result read.0 l.kind l.capacity l.first_edge l.edge_target l.source l.first_sink l.sink l.delay l.criticality
          read.1 (lent (goal.at.returns c).Start)
          (read_reply_of c.store_job.result
          (tables_of left.kind left.capacity left.first_edge left.edge_target left.source left.first_sink left.sink left.delay left.criticality))
          c.in_ok-counts.was c.store_job.ensures;
    }

pub returns-in_err-counts : goal.returns-in_err-counts
returns-in_err-counts c =
    let lines = c.read_lines in
    let read = lines.ensures.criticality_after in
    let l = lines.new in record {
      answers = rw (passed_on c.from_residual.result c.from_residual.ensures.1)
          (job-stopped c.args.text.now lines.result read.0 l.kind l.capacity l.first_edge l.edge_target l.source l.first_sink l.sink l.delay l.criticality
          read.1 (lent (goal.at.returns-in_err-counts c).Start) c.in_err-counts.was);
    }
