-- `flow::respond` meets its contract: an input that is too long, and what the answer of a run leaves to print.
-- Assumes nothing.
use Rattle.text.specs.ReadReplies.{tables_of}
use Rattle.flow.specs.RunReplies.{lent_of}
use Rattle.flow.proofs.RunLaws.{too_long, shown_out}
use Rattle.std.proofs.Common.{rules}
use Rattle.flow.proofs.respond.Goals as goal

pub returns-then-input-gt-BYTES : goal.returns-then-input-gt-BYTES
returns-then-input-gt-BYTES c = record { answers = too_long _ _ _ _ _ _ _ _ (search rules) c.write_refusal.ensures }

pub returns : goal.returns
returns c =
    let a = c.args in
    let run = c.run-answer in
    let l = run.new in
    let put = c.put_answer in
    let tables = tables_of a.kind.now a.capacity.now a.first_edge.now a.edge_target.now a.source.now a.first_sink.now a.sink.now
    a.delay.now a.criticality.now in
    let left = tables_of l.kind l.capacity l.first_edge l.edge_target l.source l.first_sink l.sink l.delay l.criticality in
    record {
      answers = shown_out a.style a.input.now (lent_of tables a.work.now a.log.now a.routes.now) (search rules) run.result
          left l.work l.log l.routes put.result put.new.routes run.ensures.answers put.ensures;
    }
