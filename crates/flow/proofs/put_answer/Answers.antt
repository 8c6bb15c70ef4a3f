-- `flow::put_answer` meets its contract: each answer by its own line.
-- Assumes nothing.
use Rattle.flow.proofs.put_answer.Goals as goal

pub returns-in-Err : goal.returns-in-Err
returns-in-Err c = rw c.in-Err.is c.write_refusal.ensures
