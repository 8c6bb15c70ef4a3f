-- `load_text` meets its contract: the text or the line that the input asks for, either of which the buffer has room for.
-- Assumes nothing.
use Rattle.std.proofs.Common.{arith}
use Rattle.generator.proofs.LoadTextLaws.{load_size}
use Rattle.generator.proofs.AnswerLaws.{shown_load, shown_away, line_size}
use Rattle.generator.proofs.load_text.Goals as goal

pub put_load-requires : goal.put_load-requires
put_load-requires c =
    let load = c.in-Ok.load in
    let w = c.in-Ok.ensures.ask_within in
    let size = load_size load.seed load.nodes load.nets w.0 w.1 w.2 w.3 in
    (w.0, w.1, omega arith)

pub put_refusal-requires : goal.put_refusal-requires
put_refusal-requires c =
    let size = line_size c.in-Err.away.place in
    omega arith

pub returns-in-Ok : goal.returns-in-Ok
returns-in-Ok c = record { answers = shown_load _ c.in-Ok.ensures.value c.put_load.ensures }

pub returns-in-Err : goal.returns-in-Err
returns-in-Err c = record { answers = shown_away _ c.in-Err.ensures.value c.put_refusal.ensures }
