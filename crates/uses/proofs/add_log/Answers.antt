-- `add_log` meets its contract: what the test of the counts refuses, else what the log gets.
-- Assumes nothing.
use Rattle.std.proofs.lemmas.Result.{err_from_is_err_and}
use Rattle.search.specs.Block.{block_in}
use Rattle.search.proofs.BlockLaws.{sound_of}
use Rattle.uses.specs.Uses.{use_counts_of}
use Rattle.uses.proofs.AnswerLaws.{test_fine, uses-low, add_refused, add_fine}
use Rattle.uses.proofs.add_log.Goals as goal

pub returns-in_err-test_counts : goal.returns-in_err-test_counts
returns-in_err-test_counts c =
    let p = err_from_is_err_and c.from_residual.result c.from_residual.ensures.1 in
    record { answers = rw (p.1, p.2) (add_refused _ (use_counts_of c.args.uses.now c.args.logs) _ _ c.in_err-test_counts.ensures) }

pub add_tested-requires : goal.add_tested-requires
add_tested-requires c =
    let b = block_in c.args.tables.now in
    let fine = test_fine b (use_counts_of c.args.uses.now c.args.logs) c.in_ok-test_counts.ensures in
    ((sound_of b fine.sound).kinds_sound_lem, uses-low b (use_counts_of c.args.uses.now c.args.logs) fine)

pub returns : goal.returns
returns c = record { answers = add_fine _ _ _ c.in_ok-test_counts.ensures c.add_tested.ensures }
