-- `write_uses` meets its contract: what the test of the counts refuses, else the text.
-- Assumes nothing.
use native.Mathlib.Omega.{arith}
use Rattle.std.proofs.lemmas.Result.{err_from_is_err_and}
use Rattle.search.specs.Block.{block_in}
use Rattle.search.proofs.BlockLaws.{sound_of}
use Rattle.uses.specs.Uses.{use_counts_of}
use Rattle.uses.proofs.AnswerLaws.{test_fine, print_refused, print_fine}
use Rattle.uses.proofs.write_uses.Goals as goal

pub returns-in_err-test_counts : goal.returns-in_err-test_counts
returns-in_err-test_counts c =
    let p = err_from_is_err_and c.from_residual.result c.from_residual.ensures.1 in
    record { answers = rw (p.1, p.2) (print_refused _ _ _ _ c.in_err-test_counts.ensures) }

pub put_uses-requires : goal.put_uses-requires
put_uses-requires c =
    let b = block_in c.args.tables.now in
    let fine = test_fine b (use_counts_of c.args.uses.now c.args.logs) c.in_ok-test_counts.ensures in
    let sound = sound_of b fine.sound in
    (sound.kinds_sound_lem, sound.capacities_sound_lem, omega (arith, fine.few))

pub returns : goal.returns
returns c = record { answers = print_fine _ _ _ c.in_ok-test_counts.ensures c.put_uses.ensures }
