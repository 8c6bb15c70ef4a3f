-- `tables::faulty_job` meets its contract: the block is tested first, and a sound one has few enough nodes for the nets' tests; tables 9
-- and 10 come last.
-- Assumes nothing.
use mathlib.Core.Path.{refl, sym}
use Rattle.std.proofs.lemmas.Result.{err_from_is_err_and}
use Rattle.search.proofs.TestedLaws.{tested_none}
use Rattle.job.specs.Job.{job_in}
use Rattle.job.proofs.NetTableLaws.{block-few, block_refused, nets_refused, times_last}
use Rattle.job.proofs.tables.faulty_job.Goals as goal

pub returns-in_err-faulty_block : goal.returns-in_err-faulty_block
returns-in_err-faulty_block c =
    let p = err_from_is_err_and c.from_residual.result c.from_residual.ensures.1 in
    rw (p.1, p.2) (block_refused (job_in c.args.job.now) c.in_err-faulty_block.ensures)

pub faulty_nets-requires : goal.faulty_nets-requires
faulty_nets-requires c = block-few _ (tested_none _ (sym c.in_ok-faulty_block.ensures))

pub returns-in_err-faulty_nets : goal.returns-in_err-faulty_nets
returns-in_err-faulty_nets c =
    let from = c.from_residual-in_err-faulty_nets in
    let p = err_from_is_err_and from.result from.ensures.1 in
    rw (p.1, p.2) (nets_refused (job_in c.args.job.now) (tested_none _ (sym c.in_ok-faulty_block.ensures)) c.in_err-faulty_nets.ensures)

pub faulty_times-requires : goal.faulty_times-requires
faulty_times-requires c = tested_none _ (sym c.in_ok-faulty_block.ensures)

pub returns : goal.returns
returns c =
    times_last (job_in c.args.job.now) (tested_none _ (sym c.in_ok-faulty_block.ensures)) _ _
    (tested_none _ (sym c.in_ok-faulty_nets.ensures)) refl refl c.faulty_times.ensures
