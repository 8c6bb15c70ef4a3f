-- `counts::test_counts` meets its contract: the tables first, then the logs, then each kind by the nodes counted.
-- Assumes nothing.
use mathlib.Core.Path.{refl}
use Prim.Native.Nat.{ℕ}
use native.Mathlib.Omega.{arith}
use lib.ListN.{get_or-replicate}
use Rattle.std.proofs.lemmas.Result.{err_from_is_err_and}
use Rattle.search.specs.Block.{block_in}
use Rattle.search.proofs.BlockLaws.{sound_of}
use Rattle.uses.specs.Uses.{kind_count}
use Rattle.uses.proofs.TallyLaws.{tallied-long}
use Rattle.uses.proofs.CountsLaws.{no_fault, few-nodes, found-most, refused_table, refused-logs, refused_kind, refused_none}
use Rattle.std.proofs.Common.{rules}
use Rattle.uses.proofs.counts.test_counts.Goals as goal

pub returns-in_err-faulty_block : goal.returns-in_err-faulty_block
returns-in_err-faulty_block c =
    let p = err_from_is_err_and c.from_residual.result c.from_residual.ensures.1 in
    rw (p.1, p.2) (refused_table (block_in c.args.tables.now) _ _ c.in_err-faulty_block.ensures)

pub returns-then-logs-gt-LOGS_MOST : goal.returns-then-logs-gt-LOGS_MOST
returns-then-logs-gt-LOGS_MOST c = refused-logs _ _ (no_fault (block_in c.args.tables.now) c.in_ok-faulty_block.ensures) (search rules)

pub tally-requires : goal.tally-requires
tally-requires c =
    let b = block_in c.args.tables.now in
    let sound = no_fault b c.in_ok-faulty_block.ensures in
    record {
      kind_value = ((sound_of b sound).kinds_sound_lem, few-nodes b sound);
      sums_len = (refl, λ k l. let zero = get_or-replicate {A = ℕ} kind_count k 0 0 l in omega arith);
    }

pub first_over-requires : goal.first_over-requires
first_over-requires c =
    let b = block_in c.args.tables.now in
    let sound = no_fault b c.in_ok-faulty_block.ensures in
    (search rules, rw c.tally.ensures (tallied-long _ _ _), found-most b sound c.tally.ensures, search rules)

pub returns-in-Some : goal.returns-in-Some
returns-in-Some c =
    let b = block_in c.args.tables.now in
    refused_kind b _ (no_fault b c.in_ok-faulty_block.ensures) (search rules) c.tally.ensures c.in-Some.ensures

pub returns-in-None : goal.returns-in-None
returns-in-None c =
    let b = block_in c.args.tables.now in
    refused_none b _ (no_fault b c.in_ok-faulty_block.ensures) (search rules) c.tally.ensures c.in-None.ensures
