-- `out::put` meets its contract: zeros, then the refusal's numbers and the call's own over them.
-- Assumes nothing.
use Rattle.std.proofs.Common.{◌≡◌, ◌+◌, ◌-◌, List, ℕ, length, drop, replicate, ◌++◌, ap, arith, rules}
use borrow.Rule.Slice.PartMut.{put_mid}
use Rattle.job.specs.Tables.{numbers_if}
use Rattle.capi.specs.Calls.{call_of, out_with, padded}
use Rattle.capi.proofs.PutLaws.{put_over}
use Rattle.capi.proofs.out.put.Goals as goal

pub returns : goal.returns
returns c =
    let own = c.args.own.now in
    let out = c.args.out.now in
    let three : List ℕ = padded 3 (numbers_if c.args.refused) in
    let zeros : c.fill.new.self ≡ replicate 16 0 = search rules in
    let first : c.copy_from_slice.new.self ≡ three = search rules in
    let second : c.copy_from_slice-2.new.self ≡ own = search rules in
    let written :
    put_mid 3 (3 + length own - 3) (c.copy_from_slice.new.self ++ drop 3 (c.fill.new.self ++ drop 16 out)) c.copy_from_slice-2.new.self
    ≡ out_with (numbers_if c.args.refused) own out =
    rw (second, first, zeros) (put_over 13 three own (drop 16 out) (search rules) (omega arith)) in
    ap (call_of 1) written
