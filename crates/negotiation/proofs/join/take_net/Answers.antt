-- `join::take_net` meets its contract: the places that net k lists are taken where its source is the net's.
-- Assumes nothing.
use Prim.Native.Nat.{◌+◌}
use native.Mathlib.Nat.{le_trans}
use Rattle.std.proofs.Common.{rules}
use Rattle.negotiation.proofs.JoiningLaws.{has-taken_other, has-taken-listed}
use Rattle.negotiation.proofs.join.take_net.Goals as goal

pub returns-then-job-k : goal.returns-then-job-k
returns-then-job-k c =
    let args = c.args in
    λ before taken has-taken. has-taken_other args.job.now.source.now args.job.now.first_sink.now args.net args.k taken c.if-job-k.true has-taken

pub take_listed-requires : goal.take_listed-requires
take_listed-requires c =
    let tables = c.requires.joinable.0 in
    let k = c.args.k in
    record {
      from_le_to = (tables.order k c.requires.net_in_bounds.1, tables.end (k + 1) (search rules), tables.sinks-few);
      all_below = λ i l. le_trans (tables.sinks-below i l) c.requires.joinable.1.seen-room;
      from_in_bounds = c.requires.k_in_bounds c.if-job-k.false;
    }

pub returns : goal.returns
returns c =
    let args = c.args in
    λ before taken has-taken.
    has-taken-listed args.job.now.source.now args.job.now.first_sink.now args.net args.k taken c.if-job-k.false (c.take_listed.ensures before taken has-taken)
