-- `negotiation::records::copy_path` meets its contract: after the turns up to k, k nodes are copied.
-- Assumes nothing.
use mathlib.Core.List.{List, append_assoc}
use mathlib.Core.Path.{◌≡◌, refl, ◌∙◌}
use Prim.Native.Nat.{ℕ, ◌+◌, ◌^◌, ◌≤◌, ◌<◌}
use native.Mathlib.Numerals.{add-one}
use native.Mathlib.Omega.{arith}
use lib.ListN.{length, get_or, take, drop, length-set}
use lib.Seq.{length-take-le, get_or-take, paste-zero, paste-suc}
use Rattle.job.specs.Steps.{AllBelow}
use Rattle.negotiation.proofs.records.copy_path.Goals as goal

-- an entry of a beginning
below : (m : ℕ) (xs : List ℕ) (n k : ℕ) → n ≤ length xs → k < n → AllBelow m (take n xs) → get_or xs k 0 < m
below m xs n k h l all = rw (get_or-take n xs k 0 l) at (all k (rw (length-take-le n xs h) l))

pub loop-k-init : goal.loop-k-init
loop-k-init c = (omega arith, refl, paste-zero c.args.log.now c.args.at c.args.work.now)

pub overflow_cast-log : goal.overflow_cast-log
overflow_cast-log c =
    let k = c.loop-k.k in
    let args = c.args in
    record { fits = below (2 ^ 32) args.work.now args.count k (omega arith) (omega arith) c.requires.all_below }

pub loop-k-preserved : goal.loop-k-preserved
loop-k-preserved c =
    let args = c.args in (
      omega arith,
      simp length-set c.loop-k.invariant.1,
      rw (c.loop-k.invariant.2, add-one) (paste-suc args.log.now args.at args.work.now c.loop-k.k 0 (omega arith) (omega arith)),
    )

pub shape_of-log : goal.shape_of-log
shape_of-log c = c.loop-k.invariant.1

pub returns : goal.returns
returns c =
    let args = c.args in
    let end : c.loop-k.k ≡ args.count = omega arith in
    c.loop-k.invariant.2
    ∙ rw end (append_assoc (take args.at args.log.now) (take args.count args.work.now) (drop (args.at + args.count) args.log.now))
