-- `search::aimed_turn::move_predecessors` meets its contract.
-- Assumes nothing.
use mathlib.Core.Path.{◌≡◌, ◌∙◌, ap}
use Prim.Native.Nat.{ℕ, ◌+◌, ◌-◌, ◌*◌}
use native.Mathlib.Omega.{arith}
use lib.ListN.{get_or}
use Rattle.search.proofs.aimed_turn.move_predecessors.Goals as goal

pub returns : goal.returns
returns c =
    let n = c.args.n in
    let copied = c.copy_within.ensures.by_index in
    record {
      same =
          record {
            long = c.copy_within.ensures.len;
            low = λ j l. copied.1 j 0 l;
            high = λ j l. copied.2 j 0 (omega arith);
          };
      here = λ v l.
          let place : 4 * n + (n + v - n) ≡ 4 * n + v = omega arith in
          copied.0 (n + v) 0 (omega arith) (omega arith) ∙ ap (λ (j : ℕ). get_or c.args.work.now j 0) place;
    }
