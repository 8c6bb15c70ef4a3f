-- `lines::put_uses` meets its contract: the text is written where it surely fits, which tells its length, then where it is asked for.
-- Assumes nothing.
use mathlib.Core.Path.{refl}
use Prim.Native.Nat.{ℕ}
use native.Mathlib.Omega.{arith}
use lib.ListN.{get_or-replicate}
use Rattle.search.proofs.BlockLaws.{kinds-few, capacities-long}
use Rattle.uses.specs.Uses.{kind_count}
use Rattle.uses.proofs.lines.LineLaws.{widened_long, totals_of, totals_fit, lines_size, text_fits, printed-short, printed-all}
use Rattle.std.proofs.Common.{rules}
use Rattle.uses.proofs.lines.put_uses.Goals as goal

pub widen-requires : goal.widen-requires
widen-requires c =
    omega (arith, capacities-long _ _ c.requires.1, kinds-few _ c.requires.0)

pub tally-requires : goal.tally-requires
tally-requires c =
    let few = kinds-few _ c.requires.0 in
    let wide = widened_long c.args.capacity.now _ c.widen.ensures (capacities-long _ _ c.requires.1) few in
    record {
      kind_value = (c.requires.0, omega (arith, wide, few));
      sums_len = (refl, λ k l. let zero = get_or-replicate {A = ℕ} kind_count k 0 0 l in omega arith);
    }

pub put_lines-needed-requires : goal.put_lines-needed-requires
put_lines-needed-requires c =
    let t = totals_of _ _ c.requires.0 c.requires.1 c.widen.ensures c.tally.ensures in
    record {
      uses_len = (search rules, t.long);
      by_index = totals_fit _ _ c.requires.0 c.requires.1 t c.requires.2;
      kind_count_in_bounds = lines_size c.args.uses.now _ c.args.logs;
    }

pub returns-then-buffer-needed : goal.returns-then-buffer-needed
returns-then-buffer-needed c =
    let t = totals_of _ _ c.requires.0 c.requires.1 c.widen.ensures c.tally.ensures in
    printed-short _ _ t c.put_lines-needed.ensures (search rules)

pub put_lines-requires : goal.put_lines-requires
put_lines-requires c =
    let t = totals_of _ _ c.requires.0 c.requires.1 c.widen.ensures c.tally.ensures in
    record {
      uses_len = (search rules, t.long);
      by_index = totals_fit _ _ c.requires.0 c.requires.1 t c.requires.2;
      kind_count_in_bounds = text_fits c.args.uses.now c.args.logs t c.put_lines-needed.ensures (search rules);
    }

pub returns : goal.returns
returns c =
    let t = totals_of _ _ c.requires.0 c.requires.1 c.widen.ensures c.tally.ensures in
    printed-all c.args.uses.now c.args.logs t c.put_lines.ensures
    (text_fits c.args.uses.now c.args.logs t c.put_lines-needed.ensures (search rules))
