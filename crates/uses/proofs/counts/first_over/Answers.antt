-- `counts::first_over` meets its contract: no kind before k has too many uses.
-- Assumes nothing.
use native.Mathlib.Omega.{arith}
use Rattle.std.proofs.Common.{sym, rules}
use borrow.Author.Tests.{lt-ltb, le-ltb}
use Rattle.uses.proofs.CountsLaws.{scanning_none, scanning_more, scanning_over, scanning_all, logs_fit, product_fits}
use Rattle.uses.proofs.counts.first_over.Goals as goal

pub loop-k-init : goal.loop-k-init
loop-k-init c = scanning_none _

pub overflow_mul-logs : goal.overflow_mul-logs
overflow_mul-logs c = omega (arith, logs_fit c.requires.3)

pub overflow_mul-logs-in-loop-k : goal.overflow_mul-logs-in-loop-k
overflow_mul-logs-in-loop-k c = omega (arith, product_fits c.requires.3 (c.requires.2 c.loop-k.k (search rules)))

pub returns-then-logs-nodes : goal.returns-then-logs-nodes
returns-then-logs-nodes c =
    (scanning_over c.loop-k.invariant (search rules) (lt-ltb _ _ c.if-logs-nodes.true), search rules)

pub loop-k-preserved : goal.loop-k-preserved
loop-k-preserved c = scanning_more c.loop-k.invariant (search rules) (le-ltb _ _ c.if-logs-nodes.false)

pub returns : goal.returns
returns c = sym (scanning_all c.loop-k.invariant (search rules))
