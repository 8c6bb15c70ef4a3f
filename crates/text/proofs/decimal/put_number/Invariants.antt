-- `decimal::put_number` meets its contract. The loop's invariant: the digits behind the place stand, and what is left has the others.
-- Assumes nothing.
use mathlib.Core.Path.{◌≡◌}
use lib.ListN.{length}
use Rattle.text.specs.Decimal.{decimal}
use Rattle.text.proofs.PlacedLaws.{Writing}
use Rattle.text.proofs.decimal.put_number.Given as goal

abbrev pub invariant-loop-k : goal.invariant-loop-k
invariant-loop-k l = (l.count ≡ length (decimal l.n)) × Writing l.at l.n l.initial.buffer l.buffer l.left l.k
