-- `search::turn::least_price` meets its contract. The invariant: `least` is at most the price of each goal that was passed.
-- Assumes nothing.
use lib.ListN.{length}
use Rattle.search.specs.Clamped.{price_read}
use Rattle.search.specs.TurnWork.{LeastGoal}
use Rattle.search.proofs.turn.least_price.Given as goal

abbrev pub invariant-loop-sink : goal.invariant-loop-sink
invariant-loop-sink l = LeastGoal (length l.tables.kind.now) (price_read l.tables l.prices) l.sinks l.work l.sink-index l.least
