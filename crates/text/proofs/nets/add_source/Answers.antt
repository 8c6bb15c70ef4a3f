-- `text::nets::add_source` meets its contract: the line that is read stands in the tables, and its node bears the stamp.
-- Assumes nothing.
use mathlib.Core.List.{List}
use mathlib.Core.Path.{refl}
use Prim.Native.Nat.{ℕ}
use native.Mathlib.Omega.{arith}
use lib.ListN.{drop}
use Rattle.job.specs.Tables.{source_kind}
use Rattle.text.specs.JobText.{Reading, source_line, of_kind}
use Rattle.text.proofs.NetLineLaws.{pin_reading, pin_refused, pin_place}
use Rattle.text.proofs.OptionalLineLaws.{passed_on}
use Rattle.text.proofs.nets.add_source.Goals.{Start}
use Rattle.text.proofs.nets.add_source.Goals as goal

abbrev reading : Start → Reading (List ℕ)
reading s = let a = s.args in of_kind source_kind a.kind.now (source_line a.counts.nodes a.counts.nets a.c.nets (drop a.c.at a.text.now))

pub bounds-seen-pin : goal.bounds-seen-pin
bounds-seen-pin c =
    let a = c.args in
    omega (arith, (pin_place a.counts.nodes a.c.at a.text.now c.in_ok-pin.was c.source_line.ensures.pin_place).1)

pub returns : goal.returns
returns c =
    let a = c.args in
    let is = c.in_ok-pin.was in
    let place = pin_place a.counts.nodes a.c.at a.text.now is c.source_line.ensures.pin_place in
    let same = pin_reading a.c.nets a.text.now {r = reading (goal.at.returns c).Start} c.source_line.ensures.value is in
    (_, same, place.1, place.0, refl, refl, refl, refl, refl, refl, refl)

pub returns-in_err-pin : goal.returns-in_err-pin
returns-in_err-pin c =
    let a = c.args in
    rw (passed_on c.from_residual.result c.from_residual.ensures.1)
    (pin_refused a.c.nets a.text.now {r = reading (goal.at.returns-in_err-pin c).Start} c.source_line.ensures.value c.in_err-pin.was)
