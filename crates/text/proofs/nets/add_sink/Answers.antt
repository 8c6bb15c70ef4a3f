-- `text::nets::add_sink` meets its contract: the line that is read stands in the tables, and its node bears the stamp.
-- Assumes nothing.
use mathlib.Core.Bool.{Bool}
use mathlib.Core.List.{List}
use mathlib.Core.Path.{refl}
use Prim.Native.Nat.{ℕ, ◌-◌, ◌<◌}
use native.Mathlib.Omega.{arith}
use lib.ListN.{drop}
use Rattle.search.specs.Replies.{sinks_most}
use Rattle.job.specs.Tables.{sink_kind}
use Rattle.text.specs.JobText.{Reading, sink_line, taking, of_kind}
use Rattle.text.specs.Steps.{three_of}
use Rattle.text.proofs.NetLineLaws.{bearing, bearing_marked, sink-few, sink_reading, sink-refused, sink_place}
use Rattle.text.specs.declared.nets.NetCursor.{NetCursor}
use Rattle.text.proofs.OptionalLineLaws.{passed_on}
use Rattle.text.proofs.nets.add_sink.Goals.{In_ok-read}
use Rattle.text.proofs.nets.add_sink.Goals as goal

-- what a T line gives
abbrev reading : Bool → List ℕ → ℕ → ℕ → NetCursor → List ℕ → List ℕ → Reading (List ℕ)
reading timed kinds nodes nets c text pins = of_kind sink_kind kinds (taking three_of (sink_line timed nodes nets (c.nets - 1) pins c.sinks (drop c.at text)))

-- a sink that is read was not one too many
few : (c : In_ok-read) → c.args.c.sinks < sinks_most
few c =
    let a = c.args in
    let pins = bearing a.counts.nodes a.c.nets a.seen.now in
    let marked = bearing_marked a.c.nets a.seen.now a.counts.nodes in
    sink-few a.counts.terms.timed a.kind.now a.counts.nodes a.counts.nets (a.c.nets - 1) pins a.c.sinks (drop a.c.at a.text.now)
    (sink_reading (a.c.nets - 1) a.text.now {r = reading a.counts.terms.timed a.kind.now a.counts.nodes a.counts.nets a.c a.text.now pins} (c.sink_line.ensures.by_index pins marked) c.in_ok-read.was)

pub offset_bounds-sink-c : goal.offset_bounds-sink-c
offset_bounds-sink-c c = omega (arith, few c)

pub bounds-sink-c : goal.bounds-sink-c
bounds-sink-c c = omega (arith, few c)

pub bounds-criticality-c : goal.bounds-criticality-c
bounds-criticality-c c = omega (arith, few c)

pub bounds-seen-read : goal.bounds-seen-read
bounds-seen-read c =
    let a = c.args in
    omega (arith, (sink_place a.counts.nodes a.c.at a.text.now c.in_ok-read.was c.sink_line.ensures.sink_place).1)

pub overflow_add-result-2 : goal.overflow_add-result-2
overflow_add-result-2 c = omega (arith, few (goal.at.overflow_add-result-2 c).In_ok-read)

pub returns : goal.returns
returns c =
    let a = c.args in
    let is = c.in_ok-read.was in
    let place = sink_place a.counts.nodes a.c.at a.text.now is c.sink_line.ensures.sink_place in
    λ pins m. (
      _,
      _,
      sink_reading (a.c.nets - 1) a.text.now {r = reading a.counts.terms.timed a.kind.now a.counts.nodes a.counts.nets a.c a.text.now pins} (c.sink_line.ensures.by_index pins m) is,
      place.1,
      place.0,
      refl,
      refl,
      refl,
      refl,
      refl,
      refl,
      refl,
    )

pub returns-in_err-read : goal.returns-in_err-read
returns-in_err-read c =
    let a = c.args in
    rw (passed_on c.from_residual.result c.from_residual.ensures.1)
    (λ pins m. sink-refused (a.c.nets - 1) a.text.now {r = reading a.counts.terms.timed a.kind.now a.counts.nodes a.counts.nets a.c a.text.now pins} (c.sink_line.ensures.by_index pins m) c.in_err-read.was)
