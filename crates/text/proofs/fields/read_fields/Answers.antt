-- `fields::read_fields` meets its contract: each turn reads one more field, and after the last comes the line's end.
-- Assumes nothing.
use mathlib.Core.Bool.{not}
use mathlib.Core.Path.{◌≡◌, refl}
use native.Mathlib.Omega.{arith}
use Rattle.std.proofs.Common.{ap}
use Rattle.search.proofs.KeptLaws.{refused, passed}
use Rattle.text.specs.Lines.{lf}
use Rattle.text.proofs.FieldLaws.{begins-within, none_yet, field-fault, field-more, end-there, end-missing}
use Rattle.text.proofs.fields.read_fields.Goals as goal

pub loop-k-init : goal.loop-k-init
loop-k-init c = record { text = refl; so_far = none_yet c.args.count c.args.r.at c.args.r.text.now _ refl }

pub returns-in_default : goal.returns-in_default
returns-in_default c =
    let value = rw c.loop-k.invariant.text at c.comma_field.ensures.value in
    record { value = field-fault c.loop-k.invariant.so_far c.requires c.loop-k-test.true c.in_default.is value; fields_place = tt }

pub loop-k-preserved : goal.loop-k-preserved
loop-k-preserved c =
    let same = c.loop-k.invariant.text in
    let value = rw same at c.comma_field.ensures.value in
    let place = rw same at c.comma_field.ensures.field_place in
    record { text = same; so_far = field-more c.loop-k.invariant.so_far c.requires c.loop-k-test.true c.in-Some.is value place }

pub returns-then-not-byte_is : goal.returns-then-not-byte_is
returns-then-not-byte_is c =
    let all : c.loop-k.k ≡ c.args.count = omega arith in
    let so_far = rw all at c.loop-k.invariant.so_far in
    let other = rw c.loop-k.invariant.text at (refused c.byte_is.ensures (ap not c.if-not-byte_is.true)) in
    record { value = end-missing so_far other; fields_place = tt }

pub overflow_add-result : goal.overflow_add-result
overflow_add-result c =
    let there = rw c.loop-k.invariant.text at (passed c.byte_is.ensures (ap not c.if-not-byte_is.false)) in
    let good = c.well_formed in
    omega (arith, good, begins-within lf c.loop-k.reader.at c.args.r.text.now there)

pub returns : goal.returns
returns c =
    let all : c.loop-k.k ≡ c.args.count = omega arith in
    let so_far = rw all at c.loop-k.invariant.so_far in
    let there = rw c.loop-k.invariant.text at (passed c.byte_is.ensures (ap not c.if-not-byte_is.false)) in
    record {
      value = end-there so_far there;
      fields_place = (omega (arith, c.loop-k.invariant.so_far.on), omega (arith, begins-within lf c.loop-k.reader.at c.args.r.text.now there));
    }
