-- `ask::whole_field` meets its contract: a number that ends its field, within its bounds.
-- Assumes nothing.
use Rattle.std.proofs.Common.{sym, ◌∙◌}
use Rattle.generator.proofs.ask.AskLaws.{whole_fault, whole_open, whole_low, whole_high, whole_is}
use Rattle.generator.proofs.ask.whole_field.Goals.{then-not-field_ends-via-then-not-field_ends, then-not-field_ends-via-else-not-field_ends+then-field-low, then-not-field_ends-via-else-not-field_ends+else-field-low+then-high-field}
use Rattle.generator.proofs.ask.whole_field.Goals as goal

pub returns-in_err-field : goal.returns-in_err-field
returns-in_err-field c =
    rw c.from_residual.ensures record { value = sym (whole_fault _ _ _ _ (sym c.in_err-field.ensures.value)); field_within = tt }

pub returns-then-not-field_ends : goal.returns-then-not-field_ends
returns-then-not-field_ends c =
    let read = sym c.in_ok-field.ensures.value in
    elim c.then-not-field_ends.branch [
      | then-not-field_ends-via-then-not-field_ends w ↦ record {
        value = sym (whole_open _ _ _ _ read (sym c.field_ends.ensures ∙ w.if-not-field_ends.true));
        field_within = tt;
      }
      | then-not-field_ends-via-else-not-field_ends+then-field-low w ↦ record {
        value = sym (whole_low _ _ _ _ read w.if-field-low.true);
        field_within = tt;
      }
      | then-not-field_ends-via-else-not-field_ends+else-field-low+then-high-field w ↦ record {
        value = sym (whole_high _ _ _ _ read w.if-high-field.true);
        field_within = tt;
      }
    ]

pub returns : goal.returns
returns c =
    let read = c.in_ok-field.ensures in
    record {
      value =
          sym
          (whole_is _ _ _ _ (sym read.value) (sym c.field_ends.ensures ∙ c.if-not-field_ends.false)
          c.if-field-low.false c.if-high-field.false);
      field_within = (read.asked_field_place, c.if-field-low.false, c.if-high-field.false);
    }
