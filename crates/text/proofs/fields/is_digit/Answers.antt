-- `fields::is_digit` meets its contract.
-- Assumes nothing.
use Rattle.text.specs.Decimal.{is_digit}
use Rattle.text.proofs.fields.is_digit.Goals as goal

pub returns : goal.returns
unfolding is_digit
returns c = c.is_ascii_digit.ensures.value
