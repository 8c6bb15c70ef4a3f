-- `tables::faulty_with_delays` meets its contract: with no sinks and one entry of work memory the cheapest path is refused, and names the
-- faulty table where one is.
-- Assumes nothing.
use mathlib.Core.Path.{refl}
use Rattle.search.specs.declared.Refusal.TheVariants.{ShortWork, BadNumber, TooLarge}
use Rattle.job.proofs.NetTableLaws.{named_table_refused, named_other, named_none}
use Rattle.job.proofs.tables.faulty_with_delays.Goals as goal

pub returns-in-BadTable : goal.returns-in-BadTable
returns-in-BadTable c = named_table_refused _ _ _ c.in-BadTable.is c.in-Err.ensures.answers

pub returns-in-ShortWork : goal.returns-in-ShortWork
returns-in-ShortWork c = named_other _ _ _ (ShortWork _) c.in-ShortWork.is refl c.in-Err.ensures.answers

pub returns-in-BadNumber : goal.returns-in-BadNumber
returns-in-BadNumber c = named_other _ _ _ (BadNumber _) c.in-BadNumber.is refl c.in-Err.ensures.answers

pub returns-in-TooLarge : goal.returns-in-TooLarge
returns-in-TooLarge c = named_other _ _ _ (TooLarge _) c.in-TooLarge.is refl c.in-Err.ensures.answers

pub returns-in_default : goal.returns-in_default
returns-in_default c = named_none _ _ _ c.in_default.field-0 c.in_default.ensures.answers
