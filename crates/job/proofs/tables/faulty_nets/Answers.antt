-- `tables::faulty_nets` meets its contract: few enough sources for the test of table 6.
-- Assumes nothing.
use mathlib.Core.Path.{sym, ◌∙◌}
use Rattle.job.proofs.JobLaws.{sources-few}
use Rattle.job.proofs.tables.faulty_nets.Goals as goal

pub first_sinks_sound-requires : goal.first_sinks_sound-requires
first_sinks_sound-requires c = sources-few _ _ (sym c.sources_sound.ensures ∙ c.if-not-sources_sound.false)
