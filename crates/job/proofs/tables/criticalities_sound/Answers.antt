-- `tables::criticalities_sound` meets its contract: what `all` says of the criticalities is the rule's own test.
-- Assumes nothing.
use Rattle.std.proofs.Common.{rules, tests, leb, ◌∙◌, sym}
use Rattle.std.proofs.lemmas.Iterator.{YieldsList-from_slice}
use Rattle.std.proofs.lemmas.Iterator.Search.{all_from_yields_List}
use Rattle.price.specs.Bounds.{criticality_most}
use Rattle.search.proofs.KeptLaws.{every_all}
use Rattle.job.specs.Tables.{criticalities_sound}
use Rattle.job.proofs.tables.criticalities_sound.Goals as goal

pub returns-then-criticality-sinks : goal.returns-then-criticality-sinks
unfolding criticalities_sound
returns-then-criticality-sinks c =
    let each = all_from_yields_List (λ s. leb s criticality_most) _ _ _ c.all.ensures.ran (YieldsList-from_slice c.args.criticality.now cc) (λ x b q k. search (rules, tests)) ∙ sym (every_all (λ s. leb s criticality_most) c.args.criticality.now) in
    search (rules, tests, each)
