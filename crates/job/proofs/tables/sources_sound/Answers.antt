-- `tables::sources_sound` meets its contract: what `all` says of the sources is the rule's own test.
-- Assumes nothing.
use Rattle.std.proofs.Common.{rules, tests, ltb, ◌∙◌, sym}
use Rattle.std.proofs.lemmas.Iterator.{YieldsList-from_slice}
use Rattle.std.proofs.lemmas.Iterator.Search.{all_from_yields_List}
use Rattle.search.proofs.KeptLaws.{every_all}
use Rattle.job.specs.Tables.{sources_sound}
use Rattle.job.proofs.tables.sources_sound.Goals as goal

pub returns-then-source-le-NETS_MOST : goal.returns-then-source-le-NETS_MOST
unfolding sources_sound
returns-then-source-le-NETS_MOST c =
    let each = all_from_yields_List (λ s. ltb s c.args.n) _ _ _ c.all.ensures.ran (YieldsList-from_slice c.args.source.now cc) (λ x b q k. search (rules, tests)) ∙ sym (every_all (λ s. ltb s c.args.n) c.args.source.now) in
    search (rules, tests, each)
