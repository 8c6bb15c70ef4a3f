-- `pins::sink_pins` meets its contract: what `all` says of the kinds is the rule's own test.
-- Assumes nothing.
use Rattle.std.proofs.Common.{rules, tests, get_or, ◌∙◌, sym}
use Rattle.std.proofs.lemmas.Iterator.{YieldsList-from_slice}
use Rattle.std.proofs.lemmas.Iterator.Search.{all_from_yields_List}
use Rattle.search.proofs.KeptLaws.{every_all}
use Rattle.job.specs.Tables.{pins_of, sink_kind}
use Rattle.job.proofs.pins.sink_pins.Goals as goal

pub returns : goal.returns
unfolding pins_of
returns c =
    all_from_yields_List (λ v. sink_kind (get_or c.args.kind.now v 0)) _ _ _ c.all.ensures.ran (YieldsList-from_slice c.args.sink.now cc) (λ x b q k. search (rules, tests))
    ∙ sym (every_all (λ v. sink_kind (get_or c.args.kind.now v 0)) c.args.sink.now)
