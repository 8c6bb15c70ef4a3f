-- The tariff after each step that brings it up to date. Only contracts of private functions cite this file: no caller has to believe it.
-- Assumes nothing.
use Rattle.std.specs.Prelude.{Bool, ℕ, ◌+◌}
use Rattle.price.specs.Prices.{next_factor}
use Rattle.price.specs.declared.Tuning.{Tuning}
use Rattle.negotiation.specs.declared.tariff.Tariff.{Tariff}

-- after a turn of so many words that expanded so many nodes is logged
abbrev pub logged_tariff : Tariff → (count expanded : ℕ) → Tariff
logged_tariff t count expanded =
    record {
      iteration = t.iteration;
      factor = t.factor;
      turns = t.turns + 1;
      words = t.words + count;
      aimed = t.aimed;
      expanded = t.expanded + expanded;
    }

-- at an iteration's end, "factor move on"
abbrev pub ended_tariff : Tuning → Tariff → Tariff
ended_tariff g t =
    record {
      iteration = t.iteration;
      factor = next_factor g t.iteration t.factor;
      turns = t.turns;
      words = t.words;
      aimed = t.aimed;
      expanded = t.expanded;
    }

-- at the next iteration's start
abbrev pub started_tariff : Tariff → Tariff
started_tariff t =
    record {
      iteration = t.iteration + 1;
      factor = t.factor;
      turns = t.turns;
      words = t.words;
      aimed = t.aimed;
      expanded = t.expanded;
    }

-- where a run goes on by the search that is chosen, and no nodes are counted yet
abbrev pub going_on : Tariff → Bool → Tariff
going_on t aimed =
    record { iteration = t.iteration; factor = t.factor; turns = t.turns; words = t.words; aimed = aimed; expanded = 0 }
