-- `terms_of` meets its contract: each entry stands in its field.
-- Assumes nothing.
use mathlib.Core.List.{List}
use mathlib.Core.Path.{◌≡◌}
use Prim.Native.Nat.{ℕ}
use lib.Dec.{leb}
use lib.ListN.{get_or}
use Rattle.job.specs.Job.{plain_terms}
use Rattle.job.specs.declared.Terms.{Terms}
use Rattle.capi.specs.Calls.{terms_of}
use Rattle.capi.proofs.terms_of.Goals as goal

-- in the order in which the code reads the entries
each_in_its_field : (ts : List ℕ) {t : Terms} {first up down step limit rule until timed : ℕ} → t ≡ plain_terms 0
    → first ≡ get_or ts 1 t.tuning.first → up ≡ get_or ts 2 t.tuning.up → down ≡ get_or ts 3 t.tuning.down → step ≡ get_or ts 4 t.tuning.step
    → limit ≡ get_or ts 0 0 → rule ≡ get_or ts 5 t.rule → until ≡ get_or ts 6 t.until → timed ≡ get_or ts 7 0
    → ◌≡◌ {A = Terms} (record { limit = limit; tuning = record { first = first; up = up; down = down; step = step }; rule = rule; until = until; timed = leb 1 timed }) (terms_of ts)
each_in_its_field ts plain first up down step limit rule until timed = rw (first, up, down, step, limit, rule, until, timed, plain)

pub returns : goal.returns
returns c =
    each_in_its_field c.args.terms.now
    c.plain_terms-plain.ensures
    c.entry_or.ensures
    c.entry_or-2.ensures
    c.entry_or-3.ensures
    c.entry_or-4.ensures
    c.entry_or-5.ensures
    c.entry_or-6.ensures
    c.entry_or-7.ensures
    c.entry_or-8.ensures
