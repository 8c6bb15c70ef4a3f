-- `search::aim::aim` meets its contract: each return is one of the four things that looking at an edge can do, and keeps the least distances.
-- Assumes nothing.
use mathlib.Core.Path.{refl, sym, ◌∙◌}
use native.Mathlib.Omega.{arith}
use borrow.Author.Tests.{ne_eqb}
use Rattle.std.proofs.lemmas.Bool.{leb-true, leb-false}
use Rattle.price.proofs.TestLaws.{true≢false}
use Rattle.search.specs.Aiming.{over_unlisted, over-shorter, over_lower, over-kept}
use Rattle.search.proofs.aim.BestLaws.{best_pred, low-pred}
use Rattle.search.proofs.aim.aim.Goals.{then-old-d-via-then-old-d, then-old-d-via-else-old-d+then-work-n, then-old-d-via-else-old-d+else-work-n+then-not-listed, then-old-d-2, else-old-d-2}
use Rattle.search.proofs.aim.aim.Goals as goal

pub returns-then-old-d : goal.returns-then-old-d
returns-then-old-d c =
    elim c.then-old-d.branch [
      | then-old-d-via-then-old-d w ↦
          let farther = w.if-old-d.true in
          (over-kept (omega arith) (λ e. absurd (omega arith)) refl, λ s. s, λ s. s)
      | then-old-d-via-else-old-d+then-work-n w ↦
          elim w.if-old-d-2.branch [
            | then-old-d-2 w' ↦
                let same = w'.if-old-d-2.true in
                (over-kept (omega arith) (λ e. leb-true _ _ (sym w'.value-is ∙ w.if-work-n.true)) refl, λ s. s, λ s. s)
            | else-old-d-2 w' ↦ absurd (true≢false (sym w.if-work-n.true ∙ w'.value-is ∙ ne_eqb _ _ w'.if-old-d-2.false))
          ]
      | then-old-d-via-else-old-d+else-work-n+then-not-listed w ↦
          (over_unlisted (sym w.listed.ensures ∙ w.if-not-listed.true) refl, λ s. s, λ s. s)
    ]

pub returns-then-d-old : goal.returns-then-d-old
returns-then-d-old c =
    let made = c.shorten.ensures in
    (over-shorter (sym c.listed.ensures ∙ c.if-not-listed.false) c.if-d-old.true made.0, made.1, made.2)

pub returns : goal.returns
returns c =
    let no-farther = c.if-old-d.false in
    let no-nearer = c.if-d-old.false in (
      over_lower (sym c.listed.ensures ∙ c.if-not-listed.false) (omega arith)
          (elim c.if-old-d-2.branch [
            | then-old-d-2 w ↦ leb-false _ _ (sym w.value-is ∙ c.if-work-n.false)
            | else-old-d-2 w ↦ absurd (w.if-old-d-2.false (omega arith))
          ]) refl,
      best_pred _ _ _ c.requires.ready.1 refl,
      low-pred _ _ _ c.requires.ready.1 refl,
    )
