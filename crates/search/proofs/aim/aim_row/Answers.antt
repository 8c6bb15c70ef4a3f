-- `search::aim::aim_row` meets its contract. The invariant: the row has been looked at up to place e, and r has the least distances.
-- Assumes nothing.
use Rattle.search.proofs.ClampedLaws.{clamped-pos}
use Rattle.search.proofs.aim.AimRows.{row_as, aim_row-none, aim_row-all, aim_row-beyond, aim_row-nearer, aim_row-more}
use Rattle.search.proofs.aim.aim_row.Goals.{then-v-n+then-d-work, else-v-n, else-v-n-via-then-v-n+else-d-work, else-v-n-via-else-v-n}
use Rattle.search.proofs.aim.aim_row.Goals as goal

pub loop-e-init : goal.loop-e-init
loop-e-init c = aim_row-none c.requires.3 c.row_place-e.ensures

pub loop-e-preserved : goal.loop-e-preserved
loop-e-preserved c =
    let ready = c.requires.3 in
    let inv = c.loop-e.invariant in
    let to = c.row_place-to.ensures in
    let more = c.loop-e-test.true in
    elim c.if-v-n.branch [
      | then-v-n+then-d-work w ↦
          let made = w.aim-r.ensures in
          row_as w.work-is w.r-is (aim_row-more ready inv to more w.if-v-n.true w.clamped_price-p.ensures.0 made.0 made.1 made.2)
      | else-v-n w ↦
          elim w.else-v-n.branch [
            | else-v-n-via-then-v-n+else-d-work w' ↦
                row_as w.work-is w.r-is (aim_row-nearer ready inv to more (clamped-pos _ _ _ _) w'.if-d-work.false)
            | else-v-n-via-else-v-n w' ↦ row_as w.work-is w.r-is (aim_row-beyond ready inv to more w'.if-v-n.false)
          ]
    ]

pub returns : goal.returns
returns c =
    let inv = c.loop-e.invariant in
    (aim_row-all c.requires.3 inv c.row_place-to.ensures c.loop-e-test.false, inv.best_aim, inv.low_aim)
