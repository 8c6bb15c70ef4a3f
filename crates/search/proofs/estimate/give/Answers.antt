-- `search::estimate::give` meets its contract.
-- Assumes nothing.
use mathlib.Core.Path.{◌≡◌}
use Prim.Native.Nat.{◌*◌}
use lib.ListN.{length}
use Rattle.search.specs.Layout.{dist_at, Tournament}
use Rattle.search.proofs.estimate.GiveLaws.{noted_long, noted_dist, noted_queue}
use Rattle.search.proofs.estimate.give.Goals.{After-wait_to_spread-count}

module _ (c : After-wait_to_spread-count) where
  -- the stores until then: lengths, the node's distance and the queue are as before
  long : length c.wait_to_spread-count.new.work ≡ length c.args.work.now
  long =
      let a = c.args in
      noted_long (length a.kind.now) a.u (a.scale * a.estimate) a.work.now c.requires.0 c.requires.7.long c.wait_to_spread-count.ensures.1

  dist : dist_at c.wait_to_spread-count.new.work c.args.u ≡ dist_at c.args.work.now c.args.u
  dist =
      let a = c.args in
      noted_dist (length a.kind.now) a.u (a.scale * a.estimate) a.work.now c.requires.0 c.requires.7.long c.wait_to_spread-count.ensures.1

  queue : Tournament (length c.args.kind.now) c.wait_to_spread-count.new.work
  queue =
      let a = c.args in
      noted_queue (length a.kind.now) a.u (a.scale * a.estimate) a.work.now c.requires.0 c.requires.7.long c.wait_to_spread-count.ensures.1
      c.requires.8
