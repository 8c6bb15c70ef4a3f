-- `draws::wrapping_mul` meets its contract: the product fits 64 bits.
-- Assumes nothing.
use Rattle.generator.proofs.DrawLaws.{wide}
use Rattle.generator.proofs.draws.wrapping_mul.Goals as goal

pub overflow_mul-result : goal.overflow_mul-result
overflow_mul-result c = record { fits = wide c.args.a c.args.b c.ranges.a.fits c.ranges.b.fits }
