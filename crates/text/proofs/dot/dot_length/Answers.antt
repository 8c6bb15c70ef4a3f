-- `text::dot::dot_length` meets its contract: the digits and the fixed bytes.
-- Assumes nothing.
use native.Mathlib.Omega.{arith}
use Rattle.text.proofs.dot.DotLaws.{dot_size}
use Rattle.text.proofs.dot.dot_length.Goals as goal

pub returns : goal.returns
returns c =
    let a = c.args in
    let l = dot_size a.net a.from a.to in
    omega (arith, l)
