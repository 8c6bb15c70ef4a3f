-- `text::dot::put_dot` meets its contract: three numbers and the bytes behind each.
-- Assumes nothing.
use Rattle.std.proofs.Common.{rules}
use Rattle.text.proofs.dot.DotLaws.{dot_size, dot_put}
use Rattle.text.proofs.dot.put_dot.Goals as goal

pub put_number-one-requires : goal.put_number-one-requires
put_number-one-requires c =
    let a = c.args in
    let l = dot_size a.net a.from a.to in
    search rules

pub put_bytes-two-requires : goal.put_bytes-two-requires
put_bytes-two-requires c =
    let a = c.args in
    let l = dot_size a.net a.from a.to in
    search rules

pub put_number-three-requires : goal.put_number-three-requires
put_number-three-requires c =
    let a = c.args in
    let l = dot_size a.net a.from a.to in
    search rules

pub put_bytes-four-requires : goal.put_bytes-four-requires
put_bytes-four-requires c =
    let a = c.args in
    let l = dot_size a.net a.from a.to in
    search rules

pub put_number-five-requires : goal.put_number-five-requires
put_number-five-requires c =
    let a = c.args in
    let l = dot_size a.net a.from a.to in
    search rules

pub put_bytes-requires : goal.put_bytes-requires
put_bytes-requires c =
    let a = c.args in
    let l = dot_size a.net a.from a.to in
    search rules

pub returns : goal.returns
returns c =
    dot_put _ _ _ c.put_number-one.ensures c.put_bytes-two.ensures c.put_number-three.ensures c.put_bytes-four.ensures c.put_number-five.ensures
    c.put_bytes.ensures c.requires
