-- `search::aim::shorten` meets its contract: two stores outside the queue, and then the node waits at its new key if it has an estimate.
-- Assumes nothing.
use mathlib.Core.Path.{◌≡◌, ◌∙◌}
use native.Mathlib.Omega.{arith}
use Rattle.search.specs.Distance.{far}
use Rattle.search.specs.Layout.{estimate_at}
use Rattle.search.proofs.aim.ShortenLaws.{same-estimate, shortened_waits}
use Rattle.search.proofs.aim.BestLaws.{best_other, best_sink, low_other}
use Rattle.search.proofs.aim.shorten.Goals.{Else-estimate}
use Rattle.search.proofs.aim.shorten.Goals as goal

-- the node has an estimate
known : (c : Else-estimate) → estimate_at c.args.n c.args.work.now c.args.v ≡ far → ⊥
known c none =
    let a = c.args in
    c.if-estimate.false (same-estimate a.n a.u a.v a.d a.work.now c.requires.u_lt_n.1 c.requires.u_lt_n.2 ∙ none)

pub returns-then-estimate-eq0 : goal.returns-then-estimate-eq0
returns-then-estimate-eq0 c =
    let a = c.args in
    let h = c.requires.u_lt_n.1 in
    let room = c.requires.u_lt_n.2 in
    let same = same-estimate a.n a.u a.v a.d a.work.now h room in
    let sink = c.if-estimate-eq0.true in
    let t = shortened_waits a.n a.u a.v a.d a.work.now h room c.if-estimate.false c.wait.ensures in
    (t, λ s. best_sink h t s c.requires.u_lt_n.5 (omega arith) c.min-then-estimate-eq0.ensures, λ s. low_other h t s (known (goal.at.returns-then-estimate-eq0 c).Else-estimate))

pub returns : goal.returns
returns c =
    let a = c.args in
    let h = c.requires.u_lt_n.1 in
    let room = c.requires.u_lt_n.2 in
    let same = same-estimate a.n a.u a.v a.d a.work.now h room in
    let t = shortened_waits a.n a.u a.v a.d a.work.now h room c.if-estimate.false c.wait.ensures in
    (t, λ s. best_other h t s c.requires.u_lt_n.5 (λ z. c.if-estimate-eq0.false (same ∙ z)), λ s. low_other h t s (known (goal.at.returns c).Else-estimate))
