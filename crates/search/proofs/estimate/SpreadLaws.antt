-- A node that waits at the least level is taken out and spreads its estimate.
-- Assumes nothing.
use mathlib.Core.List.{List}
use mathlib.Core.Path.{◌≡◌, sym, subst}
use Prim.Native.Nat.{ℕ, ◌+◌, ◌-◌, ◌%◌}
use lib.ListN.{get_or, set}
use Rattle.search.specs.Block.{Block, nodes}
use Rattle.search.specs.Layout.{link_at}
use Rattle.search.specs.Buckets.{buckets, Lined}
use Rattle.search.specs.Estimates.{GivenBefore, GiveReady, Spread}
use Rattle.search.proofs.BucketLaws.{TakenOut, lined-take}

-- what `take` does
pub take_out :
    {n : ℕ} {base : ℕ → ℕ} {scale : ℕ} {w head head₁ : List ℕ} {count least v : ℕ} (l : Lined n base scale w head count least) → get_or head (least % buckets) 0 ≡ v + 1
    → head₁ ≡ set head (least % buckets) (link_at n w v) → TakenOut l v head₁
take_out {v = v} l first headed = subst (λ (hs : List ℕ). TakenOut l v hs) (sym headed) (lined-take l v first)

module _
    {r : Block} {base : ℕ → ℕ} {scale level : ℕ} {w head head₁ : List ℕ} {count v : ℕ} {l : Lined (nodes r) base scale w head count level} (t : TakenOut l v head₁) where
  -- the nodes before it can be given their estimates
  pub left-ready : {lacking : ℕ} → GiveReady r base scale level w head count lacking → GiveReady r base scale level w head₁ (count - 1) lacking
  left-ready g =
      record {
        few = g.few;
        firsts-long = g.firsts-long;
        base_most_lem = g.base_most_lem;
        scale_pos = g.scale_pos;
        scale_most_lem = g.scale_most_lem;
        level_most_lem = g.level_most_lem;
        sized = g.sized;
        queue = g.queue;
        lined = t.rest;
        lacking_is = g.lacking_is;
      }

  pub spread-is :
      {w' head' : List ℕ} {count' : ℕ} → GivenBefore r base scale v level w w' head₁ head' (count - 1) count' t.rest
      → Spread r base scale level w w' head head' count count' l
  spread-is {w'} {head'} {count'} g =
      record {
        from = v;
        waited = t.waited;
        at_level = t.at_least;
        head₁ = head₁;
        rest = t.rest;
        gone = t.gone;
        others = λ x h d. t.others x d;
        given = g;
      }
