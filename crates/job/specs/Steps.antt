-- What private functions do to their lists. Only the contracts of private functions, here and in the crates above, cite this file: no
-- caller has to believe it.
-- Assumes nothing.
use Rattle.std.specs.Prelude.{Bool, List, ◌≡◌, ℕ, ◌<◌, eqb, ltb, length, get_or}
use Rattle.price.specs.Test.{choose, both}
use Rattle.price.specs.Lists.{every, has, distinct}

-- every entry is below n
abbrev pub AllBelow : ℕ → List ℕ → Type 0
AllBelow n xs = (i : ℕ) → i < length xs → get_or xs i 0 < n

-- the entries at these places hold a, the others stay
pub record Stored (a : ℕ) (xs old new : List ℕ) : Type 0 where
  pub long : length new ≡ length old
  pub at : (v : ℕ) → get_or new v 0 ≡ choose (has v xs) a (get_or old v 0)

-- each of these sinks is a node, none stands twice, and none was marked
unfoldable pub sinks_free : ℕ → List ℕ → List ℕ → Bool
sinks_free n sinks marks = both (every (λ s. ltb s n) sinks) (both (distinct sinks) (every (λ s. eqb (get_or marks s 0) 0) sinks))
