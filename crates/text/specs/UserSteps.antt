-- What the contracts of the private functions that count users say.
-- Assumes nothing.
use Rattle.std.specs.Prelude.{not, List, ◌≡◌, ℕ, ◌+◌, ◌≤◌, eqb, length, get_or}
use Rattle.price.specs.Test.{choose, both}
use Rattle.price.specs.Lists.{has}
use Rattle.job.specs.Steps.{Stored}
use Rattle.job.specs.Tables.{nets_most}

-- the nodes of the list that don't bear the stamp count one user more each, and all of them bear it afterwards
pub record Counted (stamp : ℕ) (xs users stamps users_now stamps_now : List ℕ) : Type 0 where
  pub users-long : length users_now ≡ length users
  pub users-at : (v : ℕ) → get_or users_now v 0 ≡ get_or users v 0 + choose (both (has v xs) (not (eqb (get_or stamps v 0) stamp))) 1 0
  pub stamps-set : Stored stamp xs stamps stamps_now

-- no node has more users than there are nets, not counting the net with this stamp
abbrev pub FewUsers : ℕ → List ℕ → List ℕ → Type 0
FewUsers stamp users stamps = (v : ℕ) → get_or users v 0 ≤ nets_most + choose (eqb (get_or stamps v 0) stamp) 1 0
