-- Document 01, "Sample jobs": job B as text, printed by the program with all that it lends, and every starred sample of all crates in one
-- list.
-- Assumes nothing.
use Rattle.std.specs.Prelude.{List, [], ◌∷◌, ◌++◌, ℕ, replicate}
use Rattle.price.specs.Samples.{Sample}
use Rattle.price.specs.Samples as p
use Rattle.negotiation.specs.Samples as n
use Rattle.text.specs.Lines.{lf}
use Rattle.text.specs.Sizes.{tables_lent, work_lent, routes_lent}
use Rattle.text.specs.declared.Style.TheVariants as s
use Rattle.flow.specs.RunReplies.{lent_of, response, printed, program_prints}

-- "one a line": each line ended by LF
unfoldable pub lined : List (List ℕ) → List ℕ
lined [] = []
lined (l ∷ ls) = l ++ (lf ∷ lined ls)

-- job B's lines in ASCII, under a limit that is given as the byte of its one digit:
-- `F,6,6,2,`
-- `N,0,0,1`
-- `N,1,0,1`
-- `N,2,4,1`
-- `N,3,5,1`
-- `N,4,1,1`
-- `N,5,1,1`
-- `E,0,2`
-- `E,0,3`
-- `E,1,2`
-- `E,2,4`
-- `E,2,5`
-- `E,3,4`
-- `S,0,0`
-- `T,0,4`
-- `S,1,1`
-- `T,1,5`
abbrev pub lines_b : ℕ → List (List ℕ)
lines_b limit =
    (70 ∷ 44 ∷ 54 ∷ 44 ∷ 54 ∷ 44 ∷ 50 ∷ 44 ∷ limit ∷ [])
    ∷ (78 ∷ 44 ∷ 48 ∷ 44 ∷ 48 ∷ 44 ∷ 49 ∷ [])
    ∷ (78 ∷ 44 ∷ 49 ∷ 44 ∷ 48 ∷ 44 ∷ 49 ∷ [])
    ∷ (78 ∷ 44 ∷ 50 ∷ 44 ∷ 52 ∷ 44 ∷ 49 ∷ [])
    ∷ (78 ∷ 44 ∷ 51 ∷ 44 ∷ 53 ∷ 44 ∷ 49 ∷ [])
    ∷ (78 ∷ 44 ∷ 52 ∷ 44 ∷ 49 ∷ 44 ∷ 49 ∷ [])
    ∷ (78 ∷ 44 ∷ 53 ∷ 44 ∷ 49 ∷ 44 ∷ 49 ∷ [])
    ∷ (69 ∷ 44 ∷ 48 ∷ 44 ∷ 50 ∷ [])
    ∷ (69 ∷ 44 ∷ 48 ∷ 44 ∷ 51 ∷ [])
    ∷ (69 ∷ 44 ∷ 49 ∷ 44 ∷ 50 ∷ [])
    ∷ (69 ∷ 44 ∷ 50 ∷ 44 ∷ 52 ∷ [])
    ∷ (69 ∷ 44 ∷ 50 ∷ 44 ∷ 53 ∷ [])
    ∷ (69 ∷ 44 ∷ 51 ∷ 44 ∷ 52 ∷ [])
    ∷ (83 ∷ 44 ∷ 48 ∷ 44 ∷ 48 ∷ [])
    ∷ (84 ∷ 44 ∷ 48 ∷ 44 ∷ 52 ∷ [])
    ∷ (83 ∷ 44 ∷ 49 ∷ 44 ∷ 49 ∷ [])
    ∷ (84 ∷ 44 ∷ 49 ∷ 44 ∷ 53 ∷ [])
    ∷ []

-- "The program prints, one a line, `R,2,4` `B,0,0,3` `B,0,3,4` `B,1,1,2` `B,1,2,5`."
abbrev pub routed : Sample
routed = record {
  stated =
      82 ∷ 44 ∷ 50 ∷ 44 ∷ 52 ∷ 10
      ∷ 66 ∷ 44 ∷ 48 ∷ 44 ∷ 48 ∷ 44 ∷ 51 ∷ 10
      ∷ 66 ∷ 44 ∷ 48 ∷ 44 ∷ 51 ∷ 44 ∷ 52 ∷ 10
      ∷ 66 ∷ 44 ∷ 49 ∷ 44 ∷ 49 ∷ 44 ∷ 50 ∷ 10
      ∷ 66 ∷ 44 ∷ 49 ∷ 44 ∷ 50 ∷ 44 ∷ 53 ∷ 10 ∷ [];
  defined = program_prints s.Lines (lined (lines_b 50));
}

-- "B with limit 1: 9,1,1": `X,9,1,1`
abbrev pub limited : Sample
limited = record { stated = 88 ∷ 44 ∷ 57 ∷ 44 ∷ 49 ∷ 44 ∷ 49 ∷ 10 ∷ []; defined = program_prints s.Lines (lined (lines_b 49)) }

-- "B with a 35-word log: 8,2,3": `X,8,2,3`, in such a log beside all else that the program lends
abbrev pub filled : Sample
filled = record {
  stated = 88 ∷ 44 ∷ 56 ∷ 44 ∷ 50 ∷ 44 ∷ 51 ∷ 10 ∷ [];
  defined = printed (response s.Lines (lined (lines_b 50)) (lent_of tables_lent work_lent (replicate 35 0) routes_lent));
}

unfoldable pub texts : List Sample
texts = routed ∷ limited ∷ filled ∷ []

-- all starred samples: prices and factors, jobs given as tables, and job B as text
unfoldable pub samples : List Sample
samples = p.samples ++ (n.samples ++ texts)
