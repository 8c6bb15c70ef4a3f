-- Request 2.10 from the reader's side: which branches a picture shows.
-- Assumes nothing.
use Rattle.std.specs.Prelude.{List, [], ◌∷◌, ◌++◌, ◌≡◌, ℕ, eqb, length}
use Rattle.price.specs.Test.{choose}
use Rattle.negotiation.specs.Records.{decode}
use Rattle.text.specs.Lines.{field, Fields, taken, malformed, after_field}
use Rattle.text.specs.Routes.{Branch, Join, routes_text}
use Rattle.text.specs.Dot.{dot_head, dot_arrow, dot_label, dot_close, dot_end, dot_text}
use Rattle.text.specs.Listed.{RouteLines, steps_by_net, Listed}

-- what comes after these bytes; any other in their place is a fault
unfoldable pub after_bytes : List ℕ → (List ℕ → Fields) → List ℕ → Fields
after_bytes [] others bytes = others bytes
after_bytes (x ∷ xs) others [] = malformed
after_bytes (x ∷ xs) others (b ∷ bytes) = choose (eqb b x) (after_bytes xs others bytes) malformed

-- a number, with these bytes after it
abbrev pub number_then : List ℕ → (List ℕ → Fields) → List ℕ → Fields
number_then after others bytes = after_field (field bytes) (after_bytes after others)

-- "`from -> to [label="net"];`", "ended by LF": its three numbers, read as a job text's fields are, and the bytes that follow the line
unfoldable pub dot_fields : List ℕ → Fields
dot_fields bytes = number_then dot_arrow (number_then dot_label (number_then dot_close (taken []))) bytes

-- the lines after the first, read one after the other up to `}`, which ends the text, give these branches
pub data DotLines : List ℕ → List Branch → Type 0 where
  ended : {bytes : List ℕ} → bytes ≡ dot_end → DotLines bytes []
  branch :
      {bytes rest : List ℕ} {b : Branch} {bs : List Branch}
      → dot_fields bytes ≡ taken (b.from ∷ b.to ∷ b.net ∷ []) rest → DotLines rest bs → DotLines bytes (b ∷ bs)

-- a text that begins with `digraph r {` shows these branches
pub record Pictured (text : List ℕ) (bs : List Branch) : Type 0 where
  pub rest : List ℕ
  pub text_is : text ≡ dot_head ++ rest
  pub lines : DotLines rest bs

-- "The branches in the picture and in the routes text are the same list.": of the two texts of a log. The routes text lists its path steps
-- and the picture shows these, and whatever branches are read off the one text, line by line, are those that are read off the other
pub record PicturedSame (sources log : List ℕ) : Type 0 where
  pub listed : Listed sources log (routes_text sources (decode log))
  pub pictured : Pictured (dot_text sources (decode log)) (steps_by_net (length sources) (decode log))
  pub same :
      {bs cs : List Branch} {ps : List Join} (l : Listed sources log (routes_text sources (decode log))) → RouteLines l.rest bs ps
      → Pictured (dot_text sources (decode log)) cs → bs ≡ cs
