-- Request 2.10: the final trees as a picture in the DOT language of Graphviz, and the one writer of both texts.
-- Assumes nothing.
use mathlib.Core.List.{List, [], ◌∷◌, ◌++◌, flat_map}
use Rattle.std.specs.Prelude.{ℕ, length}
use Rattle.negotiation.specs.Records.{Record}
use Rattle.text.specs.Decimal.{decimal}
use Rattle.text.specs.Routes.{Branch, route_branches, branch_line, routes_text, WriteReply, tested_reply}
use Rattle.text.specs.declared.Style.{Style}
use Rattle.text.specs.declared.Style.TheVariants as s

-- `digraph r {`, "ended by LF"
abbrev pub dot_head : List ℕ
dot_head = 100 ∷ 105 ∷ 103 ∷ 114 ∷ 97 ∷ 112 ∷ 104 ∷ 32 ∷ 114 ∷ 32 ∷ 123 ∷ 10 ∷ []

-- ` -> `
abbrev pub dot_arrow : List ℕ
dot_arrow = 32 ∷ 45 ∷ 62 ∷ 32 ∷ []

-- ` [label="`
abbrev pub dot_label : List ℕ
dot_label = 32 ∷ 91 ∷ 108 ∷ 97 ∷ 98 ∷ 101 ∷ 108 ∷ 61 ∷ 34 ∷ []

-- `"];`, "ended by LF"
abbrev pub dot_close : List ℕ
dot_close = 34 ∷ 93 ∷ 59 ∷ 10 ∷ []

-- `}`, "ended by LF"
abbrev pub dot_end : List ℕ
dot_end = 125 ∷ 10 ∷ []

-- "one line `from -> to [label="net"];` for each branch", "numbers in place of the words"
unfoldable pub dot_line : Branch → List ℕ
dot_line b = decimal b.from ++ (dot_arrow ++ (decimal b.to ++ (dot_label ++ (decimal b.net ++ dot_close))))

-- "for each branch in the routes text's order": of the same list, that of every net of table 5
unfoldable pub dot_text : List ℕ → List Record → List ℕ
dot_text sources rs = dot_head ++ (flat_map dot_line (route_branches (length sources) rs) ++ dot_end)

-- "It shares the writer's 5, 10 and 11."
abbrev pub dot_reply : List ℕ → List ℕ → List ℕ → WriteReply
dot_reply sources log buffer = tested_reply dot_text sources log buffer

-- ---- one writer for both

-- a branch's line
abbrev pub style_line : Style → Branch → List ℕ
style_line s.Lines = branch_line
style_line s.Picture = dot_line

abbrev pub style_text : Style → List Branch → List ℕ
style_text style bs = flat_map (style_line style) bs

-- the whole text
abbrev pub text_in : Style → List ℕ → List Record → List ℕ
text_in s.Lines = routes_text
text_in s.Picture = dot_text

-- "It shares the writer's 5, 10 and 11.": what the writer of either text answers and leaves
abbrev pub style_reply : Style → List ℕ → List ℕ → List ℕ → WriteReply
style_reply style sources log buffer = tested_reply (text_in style) sources log buffer
