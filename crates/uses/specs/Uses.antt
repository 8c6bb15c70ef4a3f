-- Request 2.11, "Use of wires over many jobs": the uses of one log, the counts, and what the two calls answer and leave.
-- Assumes nothing.
use Rattle.std.specs.Prelude.{Bool, not, List, [], ◌∷◌, ℕ, zero, suc, ◌+◌, ◌*◌, eqb, leb, ltb, length, get_or, Result, Ok, Err}
use Rattle.price.specs.Test.{choose}
use Rattle.price.specs.Bounds.{kind_most}
use Rattle.price.specs.Lists.{up_to, first_below}
use Rattle.search.specs.Block.{Block, nodes}
use Rattle.search.specs.Tables.{faulty_table}
use Rattle.job.specs.Tables.{nets_most}
use Rattle.negotiation.specs.Records.{Record, decode}
use Rattle.text.specs.Lines.{print_line}
use Rattle.text.specs.Printed.{concat_from}
use Rattle.text.specs.Users.{below_nodes, nets_with}
use Rattle.text.specs.Routes.{Named, log_sound, sound_words, WriteReply, not_written, text_reply}
use Rattle.uses.specs.declared.AddRefusal.{AddRefusal}
use Rattle.uses.specs.declared.AddRefusal.TheVariants as a
use Rattle.uses.specs.declared.PrintRefusal.{PrintRefusal}
use Rattle.uses.specs.declared.PrintRefusal.TheVariants as p

-- "for each kind from 0 to 53"
abbrev pub kind_count : ℕ
kind_count = kind_most + 1

-- "over 65,535 logs"
abbrev pub logs_most : ℕ
logs_most = 65535

-- the line letter U
abbrev pub letter_u : ℕ
letter_u = 85

-- ---- sums over nodes

-- f 0 + f 1 + .. + f (n − 1)
unfoldable pub sum_below : (ℕ → ℕ) → ℕ → ℕ
sum_below f zero = zero
sum_below f (suc n) = sum_below f n + f n

-- the sum of f over the nodes of kind k, of nodes with these kinds
unfoldable pub over_kind : List ℕ → (ℕ → ℕ) → ℕ → ℕ
over_kind kinds f k = sum_below (λ v. choose (eqb (get_or kinds v 0) k) (f v) 0) (length kinds)

-- "uses is the sum over logs and nodes of nets whose final tree has the node": of one log
unfoldable pub uses_in : Block → List Record → ℕ → ℕ
uses_in b rs k = over_kind b.kinds (nets_with rs) k

-- "the kind's total capacity"
unfoldable pub capacity_of : Block → ℕ → ℕ
capacity_of b k = over_kind b.kinds (λ v. get_or b.capacities v 0) k

-- "the kind's nodes"
unfoldable pub nodes_of : Block → ℕ → ℕ
nodes_of b k = over_kind b.kinds (λ v. 1) k

-- ---- counts

-- "Counts are handed in and back": the uses of each kind so far, and how many logs they are of
pub record UseCounts : Type 0 where
  pub uses : List ℕ
  pub logs : ℕ

abbrev pub use_counts_of : List ℕ → ℕ → UseCounts
use_counts_of uses logs = record { uses = uses; logs = logs }

-- "uses over 512 × logs × the kind's nodes"
unfoldable pub too_many : Block → UseCounts → ℕ → Bool
too_many b c k = ltb (nets_most * c.logs * nodes_of b k) (get_or c.uses k 0)

-- "Given one block's tables 1 to 4 (5 if unsound)"; "over 65,535 logs is 13 with 54, else uses over 512 × logs × the kind's nodes is 13
-- with the lowest such kind, both after 5, before 10 and 11"; nothing where none is due
unfoldable pub counts_refusal : Block → UseCounts → List ℕ
counts_refusal b c =
    choose (leb 1 (faulty_table b)) (5 ∷ faulty_table b ∷ [])
    (choose (ltb logs_most c.logs) (13 ∷ kind_count ∷ [])
    (choose (ltb (first_below (too_many b c) kind_count) kind_count) (13 ∷ first_below (too_many b c) kind_count ∷ []) []))

-- ---- adding a log

-- the counts with one log more
unfoldable pub with_log : Block → UseCounts → List Record → UseCounts
with_log b c rs = use_counts_of (up_to (λ k. get_or c.uses k 0 + uses_in b rs k) kind_count) (c.logs + 1)

-- "a run of logs sound by 01": nets below 512, without table 5; "A record with a node the block lacks is unsound too"
abbrev pub of_block : Block → Named
of_block b = below_nodes (nodes b)

-- the refusal's numbers, none where the log is added; and the counts afterwards
pub record AddReply : Type 0 where
  pub refusal : List ℕ
  pub counts : UseCounts

abbrev pub add_reply_with : List ℕ → UseCounts → AddReply
add_reply_with refusal c = record { refusal = refusal; counts = c }

-- the reply of counts that pass: "Turned away: number 16 with 65,535 for a log beyond so many, after 10."
unfoldable pub tested_reply : Block → UseCounts → List ℕ → AddReply
tested_reply b c log =
    choose (not (log_sound (of_block b) log)) (add_reply_with (10 ∷ sound_words (of_block b) log ∷ []) c)
    (choose (leb logs_most c.logs) (add_reply_with (16 ∷ logs_most ∷ []) c) (add_reply_with [] (with_log b c (decode log))))

-- "a refused log adds nothing"
unfoldable pub add_reply : Block → UseCounts → List ℕ → AddReply
add_reply b c log = choose (leb 1 (length (counts_refusal b c))) (add_reply_with (counts_refusal b c) c) (tested_reply b c log)

-- 01's numbers for each case of the answer
abbrev pub add_refusal : Result ℕ AddRefusal → List ℕ
add_refusal (Ok logs) = []
add_refusal (Err (a.BadTable table)) = 5 ∷ table ∷ []
add_refusal (Err (a.BadCount kind)) = 13 ∷ kind ∷ []
add_refusal (Err (a.Unsound word)) = 10 ∷ word ∷ []
add_refusal (Err (a.LogsFull most)) = 16 ∷ most ∷ []

-- the number of logs handed back: the one handed in after a refusal
abbrev pub logs_after : ℕ → Result ℕ AddRefusal → ℕ
logs_after before (Ok logs) = logs
logs_after before (Err refusal) = before

-- the answer with the uses at the call's end
abbrev pub add_reply_of : ℕ → Result ℕ AddRefusal → List ℕ → AddReply
add_reply_of logs r uses = add_reply_with (add_refusal r) (use_counts_of uses (logs_after logs r))

-- ---- printing

-- "print for each kind from 0 to 53 a line `U,kind,uses,capacity`, ended by LF"; "capacity the kind's total capacity times the number
-- of logs"
unfoldable pub use_line : Block → UseCounts → ℕ → List ℕ
use_line b c k = print_line letter_u (k ∷ get_or c.uses k 0 ∷ capacity_of b k * c.logs ∷ [])

unfoldable pub uses_text : Block → UseCounts → List ℕ
uses_text b c = concat_from (use_line b c) 0 kind_count

-- "A short text buffer is 11."
unfoldable pub print_reply : Block → UseCounts → List ℕ → WriteReply
print_reply b c buffer =
    choose (leb 1 (length (counts_refusal b c))) (not_written (counts_refusal b c) buffer) (text_reply (uses_text b c) buffer)

abbrev pub print_refusal : Result ℕ PrintRefusal → List ℕ
print_refusal (Ok bytes) = []
print_refusal (Err (p.BadTable table)) = 5 ∷ table ∷ []
print_refusal (Err (p.BadCount kind)) = 13 ∷ kind ∷ []
print_refusal (Err (p.ShortBuffer needed)) = 11 ∷ needed ∷ []

abbrev pub printed_bytes : Result ℕ PrintRefusal → ℕ
printed_bytes (Ok bytes) = bytes
printed_bytes (Err refusal) = 0

abbrev pub print_reply_of : Result ℕ PrintRefusal → List ℕ → WriteReply
print_reply_of r buffer = record { refusal = print_refusal r; bytes = printed_bytes r; buffer = buffer }
