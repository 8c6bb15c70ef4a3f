-- What the contracts of the writer's private functions say.
-- Assumes nothing.
use Rattle.std.specs.Prelude.{Bool, true, false, List, [], ◌∷◌, ◌≡◌, ℕ, ◌+◌, ◌-◌, ◌^◌, ◌≤◌, ◌<◌, eqb, length, get_or, take, drop}
use Rattle.price.specs.Bounds.{nodes_most}
use Rattle.job.specs.Tables.{nets_most}
use Rattle.negotiation.specs.Records.{Record, decode}
use Rattle.text.specs.Lines.{letter_r, print_line}
use Rattle.text.specs.Routes.{Named, sound_words, last_iteration, passing, final_records, route_joins, join_text, capped}
use Rattle.text.specs.Dot.{dot_head, dot_end}
use Rattle.text.specs.LineReplies.{placed}
use Rattle.text.specs.declared.Style.{Style}
use Rattle.text.specs.declared.Style.TheVariants as s

-- the place after the record at a place of a log
abbrev pub next_at : List ℕ → ℕ → ℕ
next_at log at = at + 6 + get_or log (at + 5) 0

-- the words from a place up to another
abbrev pub part : List ℕ → ℕ → ℕ → List ℕ
part log from to = take (to - from) (drop from log)

-- the numbers and the path of the record at a place, and the place after it
pub record RecordAt (log : List ℕ) (at iteration net : ℕ) (path : List ℕ) (end : ℕ) : Type 0 where
  pub iteration-is : iteration ≡ get_or log at 0
  pub net-is : net ≡ get_or log (at + 1) 0
  pub path-is : path ≡ part log (at + 6) end
  pub end-is : end ≡ next_at log at

-- the bytes stand in the buffer from a place to the next
pub record Put (at : ℕ) (bytes before after : List ℕ) (next : ℕ) : Type 0 where
  pub written : after ≡ placed at bytes before
  pub next-is : next ≡ at + length bytes

-- a text that is due from a place of the buffer on: the place behind it, as far as 64 bits hold it, and the text itself where
-- the buffer has room
pub record Filled (at : ℕ) (bytes before after : List ℕ) (next : ℕ) : Type 0 where
  pub counted : next ≡ capped (at + length bytes)
  pub kept : length after ≡ length before
  pub written : at + length bytes < 2 ^ 64 → at + length bytes ≤ length before → after ≡ placed at bytes before

-- what stands before the branches
abbrev pub head_text : Style → ℕ → ℕ → List ℕ
head_text s.Lines iteration turns = print_line letter_r (iteration ∷ turns ∷ [])
head_text s.Picture iteration turns = dot_head

-- and after them
abbrev pub tail_text : Style → List ℕ → List ℕ
tail_text s.Lines sources = join_text (route_joins sources)
tail_text s.Picture sources = dot_end

-- the nets that are marked
unfoldable pub net_marked : List Bool → ℕ → Bool
net_marked marks i = get_or marks i false

-- what a log may name by marks of nets and a bound of nodes
abbrev pub named_by : List Bool → ℕ → Named
named_by marks nodes = record { net = net_marked marks; nodes = nodes }

-- every word is one of a sound record, which may name some of the nets below 512 and of the nodes below 4,096
pub record AllSound (log : List ℕ) : Type 0 where
  pub named : Named
  pub nets-few : (i : ℕ) → named.net i ≡ true → i < nets_most
  pub nodes-few : named.nodes ≤ nodes_most
  pub all_sound : sound_words named log ≡ length log

-- what the test of a sound log found
pub record LogTested (log : List ℕ) (iteration turns : ℕ) : Type 0 where
  pub words-sound : AllSound log
  pub iteration-is : iteration ≡ last_iteration (decode log)
  pub turns_are : turns ≡ length (decode log)

-- ---- the latest records of each net

-- the records of net i
abbrev pub own_records : ℕ → List Record → List Record
own_records i = passing (λ (r : Record). eqb r.net i)

-- between two places of the log stand whole records, and of net i just those that its final tree is read from
pub record Latest (log : List ℕ) (i from to : ℕ) : Type 0 where
  pub rises : from ≤ to
  pub within : to ≤ length log
  pub part_sound : AllSound (part log from to)
  pub own : own_records i (decode (part log from to)) ≡ final_records i (decode log)

-- the words between them
pub record LatestWords (log : List ℕ) (i : ℕ) (words : List ℕ) : Type 0 where
  pub words_sound : AllSound words
  pub own : own_records i (decode words) ≡ final_records i (decode log)

-- two places for each net that may have records
abbrev pub LatestPlaces : List ℕ → List ℕ → List ℕ → Type 0
LatestPlaces log froms tos = (i : ℕ) → i < nets_most → Latest log i (get_or froms i 0) (get_or tos i 0)
