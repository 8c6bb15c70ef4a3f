-- Document 01, "Routes text" and rows 5, 10 and 11 of "Numbers for a stopped call", with request 2.3's J lines and request 2.7's
-- branches by net: sound logs, branches, joined nets, and what the writer answers and leaves.
-- Assumes nothing.
use Rattle.std.specs.Prelude.{Bool, not, ℕ, zero, suc, ◌+◌, ◌-◌, ◌^◌, min, leb, ltb, eqb, length, get_or, take, drop, Result, Ok, Err}
use mathlib.Core.List.{List, [], ◌∷◌, ◌++◌, map, flat_map}
use Rattle.price.specs.Test.{choose, both}
use Rattle.price.specs.Bounds.{nodes_most, limit_most}
use Rattle.price.specs.Lists.{every}
use Rattle.job.specs.Tables.{sources_sound}
use Rattle.job.specs.Join.{first_of, leads}
use Rattle.negotiation.specs.Records.{Record, decode}
use Rattle.negotiation.specs.Demand.{latest}
use Rattle.text.specs.Lines.{letter_r, letter_b, letter_j, print_line}
use Rattle.text.specs.JobText.{between}
use Rattle.text.specs.ReadReplies.{written_over}
use Rattle.text.specs.declared.WriteRefusal.{WriteRefusal}
use Rattle.text.specs.declared.WriteRefusal.TheVariants.{BadTable, Unsound, ShortBuffer}

-- ---- sound logs

-- the words of the first record's path, n of them
abbrev pub path_words : ℕ → List ℕ → List ℕ
path_words n ws = take n (drop 6 ws)

-- what a sound record may name: nets that pass a test, and nodes below a bound
pub record Named : Type 0 where
  pub net : ℕ → Bool
  pub nodes : ℕ

-- the path of the first record is whole: "n 2 to 4,096, nodes below 4,096, last node equal to the sink", the nodes by their bound
unfoldable pub path_sound : ℕ → ℕ → ℕ → List ℕ → Bool
path_sound nodes n sink ws =
    both (both (between 2 nodes_most n) (leb (6 + n) (length ws)))
    (both (every (λ v. ltb v nodes) (path_words n ws)) (eqb (get_or ws (5 + n) 0) sink))

-- the first record is whole and sound, after one of iteration `last`, and names what may be named:
-- "iteration 1 to 100 and never falling"
unfoldable pub record_sound : Named → ℕ → List ℕ → Bool
record_sound named last ws =
    both (leb 6 (length ws))
    (both (both (between 1 limit_most (get_or ws 0 0)) (leb last (get_or ws 0 0)))
    (both (named.net (get_or ws 1 0)) (path_sound named.nodes (get_or ws 5 0) (get_or ws 2 0) ws)))

-- the words of sound records before the first unsound one, after one of iteration `last`; this many records at most
unfoldable pub sound_up_to : Named → ℕ → ℕ → List ℕ → ℕ
sound_up_to named zero last ws = 0
sound_up_to named (suc k) last ws =
    choose (record_sound named last ws)
    (6 + get_or ws 5 0 + sound_up_to named k (get_or ws 0 0) (drop (6 + get_or ws 5 0) ws))
    0

-- "first word of the first unsound record": no log has more records than words
unfoldable pub sound_words : Named → List ℕ → ℕ
sound_words named ws = sound_up_to named (length ws) 0 ws

-- "A sound log is one or more whole records"
unfoldable pub log_sound : Named → List ℕ → Bool
log_sound named ws = both (leb 1 (length ws)) (eqb (sound_words named ws) (length ws))

-- request 2.3: "A record whose net is beyond table 5 or isn't the first of its source is unsound."
unfoldable pub net_writable : List ℕ → ℕ → Bool
net_writable sources i = both (ltb i (length sources)) (leads sources i)

-- what a log may name that is written by table 5
abbrev pub writable : List ℕ → Named
writable sources = record { net = net_writable sources; nodes = nodes_most }

-- ---- branches

-- a step of a path in a net's record
pub record Branch : Type 0 where
  pub net : ℕ
  pub from : ℕ
  pub to : ℕ

abbrev pub branch_of : ℕ → ℕ → ℕ → Branch
branch_of net from to = record { net = net; from = from; to = to }

-- "each path step"
unfoldable pub steps : ℕ → List ℕ → List Branch
steps net [] = []
steps net (u ∷ []) = []
steps net (u ∷ v ∷ path) = branch_of net u v ∷ steps net (v ∷ path)

-- the iteration of the last record
unfoldable pub last_iteration : List Record → ℕ
last_iteration rs = get_or (map (λ (r : Record). r.iteration) rs) (length rs - 1) 0

-- the records that pass a test, in log order
unfoldable pub passing : (Record → Bool) → List Record → List Record
passing test [] = []
passing test (r ∷ rs) = choose (test r) (r ∷ passing test rs) (passing test rs)

-- net i's records of iteration t
abbrev pub records_in : ℕ → ℕ → List Record → List Record
records_in i t = passing (λ (r : Record). both (eqb r.net i) (eqb r.iteration t))

-- request 2.7: "from its records of the latest iteration in which it has any", the ones that net i's final tree is read from
unfoldable pub final_records : ℕ → List Record → List Record
final_records i rs = records_in i (latest i rs) rs

-- the path steps of these records, one record after the other
unfoldable pub record_branches : List Record → List Branch
record_branches [] = []
record_branches (r ∷ rs) = steps r.net r.path ++ record_branches rs

-- "The branches of a final tree are the path steps of the records that it is read from": those of net i
unfoldable pub tree_branches : ℕ → List Record → List Branch
tree_branches i rs = record_branches (final_records i rs)

-- request 2.7: "The routes text now lists, in place of the last iteration's branches, those of each net in order", of the first n nets
unfoldable pub route_branches : ℕ → List Record → List Branch
route_branches zero rs = []
route_branches (suc i) rs = route_branches i rs ++ tree_branches i rs

-- the branches of net i among these
unfoldable pub of_net : ℕ → List Branch → List Branch
of_net i [] = []
of_net i (b ∷ bs) = choose (eqb b.net i) (b ∷ of_net i bs) (of_net i bs)

-- "`B,net,from,to`"
unfoldable pub branch_line : Branch → List ℕ
branch_line b = print_line letter_b (b.net ∷ b.from ∷ b.to ∷ [])

abbrev pub branch_text : List Branch → List ℕ
branch_text bs = flat_map branch_line bs

-- ---- joined nets

-- a net that is joined into the first of its source
pub record Join : Type 0 where
  pub net : ℕ
  pub first : ℕ

-- of the first n nets, by net: those that make no turns, as another is the first of their source
unfoldable pub joins_before : List ℕ → ℕ → List Join
joins_before sources zero = []
joins_before sources (suc i) =
    joins_before sources i ++ choose (leads sources i) [] (record { net = i; first = first_of sources i } ∷ [])

unfoldable pub route_joins : List ℕ → List Join
route_joins sources = joins_before sources (length sources)

-- request 2.3: "the routes text gives each a line `J,net,first` after the B lines, by net"
unfoldable pub join_text : List Join → List ℕ
join_text [] = []
join_text (p ∷ ps) = print_line letter_j (p.net ∷ p.first ∷ []) ++ join_text ps

-- "`R,iteration,turns` from the last record and the record count, then `B,net,from,to`" for each branch of the nets of table 5,
-- and the J lines
unfoldable pub routes_text : List ℕ → List Record → List ℕ
routes_text sources rs =
    print_line letter_r (last_iteration rs ∷ length rs ∷ [])
    ++ (branch_text (route_branches (length sources) rs) ++ join_text (route_joins sources))

-- ---- the writer

-- the refusal's numbers, none where the text is written; the bytes written; and the buffer afterwards
pub record WriteReply : Type 0 where
  pub refusal : List ℕ
  pub bytes : ℕ
  pub buffer : List ℕ

-- a 64-bit number: a count that needs more stands at the largest
abbrev pub capped : ℕ → ℕ
capped n = min n (2 ^ 64 - 1)

abbrev pub not_written : List ℕ → List ℕ → WriteReply
not_written refusal buffer = record { refusal = refusal; bytes = 0; buffer = buffer }

-- of "the writer 10, 11" the second: "bytes needed"
unfoldable pub text_reply : List ℕ → List ℕ → WriteReply
text_reply text buffer =
    choose (ltb (length buffer) (length text)) (not_written (11 ∷ capped (length text) ∷ []) buffer)
    (record { refusal = []; bytes = length text; buffer = written_over text buffer })

-- the writer's tests before a text of table 5 and the log's records; request 2.3: "one of no or over 512 entries, or with an entry of
-- 4,096 or more, is refused with 5 before 10"
unfoldable pub tested_reply : (List ℕ → List Record → List ℕ) → List ℕ → List ℕ → List ℕ → WriteReply
tested_reply text sources log buffer =
    choose (not (sources_sound nodes_most sources)) (not_written (5 ∷ 5 ∷ []) buffer)
    (choose (not (log_sound (writable sources) log)) (not_written (10 ∷ sound_words (writable sources) log ∷ []) buffer)
    (text_reply (text sources (decode log)) buffer))

-- what the writer answers to any table 5 and log and leaves: "The writer returns the bytes written.", or the numbers of rows 5, 10 or 11
abbrev pub write_reply : List ℕ → List ℕ → List ℕ → WriteReply
write_reply sources log buffer = tested_reply routes_text sources log buffer

-- 01's numbers for each refusal
abbrev pub write_numbers : WriteRefusal → List ℕ
write_numbers (BadTable table) = 5 ∷ table ∷ []
write_numbers (Unsound word) = 10 ∷ word ∷ []
write_numbers (ShortBuffer needed) = 11 ∷ needed ∷ []

-- and for each case of the answer
abbrev pub write_refusal : Result ℕ WriteRefusal → List ℕ
write_refusal (Ok bytes) = []
write_refusal (Err refusal) = write_numbers refusal

abbrev pub written_bytes : Result ℕ WriteRefusal → ℕ
written_bytes (Ok bytes) = bytes
written_bytes (Err refusal) = 0

-- the answer with the buffer at the call's end
abbrev pub write_reply_of : Result ℕ WriteRefusal → List ℕ → WriteReply
write_reply_of r buffer = record { refusal = write_refusal r; bytes = written_bytes r; buffer = buffer }
