-- Document 01: the whole way from a job text to its routes text over lent buffers, and what the program prints. Request 2.10: the same
-- way to the picture of the routes, where the style asks for it.
-- Assumes nothing.
use Rattle.std.specs.Prelude.{List, [], ◌∷◌, ℕ, ltb, length, take, Result, Ok, Err}
use Rattle.price.specs.Test.{choose}
use Rattle.job.specs.Job.{Job}
use Rattle.job.specs.Tables.{refused_numbers}
use Rattle.job.specs.declared.refused.Refused.{Refused}
use Rattle.negotiation.specs.Outcome.{RouteReply, route_reply}
use Rattle.text.specs.Lines.{letter_x}
use Rattle.text.specs.LineReplies.{PlaceReply, place_reply_of, line_reply}
use Rattle.text.specs.JobText.{Part, part, stopped, read_text}
use Rattle.text.specs.ReadReplies.{Tables, stored_reply}
use Rattle.text.specs.Sizes.{bytes_lent, tables_lent, work_lent, log_lent, routes_lent}
use Rattle.text.specs.Routes.{WriteReply}
use Rattle.text.specs.Dot.{style_reply}
use Rattle.text.specs.declared.Style.{Style}

-- everything that a run is lent beside the job text
pub record Lent : Type 0 where
  pub tables : Tables
  pub work : List ℕ
  pub log : List ℕ
  pub routes : List ℕ

abbrev pub lent_of : Tables → List ℕ → List ℕ → List ℕ → Lent
lent_of tables work log routes = record { tables = tables; work = work; log = log; routes = routes }

-- the refusal's numbers, none where the routes are written; the bytes written; and what was lent, afterwards
pub record RunReply : Type 0 where
  pub refusal : List ℕ
  pub bytes : ℕ
  pub lent : Lent

abbrev pub run_reply_with : List ℕ → ℕ → Lent → RunReply
run_reply_with refusal bytes lent = record { refusal = refusal; bytes = bytes; lent = lent }

-- the routes are written from the words used
abbrev pub after_write : Tables → RouteReply → WriteReply → RunReply
after_write t r w = run_reply_with w.refusal w.bytes (lent_of t r.work r.log w.buffer)

-- a job that isn't accepted has no routes
abbrev pub after_route : Style → List ℕ → List ℕ → Tables → RouteReply → List ℕ → RunReply
after_route style [] sources t r routes = after_write t r (style_reply style sources (take r.used r.log) routes)
after_route style (k ∷ ks) sources t r routes = run_reply_with (k ∷ ks) 0 (lent_of t r.work r.log routes)

unfoldable pub route_run : Style → Job → Tables → List ℕ → List ℕ → List ℕ → RunReply
route_run style j t work log routes = after_route style (route_reply j work log).refusal j.sources t (route_reply j work log) routes

-- a job is routed where the reader refuses nothing; the tables are as the reader left them, and all else as it was
abbrev pub after_read : Style → Job → List ℕ → Tables → Lent → RunReply
after_read style j [] t l = route_run style j t l.work l.log l.routes
after_read style j (k ∷ ks) t l = run_reply_with (k ∷ ks) 0 (lent_of t l.work l.log l.routes)

-- a text that is refused leaves all that was lent as it was
abbrev pub run_of : Style → Part Job → Lent → RunReply
run_of style (stopped k at) l = run_reply_with (k ∷ at ∷ []) 0 l
run_of style (part j at rest) l = after_read style j (stored_reply j l.tables).refusal (stored_reply j l.tables).tables l

-- "routing of a directed graph by negotiated congestion, the job text before it and the routes text after it": what a run over any job text
-- answers and leaves
unfoldable pub run_reply : Style → List ℕ → Lent → RunReply
run_reply style text l = run_of style (read_text text) l

-- 01's numbers for each case of the answer
abbrev pub run_numbers : Result ℕ Refused → List ℕ
run_numbers (Ok bytes) = []
run_numbers (Err refused) = refused_numbers refused

abbrev pub run_bytes : Result ℕ Refused → ℕ
run_bytes (Ok bytes) = bytes
run_bytes (Err refused) = 0

-- the answer with the routes buffer at the call's end, where only the writer was called
abbrev pub written_reply_of : Result ℕ Refused → List ℕ → WriteReply
written_reply_of r buffer = record { refusal = run_numbers r; bytes = run_bytes r; buffer = buffer }

-- the answer with what was lent at the call's end
abbrev pub run_reply_of : Result ℕ Refused → Lent → RunReply
run_reply_of r l = run_reply_with (run_numbers r) (run_bytes r) l

-- ---- the program

-- "65,536 bytes each for job, .."
abbrev pub input_most : ℕ
input_most = bytes_lent

-- the bytes to print, and what was lent afterwards
pub record Response : Type 0 where
  pub bytes : ℕ
  pub lent : Lent

abbrev pub response_of : ℕ → Lent → Response
response_of bytes lent = record { bytes = bytes; lent = lent }

-- the routes buffer up to a place is printed
abbrev pub line_response : PlaceReply → Lent → Response
line_response x l = response_of x.next (lent_of l.tables l.work l.log x.buffer)

-- the routes text is in the buffer already, or the line of the refusal is put at its start: "`X,` and the numbers of the refusal's first
-- column below, parted by commas, then LF", nothing where the buffer is too short for it. What a run leaves "untouched" by rows 1 to 6, 10,
-- 11 and 15 is still as it was but for that line, which has to be somewhere to be printed
abbrev pub answered : List ℕ → RunReply → Response
answered [] r = response_of r.bytes r.lent
answered (k ∷ ks) r = line_response (line_reply letter_x (k ∷ ks) 0 r.lent.routes) r.lent

-- "12, 65536 .. more input bytes": "only the X line printed"
unfoldable pub response : Style → List ℕ → Lent → Response
response style input l =
    choose (ltb input_most (length input)) (line_response (line_reply letter_x (12 ∷ input_most ∷ []) 0 l.routes) l)
    (answered (run_reply style input l).refusal (run_reply style input l))

-- "The program reads a job from standard input and prints the routes text, or `X,` and the numbers": the bytes at the routes buffer's start
abbrev pub printed : Response → List ℕ
printed r = take r.bytes r.lent.routes

-- how many they are, and the buffer
abbrev pub shown_in : Response → PlaceReply
shown_in r = place_reply_of r.bytes r.lent.routes

-- what the program lends beside the job text, in a routes buffer that holds these bytes
abbrev pub program_lent : List ℕ → Lent
program_lent routes = lent_of tables_lent work_lent log_lent routes

-- what it prints
abbrev pub program_prints : Style → List ℕ → List ℕ
program_prints style input = printed (response style input (program_lent routes_lent))
