-- What a run answers never counts more bytes than the routes buffer has.
-- Assumes nothing.
use mathlib.Core.List.{List, [], ◌∷◌}
use mathlib.Core.Path.{◌≡◌, sym, ap, subst}
use Prim.Native.Nat.{ℕ, ◌+◌, ◌≤◌, zero-le}
use native.Mathlib.Omega.{arith}
use lib.Dec.{leb, ltb}
use lib.ListN.{length, take, drop, replicate, length-append}
use borrow.Author.Tests.{leb-true}
use Rattle.price.specs.Bounds.{nodes_most}
use Rattle.price.proofs.TestLaws.{by_test}
use Rattle.job.specs.Job.{Job}
use Rattle.negotiation.specs.Records.{decode}
use Rattle.job.specs.Tables.{sources_sound}
use Rattle.negotiation.specs.Outcome.{RouteReply, route_reply}
use Rattle.text.specs.Lines.{letter_x, print_line}
use Rattle.text.specs.LineReplies.{PlaceReply, place_reply_of, line_reply}
use Rattle.text.specs.JobText.{Part, part, stopped, read_text}
use Rattle.text.specs.ReadReplies.{Tables, tables_of, written_over, stored_reply}
use Rattle.text.specs.Sizes.{words_lent, entries_lent, nodes_lent, edges_lent, nets_lent, sinks_lent, tables_lent, work_lent, log_lent}
use Rattle.text.specs.Routes.{log_sound, writable, text_reply, tested_reply}
use Rattle.text.specs.Dot.{text_in, style_reply}
use Rattle.text.specs.declared.Style.{Style}
use Rattle.text.proofs.PlacedLaws.{placed-length}
use Rattle.flow.specs.RunReplies.{Lent, RunReply, after_route, route_run, after_read, run_of, run_reply, input_most, Response, line_response, answered, response_of, response, lent_of, shown_in, program_lent}

-- what was written over a list lies within it
pub over-long : (new old : List ℕ) → length new ≤ length (written_over new old)
unfolding written_over
over-long new old = let long = length-append new (drop (length new) old) in omega arith

text_fits : (text buffer : List ℕ) → (text_reply text buffer).bytes ≤ length (text_reply text buffer).buffer
unfolding text_reply
text_fits text buffer =
    by_test (ltb (length buffer) (length text))
    (λ e. rw e zero-le)
    (λ e. rw e (over-long text buffer))

write_fits : (style : Style) (sources log buffer : List ℕ) → (style_reply style sources log buffer).bytes ≤ length (style_reply style sources log buffer).buffer
unfolding tested_reply
write_fits style sources log buffer =
    by_test (sources_sound nodes_most sources)
    (λ t.
    by_test (log_sound (writable sources) log)
    (λ e. rw (t, e) (text_fits (text_in style sources (decode log)) buffer))
    (λ e. rw (t, e) zero-le))
    (λ t. rw t zero-le)

after-fits :
    (style : Style) (refusal sources : List ℕ) (t : Tables) (r : RouteReply) (routes : List ℕ)
    → (after_route style refusal sources t r routes).bytes ≤ length (after_route style refusal sources t r routes).lent.routes
after-fits style [] sources t r routes = write_fits style sources (take r.used r.log) routes
after-fits style (k ∷ ks) sources t r routes = zero-le

read_fits :
    (style : Style) (j : Job) (refusal : List ℕ) (t : Tables) (l : Lent)
    → (after_read style j refusal t l).bytes ≤ length (after_read style j refusal t l).lent.routes
unfolding route_run
read_fits style j [] t l = after-fits style (route_reply j l.work l.log).refusal j.sources t (route_reply j l.work l.log) l.routes
read_fits style j (k ∷ ks) t l = zero-le

run_of-fits : (style : Style) (p : Part Job) (l : Lent) → (run_of style p l).bytes ≤ length (run_of style p l).lent.routes
run_of-fits style (stopped k at) l = zero-le
run_of-fits style (part j at rest) l = read_fits style j (stored_reply j l.tables).refusal (stored_reply j l.tables).tables l

-- the line of a refusal, printed
abbrev line_shown_lem : List ℕ → Lent → Response
line_shown_lem numbers l = line_response (line_reply letter_x numbers 0 l.routes) l

line-fits : (numbers : List ℕ) (l : Lent) → (line_shown_lem numbers l).bytes ≤ length (line_shown_lem numbers l).lent.routes
unfolding line_reply
line-fits numbers l =
    let size : ℕ = 0 + length (print_line letter_x numbers) in
    by_test (leb size (length l.routes))
    (λ e.
    let fits = leb-true size (length l.routes) e in
    rw (e, placed-length 0 (print_line letter_x numbers) l.routes fits) fits)
    (λ e. rw e zero-le)

answer-fits : (refusal : List ℕ) (r : RunReply) → r.bytes ≤ length r.lent.routes → (answered refusal r).bytes ≤ length (answered refusal r).lent.routes
answer-fits [] r h = h
answer-fits (k ∷ ks) r h = line-fits (k ∷ ks) r.lent

pub response-fits : (style : Style) (input : List ℕ) (l : Lent) → (response style input l).bytes ≤ length (response style input l).lent.routes
unfolding response run_reply
response-fits style input l =
    by_test (ltb input_most (length input))
    (λ e. rw e (line-fits (12 ∷ input_most ∷ []) l))
    (λ e.
    rw e (answer-fits (run_of style (read_text input) l).refusal (run_of style (read_text input) l) (run_of-fits style (read_text input) l)))

-- what is shown with tables, work memory and log of 01's sizes, all 0
pub shown_lent :
    (style : Style) (input routes : List ℕ) (after : Lent) (bytes : ℕ)
    → response_of bytes after
    ≡ response style input
    (lent_of
    (tables_of (replicate nodes_lent 0) (replicate nodes_lent 0) (replicate (nodes_lent + 1) 0) (replicate edges_lent 0) (replicate nets_lent 0) (replicate (nets_lent + 1) 0)
    (replicate sinks_lent 0) (replicate nodes_lent 0) (replicate sinks_lent 0))
    (replicate entries_lent 0) (replicate words_lent 0) routes)
    → place_reply_of bytes after.routes ≡ shown_in (response style input (program_lent routes))
unfolding tables_lent work_lent log_lent
shown_lent style input routes after bytes e = ap shown_in e

-- and printed: it lies within the buffer
pub shown_fits :
    (style : Style) (input : List ℕ) (l : Lent) (bytes : ℕ) (routes : List ℕ) → place_reply_of bytes routes ≡ shown_in (response style input l) → bytes ≤ length routes
shown_fits style input l bytes routes e = subst (λ (x : PlaceReply). x.next ≤ length x.buffer) (sym e) (response-fits style input l)
