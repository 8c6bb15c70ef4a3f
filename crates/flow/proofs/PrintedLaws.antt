-- What is printed for a text that is read to a job: its routes where the job is accepted, else the line of its refusal. What is lent has to be long enough, and how
-- much longer it is makes no difference.
-- Assumes nothing.
use mathlib.Core.Bool.{true, false}
use mathlib.Core.List.{List, [], ◌∷◌}
use mathlib.Core.Path.{◌≡◌, refl, sym, ◌∙◌, ap}
use Prim.Native.Nat.{ℕ, ◌≤◌}
use native.Mathlib.Nat.{zero-add}
use lib.ListN.{length, take, drop}
use lib.Seq.{take_at}
use borrow.Author.Tests.{le-leb, le-ltb}
use Rattle.price.specs.Bounds.{nodes_most}
use Rattle.job.specs.Job.{Job, nodes}
use Rattle.job.specs.Tables.{sources_sound, exceeds}
use Rattle.negotiation.specs.Records.{decode}
use Rattle.negotiation.specs.Outcome.{RouteReply, words_used, route_reply}
use Rattle.text.specs.Lines.{letter_x, print_line}
use Rattle.text.specs.LineReplies.{placed, line_reply}
use Rattle.text.specs.JobText.{part, read_text}
use Rattle.text.specs.ReadReplies.{short_table, written_over, tables_with, stored_reply}
use Rattle.text.specs.Routes.{log_sound, writable, WriteReply, text_reply, tested_reply}
use Rattle.text.specs.Dot.{text_in, style_reply}
use Rattle.text.specs.declared.Style.{Style}
use Rattle.flow.specs.RunReplies.{Lent, lent_of, RunReply, run_reply_with, after_write, after_route, route_run, run_reply, input_most, answered, response, printed}
use Rattle.flow.proofs.RunLaws.{responded}

-- a line that fits stands at the buffer's start
line-printed :
    (numbers routes : List ℕ) → length (print_line letter_x numbers) ≤ length routes
    → take (line_reply letter_x numbers 0 routes).next (line_reply letter_x numbers 0 routes).buffer ≡ print_line letter_x numbers
unfolding line_reply placed
line-printed numbers routes room =
    rw (zero-add (length (print_line letter_x numbers)), le-leb (length (print_line letter_x numbers)) (length routes) room)
    (take_at (print_line letter_x numbers) (drop (length (print_line letter_x numbers)) routes) (length (print_line letter_x numbers)) refl)

-- what the writer leaves of a sound log that fits
abbrev written_text : List ℕ → List ℕ → WriteReply
written_text text routes = record { refusal = []; bytes = length text; buffer = written_over text routes }

written_is :
    (style : Style) (sources words routes : List ℕ) → sources_sound nodes_most sources ≡ true → log_sound (writable sources) words ≡ true
    → length (text_in style sources (decode words)) ≤ length routes
    → style_reply style sources words routes ≡ written_text (text_in style sources (decode words)) routes
unfolding tested_reply text_reply
written_is style sources words routes s t room = rw (s, t, le-ltb (length routes) (length (text_in style sources (decode words))) room)

over-printed : (text routes : List ℕ) → take (length text) (written_over text routes) ≡ text
unfolding written_over
over-printed text routes = take_at text (drop (length text) routes) (length text) refl

module _
    (style : Style) (input : List ℕ) (l : Lent) (j : Job) (at : ℕ) (rest : List ℕ) (read : read_text input ≡ part j at rest)
    (short : length input ≤ input_most) (long : short_table j l.tables ≡ 0) (within : exceeds (nodes j) j.terms ≡ false) where
  abbrev reply : RouteReply
  reply = route_reply j l.work l.log

  run_is : run_reply style input l ≡ after_route style reply.refusal j.sources (tables_with j l.tables) reply l.routes
  unfolding run_reply stored_reply route_run
  run_is = rw (read, long, within)

  print_is : (r : RunReply) → run_reply style input l ≡ r → printed (response style input l) ≡ printed (answered r.refusal r)
  print_is r e = ap printed (sym (responded style input l short r (sym e)))

  -- a job that is refused
  pub refusal-printed :
      (k : ℕ) (ks : List ℕ) → reply.refusal ≡ k ∷ ks → length (print_line letter_x (k ∷ ks)) ≤ length l.routes
      → printed (response style input l) ≡ print_line letter_x (k ∷ ks)
  refusal-printed k ks e room =
      let ran : run_reply style input l ≡ run_reply_with (k ∷ ks) 0 (lent_of (tables_with j l.tables) reply.work reply.log l.routes) =
      run_is ∙ ap (λ (ns : List ℕ). after_route style ns j.sources (tables_with j l.tables) reply l.routes) e in
      print_is (run_reply_with (k ∷ ks) 0 (lent_of (tables_with j l.tables) reply.work reply.log l.routes)) ran
      ∙ line-printed (k ∷ ks) l.routes room

  -- one that is accepted, whose log is of these words
  pub routes-printed :
      (words : List ℕ) → reply.refusal ≡ [] → words_used reply ≡ words → sources_sound nodes_most j.sources ≡ true → log_sound (writable j.sources) words ≡ true
      → length (text_in style j.sources (decode words)) ≤ length l.routes
      → printed (response style input l) ≡ text_in style j.sources (decode words)
  routes-printed words e words_are s t room =
      let text : List ℕ = text_in style j.sources (decode words) in
      let after : Lent = lent_of (tables_with j l.tables) reply.work reply.log (written_over text l.routes) in
      let ran : run_reply style input l ≡ run_reply_with [] (length text) after =
      run_is
      ∙ ap (λ (ns : List ℕ). after_route style ns j.sources (tables_with j l.tables) reply l.routes) e
      ∙ ap (λ (ws : List ℕ). after_write (tables_with j l.tables) reply (style_reply style j.sources ws l.routes)) words_are
      ∙ ap (after_write (tables_with j l.tables) reply) (written_is style j.sources words l.routes s t room) in
      print_is (run_reply_with [] (length text) after) ran ∙ over-printed text l.routes
