-- Either text of a log: its three parts, and what the writer answers.
--     text-, body_put, tail_room       its parts one after the other, counted and then written, and what they take
--     write-                           refusals before the text, and the text of a sound log
--     head_most, joins_most, tail_most the most bytes before and after the branches
-- Assumes nothing.
use mathlib.Core.Bool.{Bool, true, false}
use mathlib.Core.List.{List, [], ◌∷◌, ◌++◌}
use mathlib.Core.Path.{◌≡◌, refl, sym, ◌∙◌, ap, subst, fun_ext}
use Prim.Native.Nat.{ℕ, zero, suc, ◌+◌, ◌*◌, ◌-◌, ◌^◌, ◌≤◌, ◌<◌}
use native.Mathlib.Omega.{arith}
use lib.Dec.{ltb}
use lib.ListN.{length, length-append}
use borrow.Author.Tests.{lt-ltb, le-ltb, ltb-true}
use Rattle.price.specs.Bounds.{nodes_most}
use Rattle.negotiation.specs.Records.{Record, decode}
use Rattle.price.proofs.TestLaws.{by_test, both_left}
use Rattle.job.specs.Tables.{nets_most, sources_sound}
use Rattle.job.specs.Join.{first_of, leads}
use Rattle.job.proofs.JobLaws.{sources-few}
use Rattle.text.specs.Lines.{letter_r, letter_j, print_line}
use Rattle.text.specs.Routes.{WriteReply, net_writable, writable, route_branches, Join, joins_before, route_joins, join_text, last_iteration, routes_text, capped, not_written, text_reply, tested_reply, write_refusal, write_reply_of}
use Rattle.text.specs.Dot.{dot_text, style_text, text_in}
use Rattle.text.specs.Users.{sound, unsound, log_checked}
use Rattle.text.specs.WriteSteps.{Put, Filled, head_text, tail_text, net_marked, named_by, LogTested}
use Rattle.std.proofs.Common.{Result, Ok, Err}
use Rattle.std.specs.Prelude.{IsErrAnd}
use Rattle.text.specs.declared.WriteRefusal.{WriteRefusal}
use Rattle.text.specs.declared.Style.{Style}
use Rattle.text.specs.declared.Style.TheVariants as s
use Rattle.text.specs.ReadReplies.{written_over}
use Rattle.text.proofs.PlacedLaws.{put-length, placed-start}
use Rattle.text.proofs.DecimalLaws.{two_most}
use Rattle.text.proofs.LogLaws.{found, found_none}
use Rattle.text.proofs.StepTextLaws.{filled_then}

-- ---- the parts of the text

abbrev pub body_text : Style → List ℕ → List ℕ → List ℕ
body_text style sources log = style_text style (route_branches (length sources) (decode log))

-- the bytes of all three
abbrev pub text_bytes : Style → ℕ → ℕ → List ℕ → List ℕ → ℕ
text_bytes style iteration turns log sources = length (head_text style iteration turns) + (length (body_text style sources log) + length (tail_text style sources))

-- either text is its parts
parts : (style : Style) (sources : List ℕ) (rs : List Record) → text_in style sources rs ≡ head_text style (last_iteration rs) (length rs) ++ (style_text style (route_branches (length sources) rs) ++ tail_text style sources)
unfolding routes_text dot_text
parts s.Lines sources rs = refl
parts s.Picture sources rs = refl

module _ {log : List ℕ} {iteration turns : ℕ} (style : Style) (f : LogTested log iteration turns) (sources : List ℕ) where
  text_is : text_in style sources (decode log) ≡ head_text style iteration turns ++ (body_text style sources log ++ tail_text style sources)
  text_is = parts style sources (decode log) ∙ rw (← f.iteration-is, ← f.turns_are)

  text_length : length (text_in style sources (decode log)) ≡ text_bytes style iteration turns log sources
  text_length =
      ap length text_is
      ∙ omega (arith, length-append (head_text style iteration turns) (body_text style sources log ++ tail_text style sources), length-append (body_text style sources log) (tail_text style sources))

  -- one after the other
  pub text_filled :
      {p q r : ℕ} {b₀ b₁ b₂ b₃ : List ℕ} → Filled 0 (head_text style iteration turns) b₀ b₁ p
      → Filled p (body_text style sources log) b₁ b₂ q → Filled q (tail_text style sources) b₂ b₃ r
      → Filled 0 (text_in style sources (decode log)) b₀ b₃ r
  text_filled {r = r} {b₀ = b₀} {b₃ = b₃} h b t = subst (λ (text : List ℕ). Filled 0 text b₀ b₃ r) (sym text_is) (filled_then h (filled_then b t))

  -- in a buffer that is long enough the branches are written, and what follows them has room
  module _
      (buffer : List ℕ) (short : length buffer < 2 ^ 64) (fits : text_bytes style iteration turns log sources ≤ length buffer)
      {middle : List ℕ} {at : ℕ} (p : Put 0 (head_text style iteration turns) buffer middle at)
      {later : List ℕ} {next : ℕ} (g : Filled at (body_text style sources log) middle later next) where
    body_put : Put at (body_text style sources log) middle later next
    body_put =
        let same = put-length p (omega arith) in
        let place = p.next-is in
        record { written = g.written (omega arith) (omega arith); next-is = g.counted ∙ omega arith }

    pub tail_room : next + length (tail_text style sources) ≤ length later
    tail_room = omega (arith, p.next-is, body_put.next-is, put-length p (omega arith), g.kept)

-- ---- the most bytes that stand before the branches, and after them

pub head_most : (style : Style) (iteration turns : ℕ) → length (head_text style iteration turns) ≤ 44
head_most s.Lines iteration turns = two_most letter_r iteration turns
head_most s.Picture iteration turns = omega arith

lines_most : (ps : List Join) → length (join_text ps) ≤ 44 * length ps
unfolding join_text
lines_most [] = omega arith
lines_most (p ∷ ps) =
    omega (arith, length-append (print_line letter_j (p.net ∷ p.first ∷ [])) (join_text ps), two_most letter_j p.net p.first, lines_most ps)

joins_few : (sources : List ℕ) (n : ℕ) → length (joins_before sources n) ≤ n
unfolding joins_before
joins_few sources zero = omega arith
joins_few sources (suc n) =
    let one : Join = record { net = n; first = first_of sources n } in
    by_test (leads sources n)
    (λ q. rw (q, length-append (joins_before sources n) []) (omega (arith, joins_few sources n)))
    (λ q. rw (q, length-append (joins_before sources n) (one ∷ [])) (omega (arith, joins_few sources n)))

pub joins_most : (sources : List ℕ) → length sources ≤ nets_most → length (join_text (route_joins sources)) ≤ 44 * nets_most
unfolding route_joins
joins_most sources most = omega (arith, lines_most (route_joins sources), joins_few sources (length sources))

pub tail_most : (style : Style) (sources : List ℕ) → length sources ≤ nets_most → length (tail_text style sources) ≤ 44 * nets_most
tail_most s.Lines sources most = joins_most sources most
tail_most s.Picture sources most = omega arith

-- ---- counting first, then writing

module _ (text buffer : List ℕ) {needed : ℕ} {none none' : List ℕ} (f : Filled 0 text none none' needed) where
  pub text_short : length buffer < needed → not_written (11 ∷ needed ∷ []) buffer ≡ text_reply text buffer
  unfolding text_reply
  text_short l =
      let is : capped (length text) ≡ needed = omega (arith, f.counted) in
      rw (lt-ltb (length buffer) (length text) (omega (arith, f.counted)), is)

  pub text_done :
      {after : List ℕ} {bytes : ℕ} → needed ≤ length buffer → length buffer < 2 ^ 64 - 1 → Filled 0 text buffer after bytes
      → record { refusal = []; bytes = bytes; buffer = after } ≡ text_reply text buffer
  unfolding text_reply
  text_done {after} {bytes} l short g =
      let fits : length text ≤ length buffer = omega (arith, f.counted) in
      let count : bytes ≡ length text = omega (arith, g.counted) in
      let same : after ≡ written_over text buffer = g.written (omega arith) (omega arith) ∙ placed-start text buffer in
      rw (le-ltb (length buffer) (length text) fits, ← count, ← same)

-- ---- the writer

-- what a refusal answers
pub write_refused : (buffer : List ℕ) (r : Result ℕ WriteRefusal) (e : WriteRefusal) → IsErrAnd r (λ x. x ≡ e) → write_reply_of r buffer ≡ not_written (write_refusal (Err e)) buffer
write_refused buffer (Ok bytes) e h = absurd h
write_refused buffer (Err x) e h = rw h refl

-- a net that the writer takes is one of table 5, and so has few digits
pub writable-within : (sources : List ℕ) (i : ℕ) → net_writable sources i ≡ true → i < length sources
unfolding net_writable
writable-within sources i e = ltb-true i (length sources) (both_left (ltb i (length sources)) (leads sources i) e)

pub writable-few : (sources : List ℕ) → sources_sound nodes_most sources ≡ true → (i : ℕ) → net_writable sources i ≡ true → i < nets_most
writable-few sources t i e = omega (arith, writable-within sources i e, sources-few nodes_most sources t)

-- by the marks of those nets
pub marks_few :
    (sources : List ℕ) (marks : List Bool) → sources_sound nodes_most sources ≡ true → ((i : ℕ) → net_marked marks i ≡ net_writable sources i)
    → (i : ℕ) → net_marked marks i ≡ true → i < nets_most
marks_few sources marks t m i e = writable-few sources t i (sym (m i) ∙ e)

module _ (text : List ℕ → List Record → List ℕ) (sources log buffer : List ℕ) where
  pub write_table : sources_sound nodes_most sources ≡ false → not_written (5 ∷ 5 ∷ []) buffer ≡ tested_reply text sources log buffer
  unfolding tested_reply
  write_table t = rw t

  -- the log's test goes by the marks of the nets that may be named
  module _ (marks : List Bool) (t : sources_sound nodes_most sources ≡ true) (m : (i : ℕ) → net_marked marks i ≡ net_writable sources i) where
    by_marks : named_by marks nodes_most ≡ writable sources
    by_marks = ap (λ (net : ℕ → Bool). record { net = net; nodes = nodes_most }) (fun_ext m)

    pub write_unsound : {word : ℕ} → unsound word ≡ log_checked (named_by marks nodes_most) log → not_written (10 ∷ word ∷ []) buffer ≡ tested_reply text sources log buffer
    unfolding tested_reply
    write_unsound e =
        let n = found_none (writable sources) log (rw by_marks at e) in
        rw (t, n.0, n.1)

    pub write_sound :
        {iteration turns : ℕ} {reply : WriteReply} → sound iteration turns ≡ log_checked (named_by marks nodes_most) log
        → reply ≡ text_reply (text sources (decode log)) buffer → reply ≡ tested_reply text sources log buffer
    unfolding tested_reply
    write_sound e is =
        let n = found (writable sources) log (writable-few sources t) (omega arith) (rw by_marks at e) in
        is ∙ rw (t, n.0)
