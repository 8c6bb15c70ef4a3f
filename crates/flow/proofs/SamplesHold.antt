-- Every starred sample of 01, in one theorem: what 01 states is what the definitions give. Job B as text is computed in a log of 36 words; that the program, which lends far
-- more, prints the same follows by laws.
-- Assumes nothing.
use mathlib.Core.Bool.{true, false}
use mathlib.Core.List.{List, [], ◌∷◌, ◌++◌, flat_map}
use mathlib.Core.Path.{◌≡◌, refl, sym, ◌∙◌, ap}
use Prim.Native.Nat.{ℕ, ◌≤◌}
use native.Mathlib.Omega.{arith}
use lib.Dec.{ltb}
use lib.ListN.{length, get_or, replicate}
use borrow.Author.Tests.{leb-true, le-ltb}
use Rattle.price.specs.Bounds.{nodes_most}
use Rattle.job.specs.Job.{nodes, nets}
use Rattle.job.specs.Tables.{sources_sound, faulty_job, exceeds}
use Rattle.negotiation.specs.Records.{decode_up_to, decode}
use Rattle.negotiation.specs.Demand.{latest}
use Rattle.job.specs.Join.{first_of, leads, joined}
use Rattle.negotiation.specs.Outcome.{RouteReply, words_used, unreachable_net, negotiated, route_reply}
use Rattle.negotiation.specs.Longer.{SameLog, LogLengthened}
use Rattle.negotiation.specs.Samples.{job_b}
use Rattle.negotiation.proofs.LongerHolds.{log_lengthened}
use Rattle.price.specs.Samples.{Sample, Hold}
use Rattle.price.specs.Samples as p
use Rattle.price.proofs.SamplesHold as p-hold
use Rattle.negotiation.specs.Samples as n
use Rattle.negotiation.proofs.SamplesHold as n-hold
use Rattle.text.specs.Decimal.{is_digit, digits, decimal}
use Rattle.text.specs.Lines.{letter_x, digits_after, field, begins, fields, line, print_fields, print_line}
use Rattle.text.specs.JobText.{head_within, head_line, tuning_within, tuning_line, rule_fields, rule_within, rule_line, timed_line, node_within, node_line, rises, edge_within, edge_ordered, edge_line}
use Rattle.text.specs.JobText.{pin_within, source_line, sink_ordered, sink_within, sink_line, tuning_part, rule_part, timed_part, terms_part, head_part, node_lines, edge_lines, sinks_now, source_due, sink_due}
use Rattle.text.specs.JobText.{complete, net_end, next_source, next_sink, net_line, net_lines, first_places, job_read, part, read_text}
use Rattle.text.specs.ReadReplies.{short_table}
use Rattle.text.specs.Sizes.{bytes_lent, tables_lent, work_lent, log_lent, routes_lent}
use Rattle.text.specs.declared.Style.TheVariants as s
use Rattle.text.proofs.SizeLaws.{router_long, lent_tables, work-long, log-long, routes-long}
use Rattle.text.specs.Routes.{path_sound, record_sound, sound_up_to, sound_words, log_sound, net_writable, steps, last_iteration, passing, final_records, record_branches, tree_branches, route_branches, branch_line, joins_before, route_joins, join_text, routes_text, writable}
use Rattle.flow.specs.RunReplies.{lent_of, input_most, response, printed, program_lent, program_prints}
use Rattle.flow.specs.Samples.{lined, lines_b, routed, limited, filled, texts, samples}
use Rattle.flow.proofs.PrintedLaws.{refusal-printed, routes-printed}

-- all that a closed text computes with: the lines and routes, and what a closed job does
computing : Unit {0}
unfolding routes_text join_text route_joins joins_before flat_map branch_line route_branches tree_branches record_branches final_records passing latest last_iteration steps net_writable leads first_of log_sound sound_words sound_up_to record_sound path_sound
    read_text job_read first_places net_lines net_line next_sink next_source net_end complete sink_due source_due sinks_now edge_lines node_lines head_part terms_part timed_part rule_part tuning_part
    sink_line sink_within sink_ordered source_line pin_within edge_line edge_ordered edge_within rises node_line node_within timed_line rule_line rule_within rule_fields tuning_line tuning_within head_line head_within
    print_line print_fields line fields begins field digits_after decimal digits is_digit lined decode decode_up_to
    n-hold.computing
computing = tt

-- ---- job B, computed in a log of 36 words

abbrev words_b : List ℕ
words_b =
    1 ∷ 0 ∷ 4 ∷ 4000 ∷ 0 ∷ 3 ∷ 0 ∷ 2 ∷ 4
    ∷ 1 ∷ 1 ∷ 5 ∷ 4000 ∷ 0 ∷ 3 ∷ 1 ∷ 2 ∷ 5
    ∷ 2 ∷ 0 ∷ 4 ∷ 6000 ∷ 0 ∷ 3 ∷ 0 ∷ 3 ∷ 4
    ∷ 2 ∷ 1 ∷ 5 ∷ 6000 ∷ 0 ∷ 3 ∷ 1 ∷ 2 ∷ 5
    ∷ []

abbrev small : ℕ → RouteReply
small limit = route_reply (job_b limit) (replicate 48 0) (replicate 36 0)

small_accepted : (small 2).refusal ≡ []
unfolding computing
small_accepted = refl

small-words : words_used (small 2) ≡ words_b
unfolding computing
small-words = refl

small-limited : (small 1).refusal ≡ 9 ∷ 1 ∷ 1 ∷ []
unfolding computing
small-limited = refl

-- in a log of 35 words it ends so in any work memory that is enough
module _ (work : List ℕ) (enough : 48 ≤ length work) where
  sound_b : faulty_job (job_b 2) ≡ 0
  unfolding computing
  sound_b = refl

  reached_b : ltb (unreachable_net (joined (job_b 2))) (nets (job_b 2)) ≡ false
  unfolding computing
  reached_b = refl

  runs_b : (log : List ℕ) → route_reply (job_b 2) work log ≡ negotiated (joined (job_b 2)) work log
  unfolding route_reply exceeds
  runs_b log = rw (sound_b, le-ltb (length work) 48 enough, reached_b)

  cut_b : (negotiated (joined (job_b 2)) work (replicate 35 0)).refusal ≡ 8 ∷ 2 ∷ 3 ∷ []
  unfolding computing
  cut_b = refl

  filled_reply : (route_reply (job_b 2) work (replicate 35 0)).refusal ≡ 8 ∷ 2 ∷ 3 ∷ []
  filled_reply = ap (λ (r : RouteReply). r.refusal) (runs_b (replicate 35 0)) ∙ cut_b

-- ---- the same with what the program lends

read_b : read_text (lined (lines_b 50)) ≡ part (job_b 2) 18 []
unfolding computing
read_b = refl

read_limited : read_text (lined (lines_b 49)) ≡ part (job_b 1) 18 []
unfolding computing
read_limited = refl

short_b : length (lined (lines_b 50)) ≤ input_most
unfolding lined
short_b = leb-true (length (lined (lines_b 50))) input_most refl

short-limited : length (lined (lines_b 49)) ≤ input_most
unfolding lined
short-limited = leb-true (length (lined (lines_b 49))) input_most refl

module _ (limit : ℕ) where
  tables_long : short_table (job_b limit) tables_lent ≡ 0
  tables_long = router_long (job_b limit) tables_lent lent_tables (omega arith) (omega arith) (omega arith) (omega arith) refl refl

  within_b : exceeds (nodes (job_b limit)) (job_b limit).terms ≡ false
  unfolding exceeds
  within_b = refl

  -- the longer log begins as the shorter
  lengthened : LogLengthened 36 (small limit) (route_reply (job_b limit) work_lent log_lent)
  lengthened = log_lengthened (job_b limit) (replicate 48 0) (replicate 36 0) work_lent log_lent (omega arith) (work-long 48 (omega arith)) (log-long 36 (omega arith))

  -- a refusal's line, in all that the program lends but the log
  line_shown :
      (byte : ℕ) (log : List ℕ) (k : ℕ) (ks : List ℕ) → read_text (lined (lines_b byte)) ≡ part (job_b limit) 18 [] → length (lined (lines_b byte)) ≤ input_most
      → (route_reply (job_b limit) work_lent log).refusal ≡ k ∷ ks → length (print_line letter_x (k ∷ ks)) ≤ bytes_lent
      → printed (response s.Lines (lined (lines_b byte)) (lent_of tables_lent work_lent log routes_lent)) ≡ print_line letter_x (k ∷ ks)
  line_shown byte log k ks read short e room =
      refusal-printed s.Lines (lined (lines_b byte)) (lent_of tables_lent work_lent log routes_lent) (job_b limit) 18 [] read short tables_long within_b k ks e
      (routes-long (length (print_line letter_x (k ∷ ks))) room)

text_b : routes_text (0 ∷ 1 ∷ []) (decode words_b) ≡ routed.stated
unfolding computing
text_b = refl

text_fits : length (routes_text (0 ∷ 1 ∷ []) (decode words_b)) ≤ bytes_lent
text_fits = rw text_b (omega arith)

sources_b : sources_sound nodes_most (0 ∷ 1 ∷ []) ≡ true
unfolding computing
sources_b = refl

log_b : log_sound (writable (0 ∷ 1 ∷ [])) words_b ≡ true
unfolding computing
log_b = refl

routed_holds : program_prints s.Lines (lined (lines_b 50)) ≡ routed.stated
routed_holds =
    let same : SameLog (small 2) (route_reply (job_b 2) work_lent log_lent) = (lengthened 2).same small_accepted in
    routes-printed s.Lines (lined (lines_b 50)) (program_lent routes_lent) (job_b 2) 18 [] read_b short_b (tables_long 2) (within_b 2) words_b
    (same.refusal ∙ small_accepted) (same.words ∙ small-words) sources_b log_b (routes-long (length (routes_text (0 ∷ 1 ∷ []) (decode words_b))) text_fits)
    ∙ text_b

line-limited : print_line letter_x (9 ∷ 1 ∷ 1 ∷ []) ≡ limited.stated
unfolding computing
line-limited = refl

line-filled : print_line letter_x (8 ∷ 2 ∷ 3 ∷ []) ≡ filled.stated
unfolding computing
line-filled = refl

-- refusal 9 is no 8
not_full : (iteration turns : ℕ) → (small 1).refusal ≡ 8 ∷ iteration ∷ turns ∷ [] → ⊥
not_full iteration turns e =
    let first : ◌≡◌ {A = ℕ} 9 8 = ap (λ (ns : List ℕ). get_or ns 0 0) (sym small-limited ∙ e) in
    omega arith

limited_holds : program_prints s.Lines (lined (lines_b 49)) ≡ limited.stated
limited_holds =
    let same : SameLog (small 1) (route_reply (job_b 1) work_lent log_lent) = (lengthened 1).unless_full not_full in
    line_shown 1 49 log_lent 9 (1 ∷ 1 ∷ []) read_limited short-limited (same.refusal ∙ small-limited) (rw line-limited (omega arith)) ∙ line-limited

filled_holds : filled.defined ≡ filled.stated
filled_holds =
    line_shown 2 50 (replicate 35 0) 8 (2 ∷ 3 ∷ []) read_b short_b (filled_reply work_lent (work-long 48 (omega arith))) (rw line-filled (omega arith)) ∙ line-filled

texts_hold : Hold texts
unfolding texts
texts_hold = (routed_holds, (limited_holds, (filled_holds, tt)))

hold_both : (xs ys : List Sample) → Hold xs → Hold ys → Hold (xs ++ ys)
hold_both [] ys h k = k
hold_both (x ∷ xs) ys h k = (h.0, hold_both xs ys h.1 k)

pub samples_hold : Hold samples
unfolding samples
samples_hold =
    hold_both p.samples (n.samples ++ texts) p-hold.samples_hold (hold_both n.samples texts n-hold.samples_hold texts_hold)
