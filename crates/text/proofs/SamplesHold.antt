-- Small logs, computed: a record with a node at the bound of nodes is unsound, and sound where the bound is 4,096; how many nets have each node.
-- V lines, W lines and the further numbers of timed jobs: what each gives, or its refusal. And a small timed text, read to its tables.
-- Assumes nothing.
use mathlib.Core.Bool.{true, false}
use mathlib.Core.List.{List, [], ◌∷◌, ◌++◌}
use mathlib.Core.Path.{◌≡◌, refl}
use Prim.Native.Nat.{ℕ}
use Rattle.price.specs.Bounds.{nodes_most}
use Rattle.price.specs.Lists.{every, has, up_to, total, count_below}
use Rattle.price.specs.Tuning.{plain}
use Rattle.job.specs.Job.{job_of}
use Rattle.job.specs.Tables.{one_of, rule_sound, exceeds}
use Rattle.job.specs.declared.Terms.{Terms}
use Rattle.negotiation.specs.Records.{decode_up_to, decode}
use Rattle.negotiation.specs.Demand.{nodes_in, latest, tree_read}
use Rattle.text.specs.Decimal.{is_digit}
use Rattle.text.specs.Lines.{digits_after, field, begins, fields, line}
use Rattle.text.specs.JobText.{values, refused, rule_fields, rule_within, rule_line, timed_line, node_within, node_line, pin_within, sink_ordered, sink_within, sink_line}
use Rattle.text.specs.JobText.{head_within, head_line, tuning_part, rule_part, timed_part, terms_part, head_part, node_lines, part, stopped}
use Rattle.text.specs.JobText.{rises, edge_within, edge_ordered, edge_line, edge_lines, source_line, sinks_now, source_due, sink_due, complete, net_end, next_source, next_sink, net_line, net_lines, first_places, job_read, read_text}
use Rattle.text.specs.ReadReplies.{Tables, tables_of, not_read, lowest_short, short_times, short_untimed, short_table, tables_with, written_over, job_numbers, stored_reply, read_reply}
use Rattle.text.specs.Routes.{path_sound, record_sound, sound_up_to, sound_words, log_sound, last_iteration}
use Rattle.text.specs.Users.{sound, unsound, log_checked, below_nodes, nets_with, users_reply}

-- all that the test of a closed log computes with
testing : Unit {0}
unfolding log_checked log_sound sound_words sound_up_to record_sound path_sound last_iteration decode decode_up_to every
testing = tt

-- iteration 1, net 0, sink 5, cost 0, and the path from node 3 to node 5
abbrev to_five : List ℕ
to_five = 1 ∷ 0 ∷ 5 ∷ 0 ∷ 0 ∷ 2 ∷ 3 ∷ 5 ∷ []

pub at-bound-unsound : log_sound (below_nodes 5) to_five ≡ false
unfolding testing
at-bound-unsound = refl

pub below-bound-sound : log_sound (below_nodes nodes_most) to_five ≡ true
unfolding testing
below-bound-sound = refl

-- two nets, of which net 0 passes 0 and 3 twice in iteration 2, and net 1 has no record after iteration 1
abbrev twice : List ℕ
twice =
    1 ∷ 0 ∷ 4 ∷ 0 ∷ 0 ∷ 3 ∷ 0 ∷ 2 ∷ 4
    ∷ 1 ∷ 1 ∷ 5 ∷ 0 ∷ 0 ∷ 3 ∷ 1 ∷ 2 ∷ 5
    ∷ 2 ∷ 0 ∷ 4 ∷ 0 ∷ 0 ∷ 3 ∷ 0 ∷ 3 ∷ 4
    ∷ 2 ∷ 0 ∷ 5 ∷ 0 ∷ 0 ∷ 4 ∷ 0 ∷ 3 ∷ 0 ∷ 5
    ∷ []

pub users-counted : (users : List ℕ) → users_reply (below_nodes 6) twice users ≡ record { checked = sound 2 4; users = up_to (nets_with (decode twice)) nodes_most }
unfolding testing users_reply
users-counted users = refl

-- both final trees have node 5, and net 0's has 3 on two paths; its path over 2 is of an older iteration
pub users_are : up_to (nets_with (decode twice)) 7 ≡ 1 ∷ 1 ∷ 1 ∷ 1 ∷ 1 ∷ 2 ∷ 0 ∷ []
unfolding nets_with tree_read latest nodes_in decode decode_up_to has up_to count_below
users_are = refl

-- the second record has node 5, at the bound: the users stay
pub users-stay : (users : List ℕ) → users_reply (below_nodes 5) twice users ≡ record { checked = unsound 9; users = users }
unfolding testing users_reply
users-stay users = refl

-- ---- V lines

-- all that a closed V line computes with
reading : Unit {0}
unfolding rule_line rule_within rule_sound one_of rule_fields line fields field digits_after is_digit
reading = tt

-- the bytes of `V,` and these, with LF
abbrev line_v : List ℕ → List ℕ
line_v bs = 86 ∷ 44 ∷ (bs ++ (10 ∷ []))

-- `V,2` and `V,1`
pub rule_2_alone : rule_line (line_v (50 ∷ [])) ≡ values (2 ∷ 1 ∷ []) []
unfolding reading
rule_2_alone = refl

pub rule_1_alone : rule_line (line_v (49 ∷ [])) ≡ values (1 ∷ 1 ∷ []) []
unfolding reading
rule_1_alone = refl

-- `V,2,99`, `V,2,100` and `V,2,0`
pub last_k : rule_line (line_v (50 ∷ 44 ∷ 57 ∷ 57 ∷ [])) ≡ values (2 ∷ 99 ∷ []) []
unfolding reading
last_k = refl

pub k_too_high : rule_line (line_v (50 ∷ 44 ∷ 49 ∷ 48 ∷ 48 ∷ [])) ≡ refused 2
unfolding reading
k_too_high = refl

pub k_too_low : rule_line (line_v (50 ∷ 44 ∷ 48 ∷ [])) ≡ refused 2
unfolding reading
k_too_low = refl

-- `V,1,5` and `V,3,5`
pub rule_1_with_k : rule_line (line_v (49 ∷ 44 ∷ 53 ∷ [])) ≡ refused 1
unfolding reading
rule_1_with_k = refl

pub rule_3_with_k : rule_line (line_v (51 ∷ 44 ∷ 53 ∷ [])) ≡ refused 2
unfolding reading
rule_3_with_k = refl

-- ---- timed jobs

-- `W` and `W,`
pub timed_alone : timed_line (87 ∷ 10 ∷ []) ≡ values [] []
unfolding reading timed_line
timed_alone = refl

pub timed_with_comma : timed_line (87 ∷ 44 ∷ 10 ∷ []) ≡ refused 1
unfolding reading timed_line
timed_with_comma = refl

-- all that a closed N or T line computes with
reading_pins : Unit {0}
unfolding line fields field digits_after is_digit node_line node_within sink_line sink_within sink_ordered pin_within has
reading_pins = tt

-- the bytes of `N,0,0,1` and these, with LF
abbrev line_n : List ℕ → List ℕ
line_n bs = 78 ∷ 44 ∷ 48 ∷ 44 ∷ 48 ∷ 44 ∷ 49 ∷ (bs ++ (10 ∷ []))

-- without a fourth number, and with `,7`: only in a timed job a node has one, and there it must
pub delay_none : node_line false 2 0 (line_n []) ≡ values (0 ∷ 0 ∷ 1 ∷ []) []
unfolding reading_pins
delay_none = refl

pub delay_untimed : node_line false 2 0 (line_n (44 ∷ 55 ∷ [])) ≡ refused 1
unfolding reading_pins
delay_untimed = refl

pub delay_missing : node_line true 2 0 (line_n []) ≡ refused 1
unfolding reading_pins
delay_missing = refl

-- `,1000` and `,1001`
pub delay_last : node_line true 2 0 (line_n (44 ∷ 49 ∷ 48 ∷ 48 ∷ 48 ∷ [])) ≡ values (0 ∷ 0 ∷ 1 ∷ 1000 ∷ []) []
unfolding reading_pins
delay_last = refl

pub delay_too_high : node_line true 2 0 (line_n (44 ∷ 49 ∷ 48 ∷ 48 ∷ 49 ∷ [])) ≡ refused 2
unfolding reading_pins
delay_too_high = refl

-- the bytes of `T,0,1` and these, with LF; net 0 has the source 0 and no sink yet
abbrev line_t : List ℕ → List ℕ
line_t bs = 84 ∷ 44 ∷ 48 ∷ 44 ∷ 49 ∷ (bs ++ (10 ∷ []))

-- without a third number, and with `,3`
pub criticality_untimed : sink_line false 2 1 0 (0 ∷ []) 0 (line_t (44 ∷ 51 ∷ [])) ≡ refused 1
unfolding reading_pins
criticality_untimed = refl

pub criticality_missing : sink_line true 2 1 0 (0 ∷ []) 0 (line_t []) ≡ refused 1
unfolding reading_pins
criticality_missing = refl

-- `,9` and `,10`
pub criticality_last : sink_line true 2 1 0 (0 ∷ []) 0 (line_t (44 ∷ 57 ∷ [])) ≡ values (0 ∷ 1 ∷ 9 ∷ []) []
unfolding reading_pins
criticality_last = refl

pub criticality_too_high : sink_line true 2 1 0 (0 ∷ []) 0 (line_t (44 ∷ 49 ∷ 48 ∷ [])) ≡ refused 2
unfolding reading_pins
criticality_too_high = refl

-- all that a closed text computes with
reading_head : Unit {0}
unfolding reading head_part head_line head_within terms_part tuning_part rule_part timed_part timed_line begins
reading_head = tt

reading_text : Unit {0}
unfolding reading_head reading_pins read_text node_lines edge_lines edge_line edge_within edge_ordered rises source_line sinks_now source_due sink_due complete net_end next_source next_sink net_line net_lines first_places up_to total job_read
reading_text = tt

-- `F,2,1,1,` with a limit of two digits, then these bytes
abbrev text_of : ℕ → ℕ → List ℕ → List ℕ
text_of tens ones bs = 70 ∷ 44 ∷ 50 ∷ 44 ∷ 49 ∷ 44 ∷ 49 ∷ 44 ∷ tens ∷ ones ∷ 10 ∷ bs

-- `W` before `V,2`, and twice: each is refused at the second of the two
pub timed_before_rule : read_text (text_of 52 48 (87 ∷ 10 ∷ line_v (50 ∷ []))) ≡ stopped 1 3
unfolding reading_text
timed_before_rule = refl

pub timed_twice : read_text (text_of 52 48 (87 ∷ 10 ∷ 87 ∷ 10 ∷ [])) ≡ stopped 1 3
unfolding reading_text
timed_twice = refl

-- `W`; `N,0,0,1,7` and `N,1,1,1,1000`; `E,0,1`; `S,0,0` and `T,0,1,9`
abbrev timed_lines : List ℕ
timed_lines =
    87 ∷ 10
    ∷ 78 ∷ 44 ∷ 48 ∷ 44 ∷ 48 ∷ 44 ∷ 49 ∷ 44 ∷ 55 ∷ 10
    ∷ 78 ∷ 44 ∷ 49 ∷ 44 ∷ 49 ∷ 44 ∷ 49 ∷ 44 ∷ 49 ∷ 48 ∷ 48 ∷ 48 ∷ 10
    ∷ 69 ∷ 44 ∷ 48 ∷ 44 ∷ 49 ∷ 10
    ∷ 83 ∷ 44 ∷ 48 ∷ 44 ∷ 48 ∷ 10
    ∷ 84 ∷ 44 ∷ 48 ∷ 44 ∷ 49 ∷ 44 ∷ 57 ∷ 10
    ∷ []

abbrev timed_terms : ℕ → Terms
timed_terms limit = record { limit = limit; tuning = plain; rule = 1; until = 1; timed = true }

-- tables 1 to 7, 9 and 10, with the limit 40
pub timed_text :
    read_text (text_of 52 48 timed_lines)
    ≡ part
    (job_of (0 ∷ 1 ∷ []) (1 ∷ 1 ∷ []) (0 ∷ 1 ∷ 1 ∷ []) (1 ∷ []) (0 ∷ []) (0 ∷ 1 ∷ []) (1 ∷ []) (7 ∷ 1000 ∷ []) (9 ∷ []) (timed_terms 40))
    8 []
unfolding reading_text
timed_text = refl

-- all that its reply computes with
replying : Unit {0}
unfolding reading_text read_reply stored_reply short_table short_untimed short_times lowest_short exceeds job_numbers tables_with written_over
replying = tt

-- the same text with the limit 41 is turned away by 15, once every table is long enough
abbrev lent : List ℕ → List ℕ → Tables
lent delays criticalities =
    tables_of (0 ∷ 0 ∷ []) (0 ∷ 0 ∷ []) (0 ∷ 0 ∷ 0 ∷ []) (0 ∷ []) (0 ∷ []) (0 ∷ 0 ∷ []) (0 ∷ []) delays criticalities

pub timed_exceeds : read_reply (text_of 52 49 timed_lines) (lent (0 ∷ 0 ∷ []) (0 ∷ [])) ≡ not_read (15 ∷ 2 ∷ 41 ∷ []) (lent (0 ∷ 0 ∷ []) (0 ∷ []))
unfolding replying
timed_exceeds = refl

pub timed_short : read_reply (text_of 52 49 timed_lines) (lent (0 ∷ []) []) ≡ not_read (4 ∷ 9 ∷ []) (lent (0 ∷ []) [])
unfolding replying
timed_short = refl

pub timed_short-last : read_reply (text_of 52 49 timed_lines) (lent (0 ∷ 0 ∷ []) []) ≡ not_read (4 ∷ 10 ∷ []) (lent (0 ∷ 0 ∷ []) [])
unfolding replying
timed_short-last = refl

-- without `W`, delays and criticality it is read, whatever is lent for tables 9 and 10
abbrev untimed_lines : List ℕ
untimed_lines =
    78 ∷ 44 ∷ 48 ∷ 44 ∷ 48 ∷ 44 ∷ 49 ∷ 10
    ∷ 78 ∷ 44 ∷ 49 ∷ 44 ∷ 49 ∷ 44 ∷ 49 ∷ 10
    ∷ 69 ∷ 44 ∷ 48 ∷ 44 ∷ 49 ∷ 10
    ∷ 83 ∷ 44 ∷ 48 ∷ 44 ∷ 48 ∷ 10
    ∷ 84 ∷ 44 ∷ 48 ∷ 44 ∷ 49 ∷ 10
    ∷ []

pub untimed_text :
    read_reply (text_of 52 49 untimed_lines) (lent (5 ∷ []) [])
    ≡ record {
      refusal = [];
      numbers = 2 ∷ 1 ∷ 1 ∷ 1 ∷ 41 ∷ 50 ∷ 3 ∷ 2 ∷ 1 ∷ 1 ∷ 1 ∷ 0 ∷ [];
      tables = tables_of (0 ∷ 1 ∷ []) (1 ∷ 1 ∷ []) (0 ∷ 1 ∷ 1 ∷ []) (1 ∷ []) (0 ∷ []) (0 ∷ 1 ∷ []) (1 ∷ []) (5 ∷ []) [];
    }
unfolding replying
untimed_text = refl
