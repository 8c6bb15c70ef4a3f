-- Job B's block with two logs, computed: what adding them leaves and answers, the refusals before and after a log's test, and the text.
-- Assumes nothing.
use mathlib.Core.List.{List, [], ◌∷◌}
use mathlib.Core.Path.{◌≡◌, refl}
use Prim.Native.Nat.{ℕ}
use lib.ListN.{replicate}
use Rattle.search.specs.Block.{Block}
use Rattle.negotiation.specs.Records.{decode_up_to, decode}
use Rattle.negotiation.specs.Demand.{nodes_in, latest, tree_read}
use Rattle.negotiation.specs.Samples.{job_b}
use Rattle.negotiation.proofs.SamplesHold as n-hold
use Rattle.text.specs.Decimal.{digits, decimal}
use Rattle.text.specs.Lines.{print_fields, print_line}
use Rattle.text.specs.Printed.{concat_from}
use Rattle.text.specs.Routes.{path_sound, record_sound, sound_up_to, sound_words, log_sound, not_written, text_reply}
use Rattle.text.specs.Users.{nets_with}
use Rattle.uses.specs.Uses.{sum_below, over_kind, uses_in, capacity_of, nodes_of, UseCounts, use_counts_of, too_many, counts_refusal, with_log, add_reply_with, tested_reply, add_reply, use_line, uses_text, print_reply}
use Rattle.uses.specs.Runs.{no_counts}

-- all that closed counts and a closed log compute with
computing : Unit {0}
unfolding print_reply uses_text use_line add_reply tested_reply with_log counts_refusal too_many nodes_of capacity_of uses_in nets_with over_kind sum_below
    text_reply log_sound sound_words sound_up_to record_sound path_sound tree_read latest nodes_in decode decode_up_to concat_from print_line print_fields decimal digits
    n-hold.computing
computing = tt

abbrev block : Block
block = (job_b 2).block

-- kinds 0, 1, 4 and 5 have nodes
abbrev used : ℕ → ℕ → ℕ → ℕ → List ℕ
used a b c d = a ∷ b ∷ 0 ∷ 0 ∷ c ∷ d ∷ replicate 48 0

-- job B's log: net 0's final tree is 0, 3, 4, net 1's 1, 2, 5
abbrev log : List ℕ
log =
    1 ∷ 0 ∷ 4 ∷ 4000 ∷ 0 ∷ 3 ∷ 0 ∷ 2 ∷ 4
    ∷ 1 ∷ 1 ∷ 5 ∷ 4000 ∷ 0 ∷ 3 ∷ 1 ∷ 2 ∷ 5
    ∷ 2 ∷ 0 ∷ 4 ∷ 6000 ∷ 0 ∷ 3 ∷ 0 ∷ 3 ∷ 4
    ∷ 2 ∷ 1 ∷ 5 ∷ 6000 ∷ 0 ∷ 3 ∷ 1 ∷ 2 ∷ 5
    ∷ []

-- two nets, of which net 0 passes 0 and 3 twice in iteration 2, and net 1 has no record after iteration 1
abbrev twice : List ℕ
twice =
    1 ∷ 1 ∷ 5 ∷ 0 ∷ 0 ∷ 3 ∷ 1 ∷ 2 ∷ 5
    ∷ 1 ∷ 0 ∷ 4 ∷ 0 ∷ 0 ∷ 3 ∷ 0 ∷ 2 ∷ 4
    ∷ 2 ∷ 0 ∷ 4 ∷ 0 ∷ 0 ∷ 3 ∷ 0 ∷ 3 ∷ 4
    ∷ 2 ∷ 0 ∷ 5 ∷ 0 ∷ 0 ∷ 4 ∷ 0 ∷ 3 ∷ 0 ∷ 5
    ∷ []

-- its second record has node 6, which the block lacks
abbrev beyond : List ℕ
beyond =
    1 ∷ 0 ∷ 4 ∷ 0 ∷ 0 ∷ 3 ∷ 0 ∷ 3 ∷ 4
    ∷ 1 ∷ 1 ∷ 5 ∷ 0 ∷ 0 ∷ 3 ∷ 1 ∷ 6 ∷ 5
    ∷ []

abbrev full : UseCounts
full = use_counts_of (used 0 0 0 0) 65535

pub first_added : add_reply block no_counts log ≡ add_reply_with [] (use_counts_of (used 2 2 1 1) 1)
unfolding computing
first_added = refl

pub second_added : add_reply block (use_counts_of (used 2 2 1 1) 1) twice ≡ add_reply_with [] (use_counts_of (used 4 5 2 2) 2)
unfolding computing
second_added = refl

-- 512 uses of the one node of kind 4 in one log may be, 513 may not
pub kind_within : add_reply block (use_counts_of (used 0 0 512 0) 1) log ≡ add_reply_with [] (use_counts_of (used 2 2 513 1) 2)
unfolding computing
kind_within = refl

pub kind_over : add_reply block (use_counts_of (used 0 0 513 513) 1) log ≡ add_reply_with (13 ∷ 4 ∷ []) (use_counts_of (used 0 0 513 513) 1)
unfolding computing
kind_over = refl

pub logs-over : add_reply block (use_counts_of (used 0 0 0 0) 65536) log ≡ add_reply_with (13 ∷ 54 ∷ []) (use_counts_of (used 0 0 0 0) 65536)
unfolding computing
logs-over = refl

pub node-beyond : add_reply block full beyond ≡ add_reply_with (10 ∷ 9 ∷ []) full
unfolding computing
node-beyond = refl

pub logs_full : add_reply block full log ≡ add_reply_with (16 ∷ 65535 ∷ []) full
unfolding computing
logs_full = refl

-- "U,1,5,4": two nodes of kind 1 and capacity 1 each, in two logs
pub line-printed : use_line block (use_counts_of (used 4 5 2 2) 2) 1 ≡ 85 ∷ 44 ∷ 49 ∷ 44 ∷ 53 ∷ 44 ∷ 52 ∷ 10 ∷ []
unfolding computing
line-printed = refl

pub short-buffer : print_reply block (use_counts_of (used 4 5 2 2) 2) (7 ∷ []) ≡ not_written (11 ∷ 476 ∷ []) (7 ∷ [])
unfolding computing
short-buffer = refl
