-- A text that is stopped at a line is refused by 1, 2 or 3.
-- Assumes nothing.
use mathlib.Core.Bool.{Bool, true, false}
use mathlib.Core.List.{List, [], ◌∷◌}
use mathlib.Core.Path.{◌≡◌, sym, ◌∙◌, ap, subst}
use Prim.Native.Nat.{ℕ, zero, suc, ◌+◌, ◌-◌, ◌≤◌}
use native.Mathlib.Omega.{arith}
use lib.Dec.{eqb}
use lib.ListN.{length, get_or}
use Rattle.price.specs.Test.{choose, both}
use Rattle.job.specs.Job.{Job, plain_terms}
use Rattle.job.specs.Tables.{source_kind, sink_kind}
use Rattle.job.specs.declared.Terms.{Terms}
use Rattle.text.specs.Lines.{letter_f, letter_p, letter_v, letter_w, letter_n, letter_e, letter_s, letter_t, begins, Fields, taken, malformed, line}
use Rattle.text.specs.JobText.{Reading, values, refused, judged, of_kind, taking, Part, part, stopped, onward, and_then, optional, last_of}
use Rattle.text.specs.JobText.{head_within, head_line, tuning_within, tuning_line, rule_fields, rule_within, rule_line, timed_line}
use Rattle.text.specs.JobText.{node_within, node_line, edge_within, edge_ordered, edge_line, pin_within, source_line, sink_within, sink_ordered, sink_line}
use Rattle.text.specs.JobText.{with_tuning, with_rule, with_times, tuning_part, rule_part, timed_part, terms_part, head_part}
use Rattle.text.specs.JobText.{NodeLists, node_lists, with_node, node_lines, EdgeLists, edge_lists, edge_lines}
use Rattle.text.specs.JobText.{NetLists, net_lists, with_source, with_sink, sinks_now, source_due, sink_due, next_source, next_sink, net_line}
use Rattle.text.specs.JobText.{complete, net_end, net_lines, read_text}
use Rattle.std.specs.Prelude.{Result, Err}
use Rattle.text.specs.Steps.{row}
use Rattle.text.specs.ReadSteps.{job_at}
use Rattle.text.specs.declared.JobCounts.{JobCounts}
use Rattle.text.specs.declared.place.LineRefusal.{LineRefusal}

-- rows 1 to 3, those of a line
abbrev pub LineRow : ℕ → Type 0
LineRow k = (1 ≤ k) × (k ≤ 3)

-- a line that is refused, and a part of the text that is stopped, are so by one of these rows
abbrev Row : {A : Type 0} → Reading A → Type 0
Row (values given rest) = Unit {0}
Row (refused k) = LineRow k

abbrev StoppedRow : {A : Type 0} → Part A → Type 0
StoppedRow (part lists at rest) = Unit {0}
StoppedRow (stopped k at) = LineRow k

row_1 : LineRow 1
row_1 = (omega arith, omega arith)

row_2 : LineRow 2
row_2 = (omega arith, omega arith)

row_3 : LineRow 3
row_3 = (omega arith, omega arith)

-- ---- a line

chosen : {A : Type 0} (t : Bool) (r s : Reading A) → Row r → Row s → Row (choose t r s)
chosen true r s p q = p
chosen false r s p q = q

judged-row : (within ordered : List ℕ → Bool) (f : Fields) → Row (judged within ordered f)
judged-row within ordered malformed = row_1
judged-row within ordered (taken vs rest) =
    chosen (within vs) (choose (ordered vs) (values vs rest) (refused 3)) (refused 2)
    (chosen (ordered vs) (values vs rest) (refused 3) tt row_3)
    row_2

kind_row : (test : ℕ → Bool) (kinds : List ℕ) (r : Reading (List ℕ)) → Row r → Row (of_kind test kinds r)
kind_row test kinds (values vs rest) p =
    chosen (test (get_or kinds (get_or vs 1 0) 0)) (values vs rest) (refused 3) tt row_3
kind_row test kinds (refused k) p = p

taking-row : {A B : Type 0} (f : A → B) (r : Reading A) → Row r → Row (taking f r)
taking-row f (values given rest) p = tt
taking-row f (refused k) p = p

source_row : (kinds : List ℕ) (n nets : ℕ) (l : NetLists) (bs : List ℕ) → Row (next_source kinds n nets l bs)
unfolding next_source source_line
source_row kinds n nets l bs =
    let i = length l.sources in
    kind_row source_kind kinds (source_line n nets i bs) (judged-row (pin_within n nets) (λ vs. eqb (get_or vs 0 0) i) (line letter_s 2 bs))

sink-row : (timed : Bool) (kinds : List ℕ) (n nets : ℕ) (l : NetLists) (bs : List ℕ) → Row (next_sink timed kinds n nets l bs)
unfolding next_sink sink_line
sink-row timed kinds n nets l bs =
    let i = length l.sources - 1 in
    let pins = last_of l.sources ∷ sinks_now l in
    let count = length l.sinks in
    kind_row sink_kind kinds (sink_line timed n nets i pins count bs)
    (judged-row (sink_within n nets) (sink_ordered i pins count) (line letter_t (choose timed 3 2) bs))

net-row : (timed : Bool) (kinds : List ℕ) (n nets : ℕ) (l : NetLists) (bs : List ℕ) → Row (net_line timed kinds n nets l bs)
unfolding net_line
net-row timed kinds n nets l [] = row_1
net-row timed kinds n nets l (b ∷ bs) =
    chosen (both (eqb b letter_s) (source_due nets l)) _ _
    (taking-row (with_source l) (next_source kinds n nets l (b ∷ bs)) (source_row kinds n nets l (b ∷ bs)))
    (chosen (both (eqb b letter_t) (sink_due l)) _ _
    (taking-row (with_sink l) (next_sink timed kinds n nets l (b ∷ bs)) (sink-row timed kinds n nets l (b ∷ bs)))
    row_1)

-- ---- lines one after the other

onward-row : {A B : Type 0} (r : Reading A) (at : ℕ) (next : A → List ℕ → Part B) → Row r → ((x : A) (rest : List ℕ) → StoppedRow (next x rest)) → StoppedRow (onward r at next)
onward-row (values given rest) at next p q = q given rest
onward-row (refused k) at next p q = p

then_row : {A B : Type 0} (r : Part A) (next : A → ℕ → List ℕ → Part B) → StoppedRow r → ((x : A) (at : ℕ) (rest : List ℕ) → StoppedRow (next x at rest)) → StoppedRow (and_then r next)
then_row (part lists at rest) next p q = q lists at rest
then_row (stopped k at) next p q = p

chosen_part : {A : Type 0} (t : Bool) (r s : Part A) → StoppedRow r → StoppedRow s → StoppedRow (choose t r s)
chosen_part true r s p q = p
chosen_part false r s p q = q

optional-row : (letter : ℕ) (r : Reading (List ℕ)) (change : List ℕ → Terms) (t : Terms) (at : ℕ) (bs : List ℕ) → Row r → StoppedRow (optional letter r change t at bs)
optional-row letter r change t at bs p =
    chosen_part (begins letter bs) (onward r at (λ vs rest. part (change vs) (at + 1) rest)) (part t at bs)
    (onward-row r at (λ vs rest. part (change vs) (at + 1) rest) p (λ vs rest. tt)) tt

terms-row : (limit at : ℕ) (bs : List ℕ) → StoppedRow (terms_part limit at bs)
unfolding terms_part tuning_part rule_part timed_part tuning_line rule_line timed_line
terms-row limit at bs =
    then_row (tuning_part (plain_terms limit) at bs) _
    (optional-row letter_p (tuning_line bs) (with_tuning (plain_terms limit)) (plain_terms limit) at bs (judged-row tuning_within (λ vs. true) (line letter_p 4 bs)))
    (λ t l rest.
    then_row (rule_part t l rest) timed_part
    (optional-row letter_v (rule_line rest) (with_rule t) t l rest (judged-row rule_within (λ vs. true) (rule_fields rest)))
    (λ t l rest. optional-row letter_w (timed_line rest) (with_times t) t l rest (judged-row (λ vs. true) (λ vs. true) (line letter_w 0 rest))))

head_row : (bs : List ℕ) → StoppedRow (head_part bs)
unfolding head_part head_line
head_row bs =
    onward-row (head_line bs) 1 _ (judged-row head_within (λ vs. true) (line letter_f 4 bs))
    (λ vs rest. then_row (terms_part (get_or vs 3 0) 2 rest) _ (terms-row (get_or vs 3 0) 2 rest) (λ t at more. tt))

nodes-row : (timed : Bool) (n k : ℕ) (l : NodeLists) (at : ℕ) (bs : List ℕ) → StoppedRow (node_lines timed n k l at bs)
unfolding node_lines node_line
nodes-row timed n zero l at bs = tt
nodes-row timed n (suc k) l at bs =
    onward-row (node_line timed n (length l.kinds) bs) at (λ vs rest. node_lines timed n k (with_node l vs) (at + 1) rest)
    (judged-row (node_within n) (λ vs. eqb (get_or vs 0 0) (length l.kinds)) (line letter_n (choose timed 4 3) bs))
    (λ vs rest. nodes-row timed n k (with_node l vs) (at + 1) rest)

edges-row : (n k : ℕ) (l : EdgeLists) (at : ℕ) (bs : List ℕ) → StoppedRow (edge_lines n k l at bs)
unfolding edge_lines edge_line
edges-row n zero l at bs = tt
edges-row n (suc k) l at bs =
    onward-row (edge_line n (length l.targets) (last_of l.froms) (last_of l.targets) bs) at _
    (judged-row (edge_within n) (edge_ordered (length l.targets) (last_of l.froms) (last_of l.targets)) (line letter_e 2 bs))
    (λ vs rest. edges-row n k _ (at + 1) rest)

end_row : (nets : ℕ) (l : NetLists) (at : ℕ) → StoppedRow (net_end nets l at)
unfolding net_end
end_row nets l at = chosen_part (complete nets l) (part l at []) (stopped 1 at) tt row_1

nets-row : (k : ℕ) (timed : Bool) (kinds : List ℕ) (n nets : ℕ) (l : NetLists) (at : ℕ) (bs : List ℕ) → StoppedRow (net_lines k timed kinds n nets l at bs)
unfolding net_lines
nets-row zero timed kinds n nets l at [] = end_row nets l at
nets-row zero timed kinds n nets l at (b ∷ bs) = row_1
nets-row (suc k) timed kinds n nets l at [] = end_row nets l at
nets-row (suc k) timed kinds n nets l at (b ∷ bs) =
    onward-row (net_line timed kinds n nets l (b ∷ bs)) at (λ next rest. net_lines k timed kinds n nets next (at + 1) rest)
    (net-row timed kinds n nets l (b ∷ bs))
    (λ next rest. nets-row k timed kinds n nets next (at + 1) rest)

-- ---- the whole text

text_row : (bs : List ℕ) → StoppedRow (read_text bs)
unfolding read_text
text_row bs =
    then_row (head_part bs) _ (head_row bs) (λ c at rest.
    then_row (node_lines c.terms.timed c.nodes c.nodes (node_lists [] [] []) at rest) _ (nodes-row c.terms.timed c.nodes c.nodes (node_lists [] [] []) at rest) (λ ns at2 rest2.
    then_row (edge_lines c.nodes c.edges (edge_lists [] []) at2 rest2) _ (edges-row c.nodes c.edges (edge_lists [] []) at2 rest2) (λ es at3 rest3.
    then_row (net_lines (length rest3) c.terms.timed ns.kinds c.nodes c.nets (net_lists [] [] [] []) at3 rest3) _
    (nets-row (length rest3) c.terms.timed ns.kinds c.nodes c.nets (net_lists [] [] [] []) at3 rest3)
    (λ ts at4 rest4. tt))))

-- the same of the answer that stands for the text
pub job-row :
    (text : List ℕ) (end : ℕ) (x : Result JobCounts LineRefusal) {e : LineRefusal} (kinds capacities first_edges edge_targets sources first_sinks sinks delays criticalities : List ℕ)
    → x ≡ Err e → job_at end x kinds capacities first_edges edge_targets sources first_sinks sinks delays criticalities ≡ read_text text
    → LineRow (row e.fault)
job-row text end x kinds capacities first_edges edge_targets sources first_sinks sinks delays criticalities is read =
    subst (λ (p : Part Job). StoppedRow p)
    (sym read ∙ ap (λ (y : Result JobCounts LineRefusal). job_at end y kinds capacities first_edges edge_targets sources first_sinks sinks delays criticalities) is)
    (text_row text)
