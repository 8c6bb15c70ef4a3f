-- Document 01, "Job text" and rows 1 to 3 of "Numbers for a stopped call", with the P line of request 2.1, the pins' kinds of 2.5, the V
-- line of 2.7 and 2.8 and the timed jobs of 2.9: what a text gives, line by line, or the first faulty line.
-- Assumes nothing.
use Rattle.std.specs.Prelude.{Bool, true, not, List, [], ◌∷◌, ◌++◌, ℕ, zero, suc, ◌+◌, ◌-◌, leb, ltb, eqb, length, get_or, drop}
use Rattle.price.specs.Test.{choose, both, either}
use Rattle.price.specs.Bounds.{nodes_most, kind_most, capacity_most, limit_most, delay_most, criticality_most}
use Rattle.price.specs.Lists.{has, up_to, total}
use Rattle.price.specs.Tuning.{tuning_sound}
use Rattle.price.specs.declared.Tuning.{Tuning}
use Rattle.search.specs.Tables.{edges_most}
use Rattle.search.specs.Replies.{sinks_most}
use Rattle.job.specs.Tables.{nets_most, rule_sound, source_kind, sink_kind}
use Rattle.job.specs.Job.{Job, job_of, plain_terms}
use Rattle.job.specs.declared.Terms.{Terms}
use Rattle.text.specs.Lines.{letter_f, letter_p, letter_v, letter_w, letter_n, letter_e, letter_s, letter_t}
use Rattle.text.specs.Lines.{begins, Fields, taken, malformed, line}

-- ---- a line

-- what a line gives with the bytes that follow it, or the number of its refusal
pub data Reading (A : Type 0) : Type 0 where
  values : (given : A) (rest : List ℕ) → Reading A
  refused : (number : ℕ) → Reading A

-- "in it 1 before 2 before 3": 1 for the shape, 2 for a value beyond its bounds, 3 for wrong order or number
abbrev pub judged : (List ℕ → Bool) → (List ℕ → Bool) → Fields → Reading (List ℕ)
judged within ordered malformed = refused 1
judged within ordered (taken vs rest) = choose (within vs) (choose (ordered vs) (values vs rest) (refused 3)) (refused 2)

abbrev pub between : ℕ → ℕ → ℕ → Bool
between low high x = both (leb low x) (leb x high)

abbrev pub last_of : List ℕ → ℕ
last_of xs = get_or xs (length xs - 1) 0

-- "`F,nodes,edges,nets,limit`"
unfoldable pub head_within : List ℕ → Bool
head_within vs =
    both (between 1 nodes_most (get_or vs 0 0))
    (both (leb (get_or vs 1 0) edges_most) (both (between 1 nets_most (get_or vs 2 0)) (between 1 limit_most (get_or vs 3 0))))

unfoldable pub head_line : List ℕ → Reading (List ℕ)
head_line bs = judged head_within (λ vs. true) (line letter_f 4 bs)

-- "`P,first,up,down,step`"
abbrev pub tuning_of : List ℕ → Tuning
tuning_of vs = record { first = get_or vs 0 0; up = get_or vs 1 0; down = get_or vs 2 0; step = get_or vs 3 0 }

unfoldable pub tuning_within : List ℕ → Bool
tuning_within vs = tuning_sound (tuning_of vs)

unfoldable pub tuning_line : List ℕ → Reading (List ℕ)
tuning_line bs = judged tuning_within (λ vs. true) (line letter_p 4 bs)

-- "A line `V,1` or `V,2`", which "may have a second number, `V,2,k`": what it gives as a line of one field and as one of two, as rule and
-- k. "`V,2` alone means k = 1, `V,1` takes none, else 1": after rule 1 a second field is out of place
abbrev pub one_or_two : Fields → Fields → Fields
one_or_two (taken vs rest) two = taken (get_or vs 0 0 ∷ 1 ∷ []) rest
one_or_two malformed (taken vs rest) = choose (eqb (get_or vs 0 0) 1) malformed (taken vs rest)
one_or_two malformed malformed = malformed

unfoldable pub rule_fields : List ℕ → Fields
rule_fields bs = one_or_two (line letter_v 1 bs) (line letter_v 2 bs)

-- "k from 1 to 99", and of the rule "Other values are 2"
unfoldable pub rule_within : List ℕ → Bool
rule_within vs = rule_sound (get_or vs 0 0) (get_or vs 1 0)

unfoldable pub rule_line : List ℕ → Reading (List ℕ)
rule_line bs = judged rule_within (λ vs. true) (rule_fields bs)

-- request 2.9: "A line `W` after F and any P and V makes a job timed."
unfoldable pub timed_line : List ℕ → Reading (List ℕ)
timed_line bs = judged (λ vs. true) (λ vs. true) (line letter_w 0 bs)

-- "`N,node,kind,capacity` in order": of n nodes, node v is due. In a timed job "N lines then have a fourth number, delay 0 to 1,000"; in
-- any other it counts as 0
unfoldable pub node_within : ℕ → List ℕ → Bool
node_within n vs =
    both (ltb (get_or vs 0 0) n)
    (both (leb (get_or vs 1 0) kind_most) (both (between 1 capacity_most (get_or vs 2 0)) (leb (get_or vs 3 0) delay_most)))

unfoldable pub node_line : Bool → ℕ → ℕ → List ℕ → Reading (List ℕ)
node_line timed n v bs = judged (node_within n) (λ vs. eqb (get_or vs 0 0) v) (line letter_n (choose timed 4 3) bs)

-- "`E,from,to` rising by from, then to": after this many edges, the last of which is from `last_from` to `last_to`
unfoldable pub rises : ℕ → ℕ → ℕ → ℕ → ℕ → Bool
rises count last_from last_to from to =
    either (eqb count 0) (either (ltb last_from from) (both (eqb last_from from) (ltb last_to to)))

unfoldable pub edge_within : ℕ → List ℕ → Bool
edge_within n vs = both (ltb (get_or vs 0 0) n) (ltb (get_or vs 1 0) n)

unfoldable pub edge_ordered : ℕ → ℕ → ℕ → List ℕ → Bool
edge_ordered count last_from last_to vs =
    both (not (eqb (get_or vs 0 0) (get_or vs 1 0))) (rises count last_from last_to (get_or vs 0 0) (get_or vs 1 0))

unfoldable pub edge_line : ℕ → ℕ → ℕ → ℕ → List ℕ → Reading (List ℕ)
edge_line n count last_from last_to bs = judged (edge_within n) (edge_ordered count last_from last_to) (line letter_e 2 bs)

-- "`S,net,node`" and "`T,net,node`": "node and net numbers not below their count are 2"
unfoldable pub pin_within : ℕ → ℕ → List ℕ → Bool
pin_within n nets vs = both (ltb (get_or vs 0 0) nets) (ltb (get_or vs 1 0) n)

-- the source of net i
unfoldable pub source_line : ℕ → ℕ → ℕ → List ℕ → Reading (List ℕ)
source_line n nets i bs = judged (pin_within n nets) (λ vs. eqb (get_or vs 0 0) i) (line letter_s 2 bs)

-- a sink of net i, whose source and sinks so far are `pins`, after this many sinks of all nets:
-- "repeated sink, sink = source; a 4,097th sink"
unfoldable pub sink_ordered : ℕ → List ℕ → ℕ → List ℕ → Bool
sink_ordered i pins count vs = both (eqb (get_or vs 0 0) i) (both (not (has (get_or vs 1 0) pins)) (ltb count sinks_most))

-- "and T lines a third, criticality 0 to 9 in tenths"
unfoldable pub sink_within : ℕ → ℕ → List ℕ → Bool
sink_within n nets vs = both (pin_within n nets vs) (leb (get_or vs 2 0) criticality_most)

unfoldable pub sink_line : Bool → ℕ → ℕ → ℕ → List ℕ → ℕ → List ℕ → Reading (List ℕ)
sink_line timed n nets i pins count bs =
    judged (sink_within n nets) (sink_ordered i pins count) (line letter_t (choose timed 3 2) bs)

-- ---- lines one after the other

-- what a part of the text gives, with the number of the next line and the bytes that follow; or the refusal's number and its line
pub data Part (A : Type 0) : Type 0 where
  part : (lists : A) (line : ℕ) (rest : List ℕ) → Part A
  stopped : (number line : ℕ) → Part A

-- "The first faulty line wins": continue after a line, or stop at it
abbrev pub onward : {A B : Type 0} → Reading A → ℕ → (A → List ℕ → Part B) → Part B
onward (values given rest) l next = next given rest
onward (refused k) l next = stopped k l

-- continue after a part
abbrev pub and_then : {A B : Type 0} → Part A → (A → ℕ → List ℕ → Part B) → Part B
and_then (part lists l rest) next = next lists l rest
and_then (stopped k l) next = stopped k l

pub record Counts : Type 0 where
  pub nodes : ℕ
  pub edges : ℕ
  pub nets : ℕ
  pub terms : Terms

-- a line that may be left out: where its letter stands, it changes the terms so far; without it they stay
abbrev pub optional : ℕ → Reading (List ℕ) → (List ℕ → Terms) → Terms → ℕ → List ℕ → Part Terms
optional letter read change t at bs =
    choose (begins letter bs) (onward read at (λ vs rest. part (change vs) (at + 1) rest)) (part t at bs)

-- "A line `P,first,up,down,step` may follow F"
abbrev pub with_tuning : Terms → List ℕ → Terms
with_tuning t vs = record { limit = t.limit; tuning = tuning_of vs; rule = t.rule; until = t.until; timed = t.timed }

unfoldable pub tuning_part : Terms → ℕ → List ℕ → Part Terms
tuning_part t at bs = optional letter_p (tuning_line bs) (with_tuning t) t at bs

-- "A line `V,1` or `V,2` may follow F and any P."
abbrev pub with_rule : Terms → List ℕ → Terms
with_rule t vs = record { limit = t.limit; tuning = t.tuning; rule = get_or vs 0 0; until = get_or vs 1 0; timed = t.timed }

unfoldable pub rule_part : Terms → ℕ → List ℕ → Part Terms
rule_part t at bs = optional letter_v (rule_line bs) (with_rule t) t at bs

-- "A line `W` after F and any P and V makes a job timed."
abbrev pub with_times : Terms → List ℕ → Terms
with_times t vs = record { limit = t.limit; tuning = t.tuning; rule = t.rule; until = t.until; timed = true }

unfoldable pub timed_part : Terms → ℕ → List ℕ → Part Terms
timed_part t at bs = optional letter_w (timed_line bs) (with_times t) t at bs

-- the lines that may follow F. "Without the line it is 50,3,2,1.", and "Under rule 1, or without the line"
unfoldable pub terms_part : ℕ → ℕ → List ℕ → Part Terms
terms_part limit at bs = and_then (tuning_part (plain_terms limit) at bs) (λ t l rest. and_then (rule_part t l rest) timed_part)

-- the counts of the F line, with these terms
abbrev pub counts_of : List ℕ → Terms → Counts
counts_of vs t = record { nodes = get_or vs 0 0; edges = get_or vs 1 0; nets = get_or vs 2 0; terms = t }

-- the lines before the nodes
unfoldable pub head_part : List ℕ → Part Counts
head_part bs =
    onward (head_line bs) 1
    (λ vs rest. and_then (terms_part (get_or vs 3 0) 2 rest) (λ t at more. part (counts_of vs t) at more))

-- the nodes read so far
pub record NodeLists : Type 0 where
  pub kinds : List ℕ
  pub capacities : List ℕ
  pub delays : List ℕ

abbrev pub node_lists : List ℕ → List ℕ → List ℕ → NodeLists
node_lists kinds capacities delays = record { kinds = kinds; capacities = capacities; delays = delays }

abbrev pub with_node : NodeLists → List ℕ → NodeLists
with_node l vs =
    node_lists (l.kinds ++ (get_or vs 1 0 ∷ [])) (l.capacities ++ (get_or vs 2 0 ∷ [])) (l.delays ++ (get_or vs 3 0 ∷ []))

unfoldable pub node_lines : Bool → ℕ → ℕ → NodeLists → ℕ → List ℕ → Part NodeLists
node_lines timed n zero l at bs = part l at bs
node_lines timed n (suc k) l at bs =
    onward (node_line timed n (length l.kinds) bs) at (λ vs rest. node_lines timed n k (with_node l vs) (at + 1) rest)

-- the edges read so far
pub record EdgeLists : Type 0 where
  pub froms : List ℕ
  pub targets : List ℕ

abbrev pub edge_lists : List ℕ → List ℕ → EdgeLists
edge_lists froms targets = record { froms = froms; targets = targets }

unfoldable pub edge_lines : ℕ → ℕ → EdgeLists → ℕ → List ℕ → Part EdgeLists
edge_lines n zero l at bs = part l at bs
edge_lines n (suc k) l at bs =
    onward (edge_line n (length l.targets) (last_of l.froms) (last_of l.targets) bs) at
    (λ vs rest. edge_lines n k (edge_lists (l.froms ++ (get_or vs 0 0 ∷ [])) (l.targets ++ (get_or vs 1 0 ∷ []))) (at + 1) rest)

-- the nets read so far: sources, of each net the number of sinks before its own, and all sinks with their criticalities
pub record NetLists : Type 0 where
  pub sources : List ℕ
  pub first_sinks : List ℕ
  pub sinks : List ℕ
  pub criticalities : List ℕ

abbrev pub net_lists : List ℕ → List ℕ → List ℕ → List ℕ → NetLists
net_lists sources first_sinks sinks criticalities =
    record { sources = sources; first_sinks = first_sinks; sinks = sinks; criticalities = criticalities }

-- the sinks so far of the last net
unfoldable pub sinks_now : NetLists → List ℕ
sinks_now l = drop (last_of l.first_sinks) l.sinks

-- an S line may come first, or after a net that has a sink, "an S line after the last net is 1"
unfoldable pub source_due : ℕ → NetLists → Bool
source_due nets l =
    both (ltb (length l.sources) nets) (either (eqb (length l.sources) 0) (leb 1 (length (sinks_now l))))

-- a T line may come once there is a net
unfoldable pub sink_due : NetLists → Bool
sink_due l = leb 1 (length l.sources)

-- "per net in order `S,net,node`, then one or more `T,net,node`; end of text"
unfoldable pub complete : ℕ → NetLists → Bool
complete nets l = both (eqb (length l.sources) nets) (leb 1 (length (sinks_now l)))

unfoldable pub net_end : ℕ → NetLists → ℕ → Part NetLists
net_end nets l at = choose (complete nets l) (part l at []) (stopped 1 at)

abbrev pub with_source : NetLists → List ℕ → NetLists
with_source l vs =
    net_lists (l.sources ++ (get_or vs 1 0 ∷ [])) (l.first_sinks ++ (length l.sinks ∷ [])) l.sinks l.criticalities

abbrev pub with_sink : NetLists → List ℕ → NetLists
with_sink l vs = net_lists l.sources l.first_sinks (l.sinks ++ (get_or vs 1 0 ∷ [])) (l.criticalities ++ (get_or vs 2 0 ∷ []))

-- request 2.5: a pin whose kind does not pass the test is "refusal 3 at the S or T line"
abbrev pub of_kind : (ℕ → Bool) → List ℕ → Reading (List ℕ) → Reading (List ℕ)
of_kind test kinds (values vs rest) = choose (test (get_or kinds (get_or vs 1 0) 0)) (values vs rest) (refused 3)
of_kind test kinds (refused k) = refused k

-- the S line that is due: "A source must now be of kind 0 or 2"
unfoldable pub next_source : List ℕ → ℕ → ℕ → NetLists → List ℕ → Reading (List ℕ)
next_source kinds n nets l bs = of_kind source_kind kinds (source_line n nets (length l.sources) bs)

-- a T line of the last net: "a sink of kind 1 or 3"
unfoldable pub next_sink : Bool → List ℕ → ℕ → ℕ → NetLists → List ℕ → Reading (List ℕ)
next_sink timed kinds n nets l bs =
    of_kind sink_kind kinds (sink_line timed n nets (length l.sources - 1) (last_of l.sources ∷ sinks_now l) (length l.sinks) bs)

-- the lists with what a line gives
abbrev pub taking : {A B : Type 0} → (A → B) → Reading A → Reading B
taking f (values given rest) = values (f given) rest
taking f (refused k) = refused k

-- one line of the nets: "A letter that can't come there .. is 1"
unfoldable pub net_line : Bool → List ℕ → ℕ → ℕ → NetLists → List ℕ → Reading NetLists
net_line timed kinds n nets l [] = refused 1
net_line timed kinds n nets l (b ∷ bs) =
    choose (both (eqb b letter_s) (source_due nets l)) (taking (with_source l) (next_source kinds n nets l (b ∷ bs)))
    (choose (both (eqb b letter_t) (sink_due l)) (taking (with_sink l) (next_sink timed kinds n nets l (b ∷ bs))) (refused 1))

-- the lines of the nets, at most this many: no text has more lines than bytes
unfoldable pub net_lines : ℕ → Bool → List ℕ → ℕ → ℕ → NetLists → ℕ → List ℕ → Part NetLists
net_lines zero timed kinds n nets l at [] = net_end nets l at
net_lines zero timed kinds n nets l at (b ∷ bs) = stopped 1 at
net_lines (suc k) timed kinds n nets l at [] = net_end nets l at
net_lines (suc k) timed kinds n nets l at (b ∷ bs) =
    onward (net_line timed kinds n nets l (b ∷ bs)) at (λ next rest. net_lines k timed kinds n nets next (at + 1) rest)

-- ---- the whole text

-- "first edge place": how many of the edges come before node u's row, for each u up to the node count
unfoldable pub first_places : ℕ → List ℕ → List ℕ
first_places n froms = up_to (λ u. total (λ from. choose (ltb from u) 1 0) froms) (n + 1)

-- "Tables get these lines' values"
unfoldable pub job_read : Counts → NodeLists → EdgeLists → NetLists → Job
job_read c ns es ts =
    job_of ns.kinds ns.capacities (first_places c.nodes es.froms) es.targets
    ts.sources (ts.first_sinks ++ (length ts.sinks ∷ [])) ts.sinks ns.delays ts.criticalities c.terms

-- "`F,nodes,edges,nets,limit`; `N,node,kind,capacity` in order; `E,from,to` rising by from, then to; per net in order `S,net,node`, then
-- one or more `T,net,node`; end of text.": the job of a whole text, or its first faulty line
unfoldable pub read_text : List ℕ → Part Job
read_text bs =
    and_then (head_part bs) (λ c at rest.
    and_then (node_lines c.terms.timed c.nodes c.nodes (node_lists [] [] []) at rest) (λ ns at2 rest2.
    and_then (edge_lines c.nodes c.edges (edge_lists [] []) at2 rest2) (λ es at3 rest3.
    and_then (net_lines (length rest3) c.terms.timed ns.kinds c.nodes c.nets (net_lists [] [] [] []) at3 rest3) (λ ts at4 rest4.
    part (job_read c ns es ts) at4 rest4))))
