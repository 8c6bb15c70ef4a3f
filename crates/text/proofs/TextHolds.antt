-- A text is read to a job exactly where the job is sound and the text is a printed form of it, so no two sound jobs have the same printed form. It is
-- accepted exactly where that job is within 2.9's limits too and every table is long enough for it, and the job is what is given back; else it is 4 or 15.
-- Assumes nothing.
use mathlib.Core.Bool.{Bool, true, false}
use mathlib.Core.List.{List, [], ◌∷◌, ◌++◌}
use mathlib.Core.Path.{◌≡◌, refl, sym, ◌∙◌, ap}
use Prim.Native.Nat.{ℕ, zero, suc, ◌+◌, ◌≤◌, ◌<◌}
use native.Mathlib.Omega.{arith}
use lib.Dec.{leb, eqb}
use lib.ListN.{length, get_or, replicate, length-replicate}
use borrow.Author.Tests.{le-leb, leb-true, leb-false, eqb-true, eq-eqb}
use Rattle.price.specs.Test.{choose, both}
use Rattle.price.specs.Bounds.{limit_most, delay_most, criticality_most}
use Rattle.price.specs.Lists.{every, up_to}
use Rattle.price.specs.Tuning.{tuning_sound}
use Rattle.price.proofs.TestLaws.{by_test, true≢false, both_true, both_left, both_right}
use Rattle.price.proofs.ListLaws.{every-all, every-at, length_up_to, get_or_up_to}
use Rattle.search.specs.Block.{block_of, row}
use Rattle.search.specs.Tables.{edges_most, kinds_sound, capacities_sound, delays_sound, first_edges_sound, row_sound, edge_targets_sound}
use Rattle.search.proofs.BlockLaws.{kinds_some, kinds-few}
use Rattle.search.proofs.TableLaws.{edges-all}
use Rattle.job.specs.Job.{Job, job_of, if_timed, nodes, nets, sinks_between, net_sinks, net_criticalities}
use Rattle.job.specs.declared.Terms.{Terms}
use Rattle.job.specs.Tables.{sources_sound, first_sinks_sound, sinks_sound, criticalities_sound, limit_sound, rule_sound, terms_sound, source_pins, sink_pins, exceeds, SoundJob}
use Rattle.job.proofs.JobLaws.{sources_some, sources-few, limit_least}
use Rattle.job.proofs.SinkMarkLaws.{unmarked_new}
use Rattle.negotiation.proofs.LimitLaws.{not_accepted}
use Rattle.text.specs.Lines.{letter_f, letter_n, letter_s, begins, print_line}
use Rattle.text.specs.JobText.{Part, part, stopped, and_then, Counts, head_part, NodeLists, node_lists, node_lines, EdgeLists, edge_lists, edge_lines}
use Rattle.text.specs.JobText.{NetLists, net_lists, net_lines, first_places, job_read, read_text}
use Rattle.text.specs.Printed.{concat_from, node_text, row_text, net_text, Form, terms_text, Allowed, print_job, PrintedAs}
use Rattle.text.specs.ReadReplies.{Tables, short_table, not_read, read_whole, stored_reply, reply_to, read_reply}
use Rattle.text.specs.Accepted.{SoundText, AcceptedText, AcceptsExactly}
use Rattle.text.proofs.PrintLaws.{then_part}
use Rattle.text.proofs.HeadTextLaws.{HeadBounds, HeadGiven, head_read, head_printed}
use Rattle.text.proofs.OptionalTextLaws.{lines_after}
use Rattle.text.proofs.NodeTextLaws.{node_printed, NodesGiven, nodes_read, read_kinds_sound, read_capacities_sound, read_delays_sound, nodes-printed}
use Rattle.text.proofs.EdgeRisingLaws.{row_of}
use Rattle.text.proofs.EdgeTextLaws.{edges_text, EdgesGiven, edges_read, EdgesPrinted, edges-printed}
use Rattle.text.proofs.NetTextLaws.{net_at, ends, concat-same, untimed-lines}
use Rattle.text.proofs.NetReadLaws.{TablesRead, nets_read}
use Rattle.text.proofs.NetPrintLaws.{TablesPrinted, nets-printed}

-- ---- a text that is read to a job

-- tables whose lengths the head line gives; of an untimed job the last two are not read
module _
    (n m k : ℕ) (terms : Terms) (kinds capacities first targets sources firsts sinks delays criticalities : List ℕ)
    (nodes_are : length kinds ≡ n) (edges_are : length targets ≡ m) (nets_are : length sources ≡ k) where
  abbrev made : Job
  made = job_of kinds capacities first targets sources firsts sinks delays criticalities terms

  made_text :
      (form : Form)
      → print_job form made
      ≡ print_line letter_f (n ∷ m ∷ k ∷ terms.limit ∷ [])
      ++ (terms_text form terms
      ++ (concat_from (node_printed terms.timed kinds capacities (if_timed terms delays)) 0 n
      ++ (edges_text n first targets ++ concat_from (net_at terms.timed sources firsts sinks (if_timed terms criticalities)) 0 k)))
  unfolding print_job node_text row_text row net_text net_sinks net_criticalities
  made_text form = rw (nodes_are, edges_are, nets_are)

  made-edges : m ≤ edges_most → ((u : ℕ) → u < n → row_sound n u (row_of first targets u) ≡ true) → edge_targets_sound (block_of kinds capacities first targets) ≡ true
  unfolding row
  made-edges few rows =
      edges-all (block_of kinds capacities first targets) (omega arith) (length kinds) (omega arith)
      (λ u h. rw nodes_are (rows u (omega arith)))

  made-sound :
      HeadBounds (record { nodes = n; edges = m; nets = k; terms = terms }) → kinds_sound kinds ≡ true → capacities_sound n capacities ≡ true → first_edges_sound n m first ≡ true
      → ((u : ℕ) → u < n → row_sound n u (row_of first targets u) ≡ true)
      → sources_sound n sources ≡ true → source_pins kinds sources ≡ true → first_sinks_sound k (length sinks) firsts ≡ true
      → sinks_sound n sources firsts sinks ≡ true → sink_pins kinds sinks ≡ true
      → delays_sound n delays ≡ true → criticalities_sound (length sinks) criticalities ≡ true
      → SoundJob made
  unfolding limit_sound terms_sound
  made-sound head ks cs fs rows ss sp is ts tp ds us =
      record {
        block-sound = record {
          kinds_sound_lem = ks;
          capacities_sound_lem = rw nodes_are cs;
          first_edges_sound_lem = rw (nodes_are, edges_are) fs;
          edge_targets_sound_lem = made-edges head.few-edges rows;
        };
        sources_sound_lem = rw nodes_are ss;
        source_pins_lem = sp;
        first_sinks_sound_lem = rw nets_are is;
        sinks_sound_lem = rw nodes_are ts;
        sink_pins_lem = tp;
        terms_sound_lem =
            both_true
            (both_true (le-leb 1 terms.limit head.some_turns) (le-leb terms.limit limit_most head.few-turns))
            (both_true head.tuned head.ruled);
        delays_sound_lem = λ q. rw (q, nodes_are) ds;
        criticalities_sound_lem = λ q. rw q us;
      }

-- the lines of an untimed job don't depend on its delays and criticalities
module _ (kinds capacities xs : List ℕ) where
  nodes-same : (timed : Bool) (n : ℕ) → concat_from (node_printed timed kinds capacities xs) 0 n ≡ concat_from (node_printed timed kinds capacities (choose timed xs [])) 0 n
  nodes-same true n = refl
  nodes-same false n = refl

module _ (sources firsts sinks xs : List ℕ) where
  nets-same :
      (timed : Bool) (k : ℕ)
      → concat_from (net_at timed sources firsts sinks xs) 0 k ≡ concat_from (net_at timed sources firsts sinks (choose timed xs [])) 0 k
  nets-same true k = refl
  nets-same false k =
      concat-same (net_at false sources firsts sinks xs) (net_at false sources firsts sinks []) 0 k k (omega arith)
      (λ i h.
      ap (λ (r : List ℕ). print_line letter_s (i ∷ get_or sources i 0 ∷ []) ++ r)
      (untimed-lines i (sinks_between firsts sinks i) (sinks_between firsts xs i) ∙ sym (untimed-lines i (sinks_between firsts sinks i) (sinks_between firsts [] i))))

-- what the four parts of a text tell together
parts_given :
    (c : Counts) (ns : NodeLists) (es : EdgeLists) (ts : NetLists) (bs rest1 rest2 rest3 rest4 : List ℕ)
    → HeadGiven c bs rest1
    → NodesGiven c.terms.timed c.nodes c.nodes (node_lists [] [] []) ns rest1 rest2
    → EdgesGiven c.nodes c.edges es rest2 rest3
    → TablesRead c.terms.timed ns.kinds c.nodes c.nets ts rest3 rest4
    → SoundJob (job_read c ns es ts) × PrintedAs bs (job_read c ns es ts)
unfolding job_read
parts_given c ns es ts bs rest1 rest2 rest3 rest4 answered nr er tr =
    let timed : Bool = c.terms.timed in
    let head : HeadBounds c = answered.bounds in
    let first : List ℕ = first_places c.nodes es.froms in
    let firsts : List ℕ = ends ts.first_sinks ts.sinks in (
      made-sound c.nodes c.edges c.nets c.terms ns.kinds ns.capacities first es.targets ts.sources firsts ts.sinks ns.delays ts.criticalities
          nr.kinds-long er.targets-long tr.count head
          (read_kinds_sound timed c.nodes c.nodes (node_lists [] [] []) ns rest1 rest2 nr head.some_nodes head.few-nodes)
          (read_capacities_sound timed c.nodes c.nodes (node_lists [] [] []) ns rest1 rest2 nr)
          er.firsts-sound er.rows_sound tr.sources_sound_lem tr.source_pins_lem tr.first_sinks_sound_lem tr.sinks_sound_lem tr.sink_pins_lem
          (read_delays_sound timed c.nodes c.nodes (node_lists [] [] []) ns rest1 rest2 nr) tr.criticalities_sound_lem,
      record {
        form = answered.form;
        allowed = answered.allowed;
        is =
            answered.text
            ∙ rw (nr.text, er.text_is, tr.text, nodes-same ns.kinds ns.capacities ns.delays timed c.nodes, nets-same ts.sources firsts ts.sinks ts.criticalities timed c.nets)
            (sym (made_text c.nodes c.edges c.nets c.terms ns.kinds ns.capacities first es.targets ts.sources firsts ts.sinks ns.delays ts.criticalities
            nr.kinds-long er.targets-long tr.count answered.form));
        no_delays = λ q. rw q;
        no_criticalities = λ q. rw q;
      },
    )

-- the stages of a text after its head
abbrev net_stage : Counts → NodeLists → EdgeLists → ℕ → List ℕ → Part Job
net_stage c ns es at bs =
    and_then (net_lines (length bs) c.terms.timed ns.kinds c.nodes c.nets (net_lists [] [] [] []) at bs) (λ ts end rest. part (job_read c ns es ts) end rest)

abbrev edge_stage_lem : Counts → NodeLists → ℕ → List ℕ → Part Job
edge_stage_lem c ns at bs =
    and_then (edge_lines c.nodes c.edges (edge_lists [] []) at bs) (λ es next rest. net_stage c ns es next rest)

abbrev node_stage_lem : Counts → ℕ → List ℕ → Part Job
node_stage_lem c at bs = and_then (node_lines c.terms.timed c.nodes c.nodes (node_lists [] [] []) at bs) (λ ns next rest. edge_stage_lem c ns next rest)

-- a stage that gives a job, once the parts before it are read
module _
    (bs : List ℕ) (j : Job) (at : ℕ) (rest : List ℕ) (c : Counts) (rest1 : List ℕ) (head : HeadGiven c bs rest1) where
  after-edges :
      (ns : NodeLists) (es : EdgeLists) (at3 : ℕ) (rest2 rest3 : List ℕ)
      → NodesGiven c.terms.timed c.nodes c.nodes (node_lists [] [] []) ns rest1 rest2 → EdgesGiven c.nodes c.edges es rest2 rest3
      → net_stage c ns es at3 rest3 ≡ part j at rest → SoundJob j × PrintedAs bs j × (rest ≡ [])
  after-edges ns es at3 rest2 rest3 nr er e =
      let timed : Bool = c.terms.timed in
      let r = then_part (net_lines (length rest3) timed ns.kinds c.nodes c.nets (net_lists [] [] [] []) at3 rest3) _ j at rest e in
      let ts : NetLists = r.0 in
      let rest4 : List ℕ = r.2 in
      let made : part (job_read c ns es ts) r.1 rest4 ≡ part j at rest = r.4 in
      let same : job_read c ns es ts ≡ j = cc in
      let left : rest4 ≡ rest = cc in
      let tables : TablesRead timed ns.kinds c.nodes c.nets ts rest3 rest4 =
      nets_read timed (length rest3) ns.kinds c.nodes c.nets ts at3 r.1 rest3 rest4 head.bounds.some_nets head.bounds.few-nets r.3 in
      let answered = parts_given c ns es ts bs rest1 rest2 rest3 rest4 head nr er tables in
      (rw same at answered.0, rw same at answered.1, rw left at tables.end)

  after-nodes :
      (ns : NodeLists) (at2 : ℕ) (rest2 : List ℕ) → NodesGiven c.terms.timed c.nodes c.nodes (node_lists [] [] []) ns rest1 rest2
      → edge_stage_lem c ns at2 rest2 ≡ part j at rest → SoundJob j × PrintedAs bs j × (rest ≡ [])
  after-nodes ns at2 rest2 nr e =
      let q = then_part (edge_lines c.nodes c.edges (edge_lists [] []) at2 rest2) (λ es next more. net_stage c ns es next more) j at rest e in
      after-edges ns q.0 q.1 rest2 q.2 nr (edges_read c.nodes c.edges q.0 at2 q.1 rest2 q.2 q.3) q.4

  after_head : (at1 : ℕ) → node_stage_lem c at1 rest1 ≡ part j at rest → SoundJob j × PrintedAs bs j × (rest ≡ [])
  after_head at1 e =
      let p = then_part (node_lines c.terms.timed c.nodes c.nodes (node_lists [] [] []) at1 rest1) (λ ns next more. edge_stage_lem c ns next more) j at rest e in
      after-nodes p.0 p.1 p.2 (nodes_read c.terms.timed c.nodes p.0 at1 p.1 rest1 p.2 p.3) p.4

read_printed : (bs : List ℕ) (j : Job) (at : ℕ) (rest : List ℕ) → read_text bs ≡ part j at rest → SoundJob j × PrintedAs bs j × (rest ≡ [])
unfolding read_text
read_printed bs j at rest e =
    let a = then_part (head_part bs) (λ c next more. node_stage_lem c next more) j at rest e in
    after_head bs j at rest a.0 a.2 (head_read bs a.0 a.1 a.2 a.3) a.1 a.4

-- ---- a sound job's printed form

-- the text is read to this job, before 4 and 15 are tested
abbrev pub ReadAs : List ℕ → Job → Type 0
ReadAs bs j = (at : ℕ) × (read_text bs ≡ part j at [])

-- the first of the node lines
nodes_begin :
    (timed : Bool) (n : ℕ) (kinds capacities delays rest : List ℕ) → 1 ≤ n → begins letter_n (concat_from (node_printed timed kinds capacities delays) 0 n ++ rest) ≡ true
unfolding begins concat_from print_line
nodes_begin timed zero kinds capacities delays rest some = absurd (omega arith)
nodes_begin timed (suc k) kinds capacities delays rest some = refl

-- what is read for a table that timed jobs alone have, of so many entries up to a bound
record TimesRead (timed : Bool) (n most : ℕ) (table : List ℕ) : Type 0 where
  read : List ℕ
  long : length read ≡ n
  within : every (λ x. leb x most) read ≡ true
  none : timed ≡ false → (i : ℕ) → get_or read i 0 ≡ 0
  same : choose timed read [] ≡ table

times_read :
    (timed : Bool) (n most : ℕ) (table : List ℕ) → (timed ≡ true → both (eqb (length table) n) (every (λ x. leb x most) table) ≡ true) → (timed ≡ false → table ≡ [])
    → TimesRead timed n most table
times_read true n most table sound empty =
    record {
      read = table;
      long = eqb-true (length table) n (both_left (eqb (length table) n) (every (λ x. leb x most) table) (sound refl));
      within = both_right (eqb (length table) n) (every (λ x. leb x most) table) (sound refl);
      none = λ q. absurd (true≢false q);
      same = refl;
    }
times_read false n most table sound empty =
    record {
      read = replicate n 0;
      long = length-replicate {A = ℕ} n 0;
      within = every-all (λ x. leb x most) (replicate n 0) (λ i h. rw (unmarked_new n i) (le-leb 0 most (omega arith)));
      none = λ q. unmarked_new n;
      same = sym (empty refl);
    }

-- a job with its own delays and criticalities
job_with :
    (j : Job) (ds cs : List ℕ) → ds ≡ j.delays → cs ≡ j.criticalities
    → record { block = j.block; sources = j.sources; first_sinks = j.first_sinks; sinks = j.sinks; delays = ds; criticalities = cs; terms = j.terms } ≡ j
job_with j ds cs d c = rw (d, c)

module _ (j : Job) (s : SoundJob j) where
  abbrev counts : Counts
  counts = record { nodes = nodes j; edges = length j.block.edge_targets; nets = nets j; terms = j.terms }

  edges_few : length j.block.edge_targets ≤ edges_most
  unfolding edge_targets_sound
  edges_few = leb-true _ _ (both_left _ _ s.block-sound.edge_targets_sound_lem)

  rows_sound : (u : ℕ) → u < nodes j → row_sound (nodes j) u (row_of j.block.first_edges j.block.edge_targets u) ≡ true
  unfolding edge_targets_sound row
  rows_sound u h =
      let here =
      every-at (λ u. row_sound (nodes j) u (row j.block u)) (up_to (λ u. u) (nodes j))
      (both_right (leb (length j.block.edge_targets) edges_most) _ s.block-sound.edge_targets_sound_lem) u (rw length_up_to h) in
      rw (get_or_up_to (λ u. u) (nodes j) u 0 h) at here

  counts-within : HeadBounds counts
  unfolding terms_sound limit_sound
  counts-within =
      let asked =
      both_right (limit_sound j.terms.limit) (both (tuning_sound j.terms.tuning) (rule_sound j.terms.rule j.terms.until)) s.terms_sound_lem in
      record {
        some_nodes = kinds_some j.block.kinds s.block-sound.kinds_sound_lem;
        few-nodes = kinds-few j.block.kinds s.block-sound.kinds_sound_lem;
        few-edges = edges_few;
        some_nets = sources_some _ _ s.sources_sound_lem;
        few-nets = sources-few _ _ s.sources_sound_lem;
        some_turns = limit_least j.terms.limit (both_left _ _ s.terms_sound_lem);
        few-turns = leb-true _ _ (both_right (leb 1 j.terms.limit) _ (both_left _ _ s.terms_sound_lem));
        tuned = both_left (tuning_sound j.terms.tuning) (rule_sound j.terms.rule j.terms.until) asked;
        ruled = both_right (tuning_sound j.terms.tuning) (rule_sound j.terms.rule j.terms.until) asked;
      }

  -- the delays and criticalities that are read
  module _ (no_delays : j.terms.timed ≡ false → j.delays ≡ []) (no_criticalities : j.terms.timed ≡ false → j.criticalities ≡ []) where
    delays_read : TimesRead j.terms.timed (nodes j) delay_most j.delays
    unfolding delays_sound
    delays_read = times_read j.terms.timed (nodes j) delay_most j.delays s.delays_sound_lem no_delays

    criticalities_read : TimesRead j.terms.timed (length j.sinks) criticality_most j.criticalities
    unfolding criticalities_sound
    criticalities_read = times_read j.terms.timed (length j.sinks) criticality_most j.criticalities s.criticalities_sound_lem no_criticalities

    -- the lines of nodes and nets with these
    nodes_text : concat_from (node_text j) 0 (nodes j) ≡ concat_from (node_printed j.terms.timed j.block.kinds j.block.capacities delays_read.read) 0 (nodes j)
    unfolding node_text
    nodes_text =
        ap (λ (ds : List ℕ). concat_from (node_printed j.terms.timed j.block.kinds j.block.capacities ds) 0 (nodes j)) (sym delays_read.same)
        ∙ sym (nodes-same j.block.kinds j.block.capacities delays_read.read j.terms.timed (nodes j))

    nets_text : concat_from (net_text j) 0 (nets j) ≡ concat_from (net_at j.terms.timed j.sources j.first_sinks j.sinks criticalities_read.read) 0 (nets j)
    unfolding net_text net_sinks net_criticalities
    nets_text =
        ap (λ (cs : List ℕ). concat_from (net_at j.terms.timed j.sources j.first_sinks j.sinks cs) 0 (nets j)) (sym criticalities_read.same)
        ∙ sym (nets-same j.sources j.first_sinks j.sinks criticalities_read.read j.terms.timed (nets j))

    form_read : (form : Form) → Allowed form j.terms → ReadAs (print_job form j) j
    unfolding read_text job_read print_job row_text row delays_sound criticalities_sound
    form_read form allowed =
        let timed : Bool = j.terms.timed in
        let n : ℕ = nodes j in
        let at : ℕ = lines_after form timed 2 in
        let kinds : List ℕ = j.block.kinds in
        let capacities : List ℕ = j.block.capacities in
        let first : List ℕ = j.block.first_edges in
        let targets : List ℕ = j.block.edge_targets in
        let delays : List ℕ = delays_read.read in
        let criticalities : List ℕ = criticalities_read.read in
        let third : List ℕ = concat_from (net_at timed j.sources j.first_sinks j.sinks criticalities) 0 (nets j) in
        let second : List ℕ = edges_text n first targets ++ third in
        let head =
        head_printed counts (concat_from (node_printed timed kinds capacities delays) 0 n ++ second) counts-within form allowed
        (nodes_begin timed n kinds capacities delays second counts-within.some_nodes) in
        let node =
        nodes-printed timed n kinds capacities delays refl s.block-sound.kinds_sound_lem s.block-sound.capacities_sound_lem
        (both_true (eq-eqb (length delays) n delays_read.long) delays_read.within) delays_read.none at second in
        let edge : EdgesPrinted n first targets (at + n) third =
        edges-printed n first targets (at + n) third counts-within.few-nodes s.block-sound.first_edges_sound_lem rows_sound in
        let net : TablesPrinted timed (length third) kinds n (at + n + length targets) j.sources j.first_sinks j.sinks criticalities =
        nets-printed timed kinds n j.sources j.first_sinks j.sinks criticalities counts-within.few-nodes s.source_pins_lem s.sink_pins_lem
        s.sources_sound_lem s.first_sinks_sound_lem s.sinks_sound_lem
        (both_true (eq-eqb (length criticalities) (length j.sinks) criticalities_read.long) criticalities_read.within) criticalities_read.none
        (length third) (at + n + length targets) (omega arith) in (
          net.after,
          rw (nodes_text, nets_text, head, node, edge.read, net.reads, edge.places, net.firsts)
              (ap (λ (x : Job). part x net.after [])
              (job_with j (if_timed j.terms delays) (if_timed j.terms criticalities) delays_read.same criticalities_read.same)),
        )

-- ---- the theorem

-- a printed form of a sound job is read to it
pub printed_read : (bs : List ℕ) (j : Job) → SoundJob j → PrintedAs bs j → ReadAs bs j
printed_read bs j s p =
    let a = form_read j s p.no_delays p.no_criticalities p.form p.allowed in
    (a.0, ap read_text p.is ∙ a.1)

-- two sound jobs with the same printed form are the same job
pub printed-once : (bs : List ℕ) (j k : Job) → SoundJob j → SoundJob k → PrintedAs bs j → PrintedAs bs k → j ≡ k
printed-once bs j k s t p q =
    let a = printed_read bs j s p in
    let b = printed_read bs k t q in
    let same : part j a.0 [] ≡ part k b.0 [] = sym a.1 ∙ b.1 in
    cc

-- a job that was read is given back exactly where every table is long enough for it and it is within 2.9's limits; 4 comes first
stored_none : (j : Job) (t : Tables) → (stored_reply j t).refusal ≡ [] → (short_table j t ≡ 0) × (exceeds (nodes j) j.terms ≡ false)
unfolding stored_reply
stored_none j t e =
    by_test (leb 1 (short_table j t))
    (λ h. absurd (not_accepted 4 (short_table j t ∷ []) (sym (rw h at e))))
    (λ h.
    by_test (exceeds (nodes j) j.terms)
    (λ x. absurd (not_accepted 15 (nodes j ∷ j.terms.limit ∷ []) (sym (rw (h, x) at e))))
    (λ x. (omega (arith, leb-false 1 (short_table j t) h), x)))

stored_whole : (j : Job) (t : Tables) → short_table j t ≡ 0 → exceeds (nodes j) j.terms ≡ false → stored_reply j t ≡ read_whole j t
unfolding stored_reply
stored_whole j t long within = rw (long, within)

stored_short : (j : Job) (t : Tables) → 1 ≤ short_table j t → stored_reply j t ≡ not_read (4 ∷ short_table j t ∷ []) t
unfolding stored_reply
stored_short j t some = rw (le-leb 1 (short_table j t) some)

stored_large :
    (j : Job) (t : Tables) → short_table j t ≡ 0 → exceeds (nodes j) j.terms ≡ true → stored_reply j t ≡ not_read (15 ∷ nodes j ∷ j.terms.limit ∷ []) t
unfolding stored_reply
stored_large j t long over = rw (long, over)

-- the reply to a sound text
sound_stored : (bs : List ℕ) (j : Job) (t : Tables) → SoundText bs j → read_reply bs t ≡ stored_reply j t
unfolding read_reply
sound_stored bs j t s = ap (λ (x : Part Job). reply_to x t) (printed_read bs j s.sound s.printed).1

-- a reply that refuses nothing, by what was read of the text
read_accepted : (bs : List ℕ) (t : Tables) (p : Part Job) → read_text bs ≡ p → (reply_to p t).refusal ≡ [] → AcceptedText bs t
unfolding read_reply
read_accepted bs t (stopped k at) is e = absurd (not_accepted k (at ∷ []) (sym e))
read_accepted bs t (part j at rest) is e =
    let kept = stored_none j t e in
    let found = read_printed bs j at rest is in
    record {
      job = j;
      allowed = record { written = record { sound = found.0; printed = found.1 }; within = kept.1 };
      long-enough = kept.0;
      given_back = ap (λ (x : Part Job). reply_to x t) is ∙ stored_whole j t kept.0 kept.1;
    }

pub reader_exact : (bs : List ℕ) (t : Tables) → AcceptsExactly bs t
unfolding read_reply
reader_exact bs t =
    record {
      only = λ e. read_accepted bs t (read_text bs) refl e;
      all = λ j a long. sound_stored bs j t a.written ∙ stored_whole j t long a.within;
      short = λ j s some. sound_stored bs j t s ∙ stored_short j t some;
      too_large = λ j s over long. sound_stored bs j t s ∙ stored_large j t long over;
    }
