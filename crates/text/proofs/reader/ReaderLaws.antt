-- The lines of a job text in their order: what each stage gives is what the whole text gives.
-- Assumes nothing.
use mathlib.Core.Bool.{Bool}
use mathlib.Core.List.{List, [], ◌∷◌, ◌++◌}
use mathlib.Core.Path.{◌≡◌, refl, sym, ◌∙◌, ap, subst}
use Prim.Native.Nat.{ℕ, ◌+◌, ◌≤◌}
use native.Mathlib.Numerals.{add-one}
use native.Mathlib.Omega.{arith}
use lib.ListN.{length, take, drop}
use lib.Seq.{take-suc, length-take-le}
use Rattle.search.specs.Replies.{sinks_most}
use Rattle.job.specs.Job.{Job, job_of}
use Rattle.job.specs.declared.Terms.{Terms}
use Rattle.text.specs.JobText.{Part, part, stopped, and_then, Counts, head_part, NodeLists, node_lists, node_lines, EdgeLists, edge_lists, edge_lines, NetLists, net_lists, net_lines, first_places, job_read, read_text}
use Rattle.text.specs.ReadReplies.{Tables}
use Rattle.text.specs.Steps.{row, Within, edge_tables, edges_at, nodes_at, LinesPlace, nets_read_at, NetsEnd}
use Rattle.text.specs.ReadSteps.{with_nets, nets_after, body_after_nodes, edges_nets_at, with_wires, wires_after, body_after_head, body_at, job_at, JobPlace, CountsWithin, head_read_at, HeadReadPlace}
use Rattle.std.specs.Prelude.{Result}
use Rattle.std.specs.Prelude.{Ok, Err}
use Rattle.text.specs.declared.JobCounts.{JobCounts}
use Rattle.text.specs.declared.head.HeadRead.{HeadRead}
use Rattle.text.specs.declared.place.Place.{Place}
use Rattle.text.specs.declared.place.LineRefusal.{LineRefusal}

-- the nets as they stand in the tables, with the entry after the last net's
with_nets_lem :
    (n edges nets end : ℕ) (r : Result ℕ LineRefusal) (first_edges edge_targets sources first_sinks sinks criticalities : List ℕ) → NetsEnd nets r first_sinks
    → nets + 1 ≤ length first_sinks → sinks_most ≤ length sinks
    → edges_nets_at n edges nets end r first_edges edge_targets sources first_sinks sinks criticalities
    ≡ with_nets (take (n + 1) first_edges) (take edges edge_targets) (nets_read_at nets end r sources first_sinks sinks criticalities)
with_nets_lem n edges nets end (Ok count) first_edges edge_targets sources first_sinks sinks criticalities ended long room =
    let one : take (nets + 1) first_sinks ≡ take nets first_sinks ++ (count ∷ []) =
    rw (add-one, take-suc first_sinks nets 0 (omega arith), ended.1) refl in
    rw (one, length-take-le count sinks (omega (arith, ended.0)))
with_nets_lem n edges nets end (Err k) first_edges edge_targets sources first_sinks sinks criticalities ended long room = refl

-- edges, then nets
pub edges-nets :
    (timed : Bool) (kinds : List ℕ) (n edges nets line end : ℕ) {place : Place} (text bs : List ℕ) (x : Result Place LineRefusal) (r : Result ℕ LineRefusal) (first_edges edge_targets sources first_sinks sinks criticalities : List ℕ)
    → x ≡ Ok place
    → edges_at text x (take (n + 1) first_edges) (take edges edge_targets) ≡ edge_tables n (edge_lines n edges (edge_lists [] []) line bs)
    → nets_read_at nets end r sources first_sinks sinks criticalities ≡ net_lines (length (drop place.at text)) timed kinds n nets (net_lists [] [] [] []) place.line (drop place.at text)
    → NetsEnd nets r first_sinks → nets + 1 ≤ length first_sinks → sinks_most ≤ length sinks
    → edges_nets_at n edges nets end r first_edges edge_targets sources first_sinks sinks criticalities ≡ body_after_nodes timed kinds n edges nets line bs
unfolding body_after_nodes
edges-nets timed kinds n edges nets line end text bs x r first_edges edge_targets sources first_sinks sinks criticalities is read nets_are ended long room =
    with_nets_lem n edges nets end r first_edges edge_targets sources first_sinks sinks criticalities ended long room
    ∙ ap (with_nets (take (n + 1) first_edges) (take edges edge_targets)) nets_are
    ∙ ap (nets_after timed kinds n nets) (ap (λ (y : Result Place LineRefusal). edges_at text y (take (n + 1) first_edges) (take edges edge_targets)) (sym is) ∙ read)

-- a faulty E line
pub edges_stop :
    (timed : Bool) (kinds : List ℕ) (n edges nets line : ℕ) {e : LineRefusal} (text bs : List ℕ) (x : Result Place LineRefusal) (first_edges edge_targets : List ℕ) → x ≡ Err e
    → edges_at text x first_edges edge_targets ≡ edge_tables n (edge_lines n edges (edge_lists [] []) line bs)
    → stopped (row e.fault) e.line ≡ body_after_nodes timed kinds n edges nets line bs
unfolding body_after_nodes
edges_stop timed kinds n edges nets line text bs x first_edges edge_targets is read =
    ap (nets_after timed kinds n nets) (ap (λ (y : Result Place LineRefusal). edges_at text y first_edges edge_targets) (sym is) ∙ read)

with_wires_lem :
    (n edges nets end : ℕ) (r : Result ℕ LineRefusal) (kinds capacities first_edges edge_targets sources first_sinks sinks delays criticalities : List ℕ)
    → body_at n edges nets end r kinds capacities first_edges edge_targets sources first_sinks sinks delays criticalities
    ≡ with_wires (node_lists (take n kinds) (take n capacities) (take n delays)) (edges_nets_at n edges nets end r first_edges edge_targets sources first_sinks sinks criticalities)
with_wires_lem n edges nets end (Ok count) kinds capacities first_edges edge_targets sources first_sinks sinks delays criticalities = refl
with_wires_lem n edges nets end (Err k) kinds capacities first_edges edge_targets sources first_sinks sinks delays criticalities = refl

-- nodes, then edges and nets
pub nodes-wires :
    (timed : Bool) (n edges nets line end : ℕ) {place : Place} (text bs : List ℕ) (x : Result Place LineRefusal) (r : Result ℕ LineRefusal) (kinds capacities first_edges edge_targets sources first_sinks sinks delays criticalities : List ℕ)
    → x ≡ Ok place → nodes_at text x (take n kinds) (take n capacities) (take n delays) ≡ node_lines timed n n (node_lists [] [] []) line bs
    → edges_nets_at n edges nets end r first_edges edge_targets sources first_sinks sinks criticalities ≡ body_after_nodes timed (take n kinds) n edges nets place.line (drop place.at text)
    → body_at n edges nets end r kinds capacities first_edges edge_targets sources first_sinks sinks delays criticalities ≡ body_after_head timed n edges nets line bs
unfolding body_after_head
nodes-wires timed n edges nets line end text bs x r kinds capacities first_edges edge_targets sources first_sinks sinks delays criticalities is read wires =
    with_wires_lem n edges nets end r kinds capacities first_edges edge_targets sources first_sinks sinks delays criticalities
    ∙ ap (with_wires (node_lists (take n kinds) (take n capacities) (take n delays))) wires
    ∙ ap (wires_after timed n edges nets) (ap (λ (y : Result Place LineRefusal). nodes_at text y (take n kinds) (take n capacities) (take n delays)) (sym is) ∙ read)

-- a faulty N line
pub nodes_stop :
    (timed : Bool) (n edges nets line : ℕ) {e : LineRefusal} (text bs : List ℕ) (x : Result Place LineRefusal) (kinds capacities delays : List ℕ) → x ≡ Err e
    → nodes_at text x kinds capacities delays ≡ node_lines timed n n (node_lists [] [] []) line bs → stopped (row e.fault) e.line ≡ body_after_head timed n edges nets line bs
unfolding body_after_head
nodes_stop timed n edges nets line text bs x kinds capacities delays is read =
    ap (wires_after timed n edges nets) (ap (λ (y : Result Place LineRefusal). nodes_at text y kinds capacities delays) (sym is) ∙ read)

-- the job of the tables that were read
abbrev job_after : Terms → Part Tables → Part Job
job_after terms (part t at rest) =
    part (job_of t.kinds t.capacities t.first_edges t.edge_targets t.sources t.first_sinks t.sinks t.delays t.criticalities terms) at rest
job_after terms (stopped k at) = stopped k at

-- one stage after the other is the whole text, once the lines before the nodes are read
module _ (c : Counts) where
  last_stage :
      (ns : NodeLists) (es : EdgeLists) (x : Part NetLists)
      → job_after c.terms (with_wires ns (with_nets (first_places c.nodes es.froms) es.targets x))
      ≡ and_then x (λ ts at rest. part (job_read c ns es ts) at rest)
  unfolding job_read
  last_stage ns es (part ts at rest) = refl
  last_stage ns es (stopped k at) = refl

  edge_stage :
      (ns : NodeLists) (x : Part EdgeLists)
      → job_after c.terms (with_wires ns (nets_after c.terms.timed ns.kinds c.nodes c.nets (edge_tables c.nodes x)))
      ≡ and_then x
      (λ es at rest. and_then (net_lines (length rest) c.terms.timed ns.kinds c.nodes c.nets (net_lists [] [] [] []) at rest) (λ ts at2 rest2. part (job_read c ns es ts) at2 rest2))
  edge_stage ns (part es at rest) = last_stage ns es (net_lines (length rest) c.terms.timed ns.kinds c.nodes c.nets (net_lists [] [] [] []) at rest)
  edge_stage ns (stopped k at) = refl

  node_stage :
      (x : Part NodeLists)
      → job_after c.terms (wires_after c.terms.timed c.nodes c.edges c.nets x)
      ≡ and_then x
      (λ ns at rest. and_then (edge_lines c.nodes c.edges (edge_lists [] []) at rest) (λ es at2 rest2. and_then (net_lines (length rest2) c.terms.timed ns.kinds c.nodes c.nets (net_lists [] [] [] []) at2 rest2) (λ ts at3 rest3. part (job_read c ns es ts) at3 rest3)))
  unfolding body_after_nodes
  node_stage (part ns at rest) = edge_stage ns (edge_lines c.nodes c.edges (edge_lists [] []) at rest)
  node_stage (stopped k at) = refl

-- the first line's counts and what the lines after it gave, as one answer
abbrev pub job_lines : ℕ → ℕ → ℕ → Terms → Result ℕ LineRefusal → Result JobCounts LineRefusal
job_lines n edges nets terms (Ok count) = Ok (record { nodes = n; edges = edges; nets = nets; sinks = count; terms = terms })
job_lines n edges nets terms (Err e) = Err e

job_body :
    (n edges nets end : ℕ) (terms : Terms) (r : Result ℕ LineRefusal) (kinds capacities first_edges edge_targets sources first_sinks sinks delays criticalities : List ℕ)
    → job_at end (job_lines n edges nets terms r) kinds capacities first_edges edge_targets sources first_sinks sinks delays criticalities
    ≡ job_after terms (body_at n edges nets end r kinds capacities first_edges edge_targets sources first_sinks sinks delays criticalities)
job_body n edges nets end terms (Ok count) kinds capacities first_edges edge_targets sources first_sinks sinks delays criticalities = refl
job_body n edges nets end terms (Err e) kinds capacities first_edges edge_targets sources first_sinks sinks delays criticalities = refl

-- the lines before the nodes, then those from the nodes on
module _ (text : List ℕ) {x : Result HeadRead LineRefusal} {h : HeadRead} (is : x ≡ Ok h) (read : head_read_at text x ≡ head_part text) (end : ℕ) (kinds capacities first_edges edge_targets sources first_sinks sinks delays criticalities : List ℕ) where
  abbrev body : Result ℕ LineRefusal → Part Tables
  body r = body_at h.counts.nodes h.counts.edges h.counts.nets end r kinds capacities first_edges edge_targets sources first_sinks sinks delays criticalities

  module _
      (r : Result ℕ LineRefusal)
      (body-is : body r ≡ body_after_head h.counts.terms.timed h.counts.nodes h.counts.edges h.counts.nets h.place.line (drop h.place.at text)) where
    text_body : job_after h.counts.terms (body r) ≡ read_text text
    unfolding read_text body_after_head
    text_body =
        ap (job_after h.counts.terms) body-is
        ∙ node_stage (record { nodes = h.counts.nodes; edges = h.counts.edges; nets = h.counts.nets; terms = h.counts.terms })
        (node_lines h.counts.terms.timed h.counts.nodes h.counts.nodes (node_lists [] [] []) h.place.line (drop h.place.at text))
        ∙ rw (← read, is)

    pub text_read :
        {j : Result JobCounts LineRefusal} → j ≡ job_lines h.counts.nodes h.counts.edges h.counts.nets h.counts.terms r
        → job_at end j kinds capacities first_edges edge_targets sources first_sinks sinks delays criticalities ≡ read_text text
    text_read e =
        ap (λ (y : Result JobCounts LineRefusal). job_at end y kinds capacities first_edges edge_targets sources first_sinks sinks delays criticalities) e
        ∙ job_body h.counts.nodes h.counts.edges h.counts.nets end h.counts.terms r kinds capacities first_edges edge_targets sources first_sinks sinks delays criticalities
        ∙ text_body

-- the counts of a text that was read are within their bounds
module _ (n edges nets : ℕ) (terms : Terms) (first_sinks : List ℕ) (within : CountsWithin n edges nets) where
  lines_place : (r : Result ℕ LineRefusal) → NetsEnd nets r first_sinks → JobPlace (job_lines n edges nets terms r)
  lines_place (Ok count) ended = (within, ended.0)
  lines_place (Err e) ended = tt

  pub job_place : (r : Result ℕ LineRefusal) {j : Result JobCounts LineRefusal} → j ≡ job_lines n edges nets terms r → NetsEnd nets r first_sinks → JobPlace j
  job_place r is ended = subst JobPlace (sym is) (lines_place r ended)

-- a faulty line before the nodes
pub text_stop : (text : List ℕ) {x : Result HeadRead LineRefusal} {e : LineRefusal} → x ≡ Err e → head_read_at text x ≡ head_part text → stopped (row e.fault) e.line ≡ read_text text
unfolding read_text
text_stop text is read = rw (← read, is)

-- where a part of the text ends
pub read_place : (text : List ℕ) {x : Result Place LineRefusal} {p : Place} → x ≡ Ok p → LinesPlace text x → Within text p
read_place text is place = rw is at place

-- the counts, and where the nodes begin
pub body_place :
    (text : List ℕ) {x : Result HeadRead LineRefusal} {h : HeadRead} → x ≡ Ok h → HeadReadPlace text x
    → CountsWithin h.counts.nodes h.counts.edges h.counts.nets × Within text h.place
body_place text is place = rw is at place
