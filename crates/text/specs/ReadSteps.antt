-- What the contracts of the reader's private functions say about whole tables.
-- Assumes nothing.
use Rattle.std.specs.Prelude.{Bool, Option, Some, None, Result, Ok, Err, List, [], ◌∷◌, ◌++◌, ◌≡◌, ℕ, ◌+◌, ◌≤◌, leb, length, take, drop}
use Rattle.price.specs.Test.{choose}
use Rattle.price.specs.Bounds.{nodes_most}
use Rattle.search.specs.Tables.{edges_most}
use Rattle.search.specs.Replies.{sinks_most}
use Rattle.job.specs.Tables.{nets_most}
use Rattle.job.specs.Job.{Job, job_of}
use Rattle.text.specs.JobText.{Part, part, stopped, Counts, NodeLists, node_lists, node_lines}
use Rattle.text.specs.JobText.{edge_lists, edge_lines, NetLists, net_lists, net_lines}
use Rattle.text.specs.ReadReplies.{Tables, tables_of}
use Rattle.text.specs.Steps.{EdgeTables, edge_tables, row, Within}
use Rattle.text.specs.declared.JobCounts.{JobCounts}
use Rattle.text.specs.declared.ReadRefusal.{ReadRefusal}
use Rattle.text.specs.declared.ReadRefusal.TheVariants as rr
use Rattle.text.specs.declared.head.HeadRead.{HeadRead}
use Rattle.text.specs.declared.place.LineRefusal.{LineRefusal}
use Rattle.text.specs.declared.place.LineFault.{LineFault}
use Rattle.text.specs.declared.place.LineFault.TheVariants as lf

-- a table that is too short by its number, which is 1 at least; 0 if each is long enough
abbrev pub table_number : Option ℕ → ℕ
table_number None = 0
table_number (Some table) = table

abbrev pub Named : Option ℕ → Type 0
Named None = Unit {0}
Named (Some table) = 1 ≤ table

-- row 4 of tables 1 to 7 before that of 9 and 10
abbrev pub lowest_of_nine : ℕ → ℕ → ℕ
lowest_of_nine first times = choose (leb 1 first) first times

-- tables with room for any job
pub record EdgeRoom (first_edges edge_targets : List ℕ) : Type 0 where
  pub firsts-long : nodes_most + 1 ≤ length first_edges
  pub targets-long : edges_most ≤ length edge_targets

pub record NetTablesRoom (sources first_sinks sinks criticalities : List ℕ) : Type 0 where
  pub sources-long : nets_most ≤ length sources
  pub firsts-long : nets_most + 1 ≤ length first_sinks
  pub sinks-long : sinks_most ≤ length sinks
  pub criticalities-long : sinks_most ≤ length criticalities

pub record RoomForAll (kinds capacities first_edges edge_targets sources first_sinks sinks delays criticalities : List ℕ) : Type 0 where
  pub kinds-long : nodes_most ≤ length kinds
  pub capacities-long : nodes_most ≤ length capacities
  pub delays-long : nodes_most ≤ length delays
  pub edge-room : EdgeRoom first_edges edge_targets
  pub net-room : NetTablesRoom sources first_sinks sinks criticalities

pub record CountsWithin (n edges nets : ℕ) : Type 0 where
  pub nodes_most_lem : n ≤ nodes_most
  pub edges_most_lem : edges ≤ edges_most
  pub nets_most_lem : nets ≤ nets_most

-- the lines before the nodes, as their values
abbrev pub head_read_at : List ℕ → Result HeadRead LineRefusal → Part Counts
head_read_at text (Ok h) =
    part
    (record { nodes = h.counts.nodes; edges = h.counts.edges; nets = h.counts.nets; terms = h.counts.terms })
    h.place.line (drop h.place.at text)
head_read_at text (Err r) = stopped (row r.fault) r.line

abbrev pub HeadReadPlace : List ℕ → Result HeadRead LineRefusal → Type 0
HeadReadPlace text (Ok h) = CountsWithin h.counts.nodes h.counts.edges h.counts.nets × Within text h.place
HeadReadPlace text (Err r) = Unit {0}

-- tables 3 to 7 and 10
pub record WireTables : Type 0 where
  pub first_edges : List ℕ
  pub edge_targets : List ℕ
  pub sources : List ℕ
  pub first_sinks : List ℕ
  pub sinks : List ℕ
  pub criticalities : List ℕ

abbrev pub wire_tables : List ℕ → List ℕ → List ℕ → List ℕ → List ℕ → List ℕ → WireTables
wire_tables first_edges edge_targets sources first_sinks sinks criticalities =
    record {
      first_edges = first_edges;
      edge_targets = edge_targets;
      sources = sources;
      first_sinks = first_sinks;
      sinks = sinks;
      criticalities = criticalities;
    }

-- nets after the edges; the last entry of table 6 is the sink count
abbrev pub with_nets : List ℕ → List ℕ → Part NetLists → Part WireTables
with_nets first_edges edge_targets (part ts at rest) =
    part
    (wire_tables first_edges edge_targets ts.sources (ts.first_sinks ++ (length ts.sinks ∷ [])) ts.sinks ts.criticalities)
    at rest
with_nets first_edges edge_targets (stopped k at) = stopped k at

abbrev pub nets_after : Bool → List ℕ → ℕ → ℕ → Part EdgeTables → Part WireTables
nets_after timed kinds n nets (part es at rest) =
    with_nets es.first_edges es.edge_targets (net_lines (length rest) timed kinds n nets (net_lists [] [] [] []) at rest)
nets_after timed kinds n nets (stopped k at) = stopped k at

-- edges and nets, from a line on
unfoldable pub body_after_nodes : Bool → List ℕ → ℕ → ℕ → ℕ → ℕ → List ℕ → Part WireTables
body_after_nodes timed kinds n edges nets at bs =
    nets_after timed kinds n nets (edge_tables n (edge_lines n edges (edge_lists [] []) at bs))

abbrev pub edges_nets_at :
    (n edges nets end : ℕ) → Result ℕ LineRefusal
    → (first_edges edge_targets sources first_sinks sinks criticalities : List ℕ) → Part WireTables
edges_nets_at n edges nets end (Ok count) first_edges edge_targets sources first_sinks sinks criticalities =
    part
    (wire_tables (take (n + 1) first_edges) (take edges edge_targets) (take nets sources) (take (nets + 1) first_sinks)
    (take count sinks) (take count criticalities))
    end []
edges_nets_at n edges nets end (Err r) first_edges edge_targets sources first_sinks sinks criticalities = stopped (row r.fault) r.line

-- edges and nets after the nodes
abbrev pub with_wires : NodeLists → Part WireTables → Part Tables
with_wires ns (part w at rest) =
    part
    (tables_of ns.kinds ns.capacities w.first_edges w.edge_targets w.sources w.first_sinks w.sinks
    ns.delays w.criticalities)
    at rest
with_wires ns (stopped k at) = stopped k at

abbrev pub wires_after : Bool → ℕ → ℕ → ℕ → Part NodeLists → Part Tables
wires_after timed n edges nets (part ns at rest) = with_wires ns (body_after_nodes timed ns.kinds n edges nets at rest)
wires_after timed n edges nets (stopped k at) = stopped k at

-- the lines from the nodes on
unfoldable pub body_after_head : Bool → ℕ → ℕ → ℕ → ℕ → List ℕ → Part Tables
body_after_head timed n edges nets at bs = wires_after timed n edges nets (node_lines timed n n (node_lists [] [] []) at bs)

abbrev pub body_at :
    (n edges nets end : ℕ) → Result ℕ LineRefusal
    → (kinds capacities first_edges edge_targets sources first_sinks sinks delays criticalities : List ℕ) → Part Tables
body_at n edges nets end (Ok count) kinds capacities first_edges edge_targets sources first_sinks sinks delays criticalities =
    part
    (tables_of (take n kinds) (take n capacities) (take (n + 1) first_edges) (take edges edge_targets)
    (take nets sources) (take (nets + 1) first_sinks) (take count sinks) (take n delays) (take count criticalities))
    end []
body_at n edges nets end (Err r) kinds capacities first_edges edge_targets sources first_sinks sinks delays criticalities =
    stopped (row r.fault) r.line

-- the job that stands in tables that have room for any
abbrev pub job_taken :
    JobCounts → (kinds capacities first_edges edge_targets sources first_sinks sinks delays criticalities : List ℕ) → Job
job_taken c kinds capacities first_edges edge_targets sources first_sinks sinks delays criticalities =
    job_of (take c.nodes kinds) (take c.nodes capacities) (take (c.nodes + 1) first_edges) (take c.edges edge_targets)
    (take c.nets sources) (take (c.nets + 1) first_sinks) (take c.sinks sinks) (take c.nodes delays) (take c.sinks criticalities) c.terms

-- the whole text, whose last line comes before this one
abbrev pub job_at :
    (end : ℕ) → Result JobCounts LineRefusal
    → (kinds capacities first_edges edge_targets sources first_sinks sinks delays criticalities : List ℕ) → Part Job
job_at end (Ok c) kinds capacities first_edges edge_targets sources first_sinks sinks delays criticalities =
    part (job_taken c kinds capacities first_edges edge_targets sources first_sinks sinks delays criticalities) end []
job_at end (Err r) kinds capacities first_edges edge_targets sources first_sinks sinks delays criticalities =
    stopped (row r.fault) r.line

abbrev pub JobPlace : Result JobCounts LineRefusal → Type 0
JobPlace (Ok c) = CountsWithin c.nodes c.edges c.nets × (c.sinks ≤ sinks_most)
JobPlace (Err r) = Unit {0}

-- what the reader answers at a faulty line
abbrev pub at_line : LineFault → ℕ → ReadRefusal
at_line lf.Malformed line = rr.Malformed line
at_line lf.BeyondBounds line = rr.BeyondBounds line
at_line lf.WrongOrder line = rr.WrongOrder line

abbrev pub line_refusal : LineRefusal → ReadRefusal
line_refusal r = at_line r.fault r.line

-- both lists have this many entries
pub record Fits (count : ℕ) (from to : List ℕ) : Type 0 where
  pub there : count ≤ length from
  pub room : count ≤ length to

-- the first entries of a list are copied over those of another
abbrev pub Over : ℕ → List ℕ → List ℕ → List ℕ → Type 0
Over count from before after = after ≡ take count from ++ drop count before
