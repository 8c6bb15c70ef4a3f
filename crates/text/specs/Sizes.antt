-- Document 01, the program: "It lends 65,536 bytes each for job, routes, log and work; tables for 1,024 nodes, 8,192 edges, 512 nets and
-- 4,096 sinks."
-- Assumes nothing.
use Rattle.std.specs.Prelude.{List, ℕ, ◌+◌, ◌≤◌, length, replicate}
use Rattle.text.specs.ReadReplies.{Tables, tables_of}

-- of the job text, and of the routes buffer
abbrev pub bytes_lent : ℕ
bytes_lent = 65536

-- of the log, four bytes each
abbrev pub words_lent : ℕ
words_lent = 16384

-- of the work slice, eight bytes each
abbrev pub entries_lent : ℕ
entries_lent = 8192

abbrev pub nodes_lent : ℕ
nodes_lent = 1024

abbrev pub edges_lent : ℕ
edges_lent = 8192

abbrev pub nets_lent : ℕ
nets_lent = 512

abbrev pub sinks_lent : ℕ
sinks_lent = 4096

-- the tables, at first all 0; by request 2.9 with a delay for each node and a criticality for each sink
unfoldable pub tables_lent : Tables
tables_lent =
    tables_of (replicate nodes_lent 0) (replicate nodes_lent 0) (replicate (nodes_lent + 1) 0) (replicate edges_lent 0)
    (replicate nets_lent 0) (replicate (nets_lent + 1) 0) (replicate sinks_lent 0)
    (replicate nodes_lent 0) (replicate sinks_lent 0)

unfoldable pub work_lent : List ℕ
work_lent = replicate entries_lent 0

unfoldable pub log_lent : List ℕ
log_lent = replicate words_lent 0

unfoldable pub routes_lent : List ℕ
routes_lent = replicate bytes_lent 0

-- tables 1 to 7, at least so long
pub record RouterTables (t : Tables) : Type 0 where
  pub kinds : nodes_lent ≤ length t.kinds
  pub capacities : nodes_lent ≤ length t.capacities
  pub first_edges_lem : nodes_lent + 1 ≤ length t.first_edges
  pub edge_targets_lem : edges_lent ≤ length t.edge_targets
  pub sources : nets_lent ≤ length t.sources
  pub first_sinks_lem : nets_lent + 1 ≤ length t.first_sinks
  pub sinks : sinks_lent ≤ length t.sinks
