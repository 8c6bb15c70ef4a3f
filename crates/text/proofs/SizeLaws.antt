-- Which jobs the tables are long enough for, and how long what the program lends is.
-- Assumes nothing.
use mathlib.Core.Path.{◌≡◌}
use Prim.Native.Nat.{ℕ, ◌+◌, ◌≤◌}
use native.Mathlib.Omega.{arith}
use lib.ListN.{length, replicate, length-replicate}
use borrow.Author.Tests.{le-ltb}
use Rattle.job.specs.Job.{Job, nodes, nets}
use Rattle.text.specs.ReadReplies.{Tables, lowest_short, short_times, short_untimed, short_table}
use Rattle.text.specs.Sizes.{bytes_lent, words_lent, entries_lent, nodes_lent, edges_lent, nets_lent, sinks_lent, tables_lent, work_lent, log_lent, routes_lent, RouterTables}

-- tables that have these lengths at least are long enough
pub long-enough :
    (j : Job) (t : Tables) → nodes j ≤ length t.kinds → nodes j ≤ length t.capacities → nodes j + 1 ≤ length t.first_edges
    → length j.block.edge_targets ≤ length t.edge_targets → nets j ≤ length t.sources → nets j + 1 ≤ length t.first_sinks
    → length j.sinks ≤ length t.sinks → length j.delays ≤ length t.delays → length j.criticalities ≤ length t.criticalities
    → short_table j t ≡ 0
unfolding short_table short_untimed lowest_short short_times
long-enough j t a b c d e f g h i =
    rw (
      le-ltb (length t.kinds) (nodes j) a,
      le-ltb (length t.capacities) (nodes j) b,
      le-ltb (length t.first_edges) (nodes j + 1) c,
      le-ltb (length t.edge_targets) (length j.block.edge_targets) d,
      le-ltb (length t.sources) (nets j) e,
      le-ltb (length t.first_sinks) (nets j + 1) f,
      le-ltb (length t.sinks) (length j.sinks) g,
      le-ltb (length t.delays) (length j.delays) h,
      le-ltb (length t.criticalities) (length j.criticalities) i,
    )

-- so are the router's for an untimed job of few enough nodes, edges, nets and sinks
pub router_long :
    (j : Job) (t : Tables) → RouterTables t → nodes j ≤ nodes_lent → length j.block.edge_targets ≤ edges_lent → nets j ≤ nets_lent → length j.sinks ≤ sinks_lent
    → length j.delays ≡ 0 → length j.criticalities ≡ 0 → short_table j t ≡ 0
router_long j t r a b c d e f =
    long-enough j t (omega (arith, r.kinds)) (omega (arith, r.capacities)) (omega (arith, r.first_edges_lem)) (omega (arith, r.edge_targets_lem))
    (omega (arith, r.sources)) (omega (arith, r.first_sinks_lem)) (omega (arith, r.sinks)) (omega arith) (omega arith)

-- ---- what is lent

zeros_long : (m n : ℕ) → m ≤ n → m ≤ length (replicate {A = ℕ} n 0)
zeros_long m n h = rw (length-replicate {A = ℕ} n 0) h

pub lent_tables : RouterTables tables_lent
unfolding tables_lent
lent_tables =
    record {
      kinds = zeros_long nodes_lent nodes_lent (omega arith);
      capacities = zeros_long nodes_lent nodes_lent (omega arith);
      first_edges_lem = zeros_long (nodes_lent + 1) (nodes_lent + 1) (omega arith);
      edge_targets_lem = zeros_long edges_lent edges_lent (omega arith);
      sources = zeros_long nets_lent nets_lent (omega arith);
      first_sinks_lem = zeros_long (nets_lent + 1) (nets_lent + 1) (omega arith);
      sinks = zeros_long sinks_lent sinks_lent (omega arith);
    }

pub work-long : (m : ℕ) → m ≤ entries_lent → m ≤ length work_lent
unfolding work_lent
work-long m h = zeros_long m entries_lent h

pub log-long : (m : ℕ) → m ≤ words_lent → m ≤ length log_lent
unfolding log_lent
log-long m h = zeros_long m words_lent h

pub routes-long : (m : ℕ) → m ≤ bytes_lent → m ≤ length routes_lent
unfolding routes_lent
routes-long m h = zeros_long m bytes_lent h
