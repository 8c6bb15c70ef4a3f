-- Document 01, "Tables and bounds": a job is the block with its nets and its terms. Nets are numbered from 0.
-- Assumes nothing.
use Rattle.std.specs.Prelude.{false, List, [], ℕ, ◌+◌, length, get_or}
use Rattle.std.proofs.Math.Seq.{slice}
use Rattle.price.specs.Test.{choose}
use Rattle.price.specs.Tuning.{plain}
use Rattle.search.specs.Block.{Block}
use Rattle.search.specs.Block as b
use Rattle.job.specs.declared.Terms.{Terms}
use Rattle.job.specs.declared.JobTables.{JobTables}

-- "The router is lent seven tables, each of exactly its length", with table 8 and by request 2.9 two more
pub record Job : Type 0 where
  -- tables 1 to 4
  pub block : Block
  -- 5. source node
  pub sources : List ℕ
  -- 6. first sink place
  pub first_sinks : List ℕ
  -- 7. sink node
  pub sinks : List ℕ
  -- request 2.9: "delay 0 to 1,000 (table 9, 16 bits a node)"
  pub delays : List ℕ
  -- "criticality 0 to 9 in tenths (table 10, a byte a sink)"
  pub criticalities : List ℕ
  -- the limit of iterations, which "counts as table 8", the tuning of request 2.1, the rule of request 2.7, the k of request 2.8, and
  -- whether the job is timed
  pub terms : Terms

abbrev pub nodes : Job → ℕ
nodes j = b.nodes j.block

-- the net count is table 5's length
abbrev pub nets : Job → ℕ
nets j = length j.sources

abbrev pub source : Job → ℕ → ℕ
source j i = get_or j.sources i 0

-- a net's sinks stand in table 7 from its own first place to the next net's
abbrev pub sinks_between : List ℕ → List ℕ → ℕ → List ℕ
sinks_between first_sinks sinks i = slice (get_or first_sinks i 0) (get_or first_sinks (i + 1) 0) sinks

-- a net's sinks, as listed
unfoldable pub net_sinks : Job → ℕ → List ℕ
net_sinks j i = sinks_between j.first_sinks j.sinks i

-- the criticalities of a net's sinks
unfoldable pub net_criticalities : Job → ℕ → List ℕ
net_criticalities j i = sinks_between j.first_sinks j.criticalities i

-- the terms of a job that asks for no tuning and no rule and is not timed. The field `until` is request 2.8's k
abbrev pub plain_terms : ℕ → Terms
plain_terms limit = record { limit = limit; tuning = plain; rule = 1; until = 1; timed = false }

-- a table that only timed jobs have: in any other it is not read, whatever is lent
abbrev pub if_timed : Terms → List ℕ → List ℕ
if_timed terms table = choose terms.timed table []

-- the job of nine tables and the terms
abbrev pub job_of : List ℕ → List ℕ → List ℕ → List ℕ → List ℕ → List ℕ → List ℕ → List ℕ → List ℕ → Terms → Job
job_of kinds capacities first_edges edge_targets sources first_sinks sinks delays criticalities terms =
    record {
      block = b.block_of kinds capacities first_edges edge_targets;
      sources = sources;
      first_sinks = first_sinks;
      sinks = sinks;
      delays = if_timed terms delays;
      criticalities = if_timed terms criticalities;
      terms = terms;
    }

-- the job in the tables that a caller lends
abbrev pub job_in : JobTables → Job
job_in t =
    let b = t.block in
    job_of b.kind.now b.capacity.now b.first_edge.now b.edge_target.now t.source.now t.first_sink.now t.sink.now t.delay.now
    t.criticality.now t.terms
