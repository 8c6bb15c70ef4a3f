-- Document 01, "Job text" and rows 1 to 4 of "Numbers for a stopped call", with 15 of request 2.9: what the reader answers and leaves in
-- the tables.
-- Assumes nothing.
use Rattle.std.specs.Prelude.{Result, Ok, Err, List, [], ◌∷◌, ◌++◌, ℕ, ◌+◌, leb, ltb, length, drop}
use Rattle.price.specs.Test.{choose}
use Rattle.job.specs.Job.{Job, nodes, nets}
use Rattle.job.specs.Tables.{exceeds}
use Rattle.job.specs.declared.Terms.{Terms}
use Rattle.text.specs.JobText.{Part, part, stopped, read_text}
use Rattle.text.specs.declared.JobCounts.{JobCounts}
use Rattle.text.specs.declared.ReadRefusal.{ReadRefusal}
use Rattle.text.specs.declared.ReadRefusal.TheVariants.{Malformed, BeyondBounds, WrongOrder, ShortTable, TooLarge}

-- the nine tables that the reader is lent
pub record Tables : Type 0 where
  pub kinds : List ℕ
  pub capacities : List ℕ
  pub first_edges : List ℕ
  pub edge_targets : List ℕ
  pub sources : List ℕ
  pub first_sinks : List ℕ
  pub sinks : List ℕ
  pub delays : List ℕ
  pub criticalities : List ℕ

abbrev pub tables_of : List ℕ → List ℕ → List ℕ → List ℕ → List ℕ → List ℕ → List ℕ → List ℕ → List ℕ → Tables
tables_of kinds capacities first_edges edge_targets sources first_sinks sinks delays criticalities =
    record {
      kinds = kinds;
      capacities = capacities;
      first_edges = first_edges;
      edge_targets = edge_targets;
      sources = sources;
      first_sinks = first_sinks;
      sinks = sinks;
      delays = delays;
      criticalities = criticalities;
    }

-- row 4: "lowest table too short for the job", 0 if each is long enough; by the job's counts and the tables' lengths
unfoldable pub lowest_short : (n edges nets count kinds capacities first_edges edge_targets sources first_sinks sinks : ℕ) → ℕ
lowest_short n edges nets count kinds capacities first_edges edge_targets sources first_sinks sinks =
    choose (ltb kinds n) 1
    (choose (ltb capacities n) 2
    (choose (ltb first_edges (n + 1)) 3
    (choose (ltb edge_targets edges) 4
    (choose (ltb sources nets) 5
    (choose (ltb first_sinks (nets + 1)) 6
    (choose (ltb sinks count) 7 0))))))

-- of tables 9 and 10, which an untimed job has without entries: "In timed jobs alone 4 and 5 cover both."
unfoldable pub short_times : (delays_needed criticalities_needed delays criticalities : ℕ) → ℕ
short_times delays_needed criticalities_needed delays criticalities =
    choose (ltb delays delays_needed) 9 (choose (ltb criticalities criticalities_needed) 10 0)

unfoldable pub short_untimed : Job → Tables → ℕ
short_untimed j t =
    lowest_short (nodes j) (length j.block.edge_targets) (nets j) (length j.sinks)
    (length t.kinds) (length t.capacities) (length t.first_edges) (length t.edge_targets)
    (length t.sources) (length t.first_sinks) (length t.sinks)

unfoldable pub short_table : Job → Tables → ℕ
short_table j t =
    choose (leb 1 (short_untimed j t)) (short_untimed j t)
    (short_times (length j.delays) (length j.criticalities) (length t.delays) (length t.criticalities))

-- "entries beyond the counts stay"
unfoldable pub written_over : List ℕ → List ℕ → List ℕ
written_over new old = new ++ drop (length new) old

unfoldable pub tables_with : Job → Tables → Tables
tables_with j t =
    tables_of (written_over j.block.kinds t.kinds) (written_over j.block.capacities t.capacities)
    (written_over j.block.first_edges t.first_edges) (written_over j.block.edge_targets t.edge_targets)
    (written_over j.sources t.sources) (written_over j.first_sinks t.first_sinks) (written_over j.sinks t.sinks)
    (written_over j.delays t.delays) (written_over j.criticalities t.criticalities)

-- the refusal's numbers, none where the text is taken; nodes, edges, nets, sinks and those of the terms, none after a refusal;
-- and the tables afterwards
pub record ReadReply : Type 0 where
  pub refusal : List ℕ
  pub numbers : List ℕ
  pub tables : Tables

-- rows 1 to 4: every table is left "untouched"
abbrev pub not_read : List ℕ → Tables → ReadReply
not_read refusal t = record { refusal = refusal; numbers = []; tables = t }

-- limit, first, up, down, step, rule, k, and 1 for a timed job, else 0
abbrev pub terms_numbers : Terms → List ℕ
terms_numbers t =
    t.limit ∷ t.tuning.first ∷ t.tuning.up ∷ t.tuning.down ∷ t.tuning.step ∷ t.rule ∷ t.until ∷ choose t.timed 1 0 ∷ []

-- "The reader returns nodes, edges, nets, sinks and limit.", and by request 2.1 "these too, as with any later such line"
unfoldable pub job_numbers : Job → List ℕ
job_numbers j = nodes j ∷ length j.block.edge_targets ∷ nets j ∷ length j.sinks ∷ terms_numbers j.terms

-- the reply that gives a job back
abbrev pub read_whole : Job → Tables → ReadReply
read_whole j t = record { refusal = []; numbers = job_numbers j; tables = tables_with j t }

-- the reply for a job that was read: "4 follows a sound text", and 15 comes "after 4 in the reader"
unfoldable pub stored_reply : Job → Tables → ReadReply
stored_reply j t =
    choose (leb 1 (short_table j t)) (not_read (4 ∷ short_table j t ∷ []) t)
    (choose (exceeds (nodes j) j.terms) (not_read (15 ∷ nodes j ∷ j.terms.limit ∷ []) t)
    (read_whole j t))

abbrev pub reply_to : Part Job → Tables → ReadReply
reply_to (stopped k at) t = not_read (k ∷ at ∷ []) t
reply_to (part j at rest) t = stored_reply j t

-- what the reader answers to any text and leaves: "The reader returns nodes, edges, nets, sinks and limit.", or the numbers of rows 1 to 4
-- or of 15
unfoldable pub read_reply : List ℕ → Tables → ReadReply
read_reply text t = reply_to (read_text text) t

-- 01's numbers for each refusal
abbrev pub refusal_numbers : ReadRefusal → List ℕ
refusal_numbers (Malformed at) = 1 ∷ at ∷ []
refusal_numbers (BeyondBounds at) = 2 ∷ at ∷ []
refusal_numbers (WrongOrder at) = 3 ∷ at ∷ []
refusal_numbers (ShortTable table) = 4 ∷ table ∷ []
refusal_numbers (TooLarge count limit) = 15 ∷ count ∷ limit ∷ []

-- those of either answer
abbrev pub read_refusal : Result JobCounts ReadRefusal → List ℕ
read_refusal (Ok c) = []
read_refusal (Err r) = refusal_numbers r

abbrev pub read_numbers : Result JobCounts ReadRefusal → List ℕ
read_numbers (Ok c) = c.nodes ∷ c.edges ∷ c.nets ∷ c.sinks ∷ terms_numbers c.terms
read_numbers (Err r) = []

-- the answer with the tables at the call's end
abbrev pub read_reply_of : Result JobCounts ReadRefusal → Tables → ReadReply
read_reply_of r t = record { refusal = read_refusal r; numbers = read_numbers r; tables = t }
