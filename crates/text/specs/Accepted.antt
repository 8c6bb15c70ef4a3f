-- Demand 2: "The reader accepts exactly the texts that 01 allows.", said of the reader's whole reply: with 4, 15 and the tables.
-- Assumes nothing.
use Rattle.std.specs.Prelude.{true, false, List, [], ◌∷◌, ◌≡◌, ℕ, ◌≤◌}
use Rattle.job.specs.Job.{Job, nodes}
use Rattle.job.specs.Tables.{exceeds, SoundJob}
use Rattle.text.specs.Printed.{PrintedAs}
use Rattle.text.specs.ReadReplies.{Tables, short_table, not_read, read_whole, read_reply}

-- a sound text: a printed form of this job, whose tables keep their rules
pub record SoundText (text : List ℕ) (j : Job) : Type 0 where
  -- "Tables are sound when each numbered one has its length and keeps its rule."
  pub sound : SoundJob j
  pub printed : PrintedAs text j

-- the text is one that 01 allows, with the requests after it, and this is its job
pub record AllowedText (text : List ℕ) (j : Job) : Type 0 where
  pub written : SoundText text j
  -- "A timed job has at most 1,024 nodes and a limit of at most 40."
  pub within : exceeds (nodes j) j.terms ≡ false

-- the reader has taken the text: it is an allowed one, every table is long enough for its job, and the reply gives that job back
pub record AcceptedText (text : List ℕ) (t : Tables) : Type 0 where
  pub job : Job
  pub allowed : AllowedText text job
  pub long-enough : short_table job t ≡ 0
  pub given_back : read_reply text t ≡ read_whole job t

pub record AcceptsExactly (text : List ℕ) (t : Tables) : Type 0 where
  -- where the reader refuses nothing, it has taken an allowed text
  pub only : (read_reply text t).refusal ≡ [] → AcceptedText text t
  -- every allowed text is taken for its job, where every table is long enough
  pub all : (j : Job) → AllowedText text j → short_table j t ≡ 0 → read_reply text t ≡ read_whole j t
  -- "4 follows a sound text": where one is too short, this is the refusal, also of a timed job beyond its limits
  pub short : (j : Job) → SoundText text j → 1 ≤ short_table j t → read_reply text t ≡ not_read (4 ∷ short_table j t ∷ []) t
  -- request 2.9: "number 15 with the node count and the limit when a timed job exceeds either, .. after 4 in the reader"
  pub too_large :
      (j : Job) → SoundText text j → exceeds (nodes j) j.terms ≡ true → short_table j t ≡ 0
      → read_reply text t ≡ not_read (15 ∷ nodes j ∷ j.terms.limit ∷ []) t
