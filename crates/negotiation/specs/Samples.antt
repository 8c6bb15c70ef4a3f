-- Document 01, "Sample jobs": the starred jobs, given as tables; and one of request 2.9, timed and not.
-- Assumes nothing.
use Rattle.std.specs.Prelude.{Bool, true, false, List, [], ◌∷◌, ◌++◌, ℕ, replicate}
use Rattle.price.specs.Samples.{Sample}
use Rattle.price.specs.Tuning.{plain}
use Rattle.search.specs.Block.{block_of}
use Rattle.job.specs.Job.{Job, plain_terms, job_of}
use Rattle.negotiation.specs.Outcome.{RouteReply, words_used, route_reply}

-- job B, under a limit
abbrev pub job_b : ℕ → Job
job_b limit =
    record {
      block =
          block_of (0 ∷ 0 ∷ 4 ∷ 5 ∷ 1 ∷ 1 ∷ [])
          (1 ∷ 1 ∷ 1 ∷ 1 ∷ 1 ∷ 1 ∷ [])
          (0 ∷ 2 ∷ 3 ∷ 5 ∷ 6 ∷ 6 ∷ 6 ∷ [])
          (2 ∷ 3 ∷ 2 ∷ 4 ∷ 5 ∷ 4 ∷ []);
      sources = 0 ∷ 1 ∷ [];
      first_sinks = 0 ∷ 1 ∷ 2 ∷ [];
      sinks = 4 ∷ 5 ∷ [];
      delays = [];
      criticalities = [];
      terms = plain_terms limit;
    }

-- job C: one net from 0, edges 0-1, 1-2, 1-3, sinks listed 3, 2
abbrev pub job_c : Job
job_c =
    record {
      block = block_of (0 ∷ 4 ∷ 1 ∷ 1 ∷ []) (1 ∷ 1 ∷ 1 ∷ 1 ∷ []) (0 ∷ 1 ∷ 3 ∷ 3 ∷ 3 ∷ []) (1 ∷ 2 ∷ 3 ∷ []);
      sources = 0 ∷ [];
      first_sinks = 0 ∷ 2 ∷ [];
      sinks = 3 ∷ 2 ∷ [];
      delays = [];
      criticalities = [];
      terms = plain_terms 1;
    }

-- job C without 1-3
abbrev pub job_cut : Job
job_cut =
    record {
      block = block_of (0 ∷ 4 ∷ 1 ∷ 1 ∷ []) (1 ∷ 1 ∷ 1 ∷ 1 ∷ []) (0 ∷ 1 ∷ 2 ∷ 2 ∷ 2 ∷ []) (1 ∷ 2 ∷ []);
      sources = 0 ∷ [];
      first_sinks = 0 ∷ 2 ∷ [];
      sinks = 3 ∷ 2 ∷ [];
      delays = [];
      criticalities = [];
      terms = plain_terms 1;
    }

-- edges 0-1, 0-2, 1-3, 2-3, source 0, sink 3
abbrev pub job_diamond : Job
job_diamond =
    record {
      block = block_of (0 ∷ 4 ∷ 4 ∷ 1 ∷ []) (1 ∷ 1 ∷ 1 ∷ 1 ∷ []) (0 ∷ 2 ∷ 3 ∷ 4 ∷ 4 ∷ []) (1 ∷ 2 ∷ 3 ∷ 3 ∷ []);
      sources = 0 ∷ [];
      first_sinks = 0 ∷ 1 ∷ [];
      sinks = 3 ∷ [];
      delays = [];
      criticalities = [];
      terms = plain_terms 1;
    }

-- request 2.9: one net with a delay for each node and a criticality for each sink
abbrev pub job_weighed : Bool → Job
job_weighed timed =
    job_of (0 ∷ 4 ∷ 5 ∷ 1 ∷ 3 ∷ 1 ∷ [])
    (1 ∷ 2 ∷ 2 ∷ 2 ∷ 2 ∷ 2 ∷ [])
    (0 ∷ 2 ∷ 5 ∷ 8 ∷ 8 ∷ 9 ∷ 9 ∷ [])
    (1 ∷ 2 ∷ 3 ∷ 4 ∷ 5 ∷ 1 ∷ 3 ∷ 5 ∷ 5 ∷ [])
    (0 ∷ [])
    (0 ∷ 3 ∷ [])
    (5 ∷ 3 ∷ 4 ∷ [])
    (0 ∷ 900 ∷ 10 ∷ 0 ∷ 5 ∷ 1000 ∷ [])
    (2 ∷ 9 ∷ 9 ∷ [])
    (record { limit = 2; tuning = plain; rule = 1; until = 1; timed = timed })

-- what a call with enough work memory and so long a log answers and logs: the refusal's numbers; iteration, turns, words used; these words
abbrev pub answer_of : RouteReply → List ℕ
answer_of r = r.refusal ++ (r.iteration ∷ r.turns ∷ r.used ∷ words_used r)

abbrev pub answer : Job → ℕ → List ℕ
answer j room = answer_of (route_reply j (replicate 48 7) (replicate room 7))

-- "Accepted, iteration 2, 4 turns, 36 words."
abbrev pub settled : Sample
settled =
    record {
      stated =
          2 ∷ 4 ∷ 36
          ∷ 1 ∷ 0 ∷ 4 ∷ 4000 ∷ 0 ∷ 3 ∷ 0 ∷ 2 ∷ 4
          ∷ 1 ∷ 1 ∷ 5 ∷ 4000 ∷ 0 ∷ 3 ∷ 1 ∷ 2 ∷ 5
          ∷ 2 ∷ 0 ∷ 4 ∷ 6000 ∷ 0 ∷ 3 ∷ 0 ∷ 3 ∷ 4
          ∷ 2 ∷ 1 ∷ 5 ∷ 6000 ∷ 0 ∷ 3 ∷ 1 ∷ 2 ∷ 5
          ∷ [];
      defined = answer (job_b 2) 40;
    }

-- "B with limit 1: 9,1,1; 18 words."
abbrev pub limited : Sample
limited =
    record {
      stated =
          9 ∷ 1 ∷ 1 ∷ 1 ∷ 2 ∷ 18
          ∷ 1 ∷ 0 ∷ 4 ∷ 4000 ∷ 0 ∷ 3 ∷ 0 ∷ 2 ∷ 4
          ∷ 1 ∷ 1 ∷ 5 ∷ 4000 ∷ 0 ∷ 3 ∷ 1 ∷ 2 ∷ 5
          ∷ [];
      defined = answer (job_b 1) 40;
    }

-- "B with a 35-word log: 8,2,3; 27 words."
abbrev pub filled : Sample
filled =
    record {
      stated =
          8 ∷ 2 ∷ 3 ∷ 2 ∷ 3 ∷ 27
          ∷ 1 ∷ 0 ∷ 4 ∷ 4000 ∷ 0 ∷ 3 ∷ 0 ∷ 2 ∷ 4
          ∷ 1 ∷ 1 ∷ 5 ∷ 4000 ∷ 0 ∷ 3 ∷ 1 ∷ 2 ∷ 5
          ∷ 2 ∷ 0 ∷ 4 ∷ 6000 ∷ 0 ∷ 3 ∷ 0 ∷ 3 ∷ 4
          ∷ [];
      defined = answer (job_b 2) 35;
    }

-- "paths 0,1,3 (4000), 1,2 (2000)"
abbrev pub nearest_first : Sample
nearest_first =
    record {
      stated =
          1 ∷ 2 ∷ 17
          ∷ 1 ∷ 0 ∷ 3 ∷ 4000 ∷ 0 ∷ 3 ∷ 0 ∷ 1 ∷ 3
          ∷ 1 ∷ 0 ∷ 2 ∷ 2000 ∷ 0 ∷ 2 ∷ 1 ∷ 2
          ∷ [];
      defined = answer job_c 40;
    }

-- "Without 1-3: 7,0,0."
abbrev pub cut_off : Sample
cut_off = record { stated = 7 ∷ 0 ∷ 0 ∷ 0 ∷ 0 ∷ 0 ∷ []; defined = answer job_cut 40 }

-- "path 0,1,3"
abbrev pub lowest_first : Sample
lowest_first =
    record {
      stated =
          1 ∷ 1 ∷ 9
          ∷ 1 ∷ 0 ∷ 3 ∷ 4000 ∷ 0 ∷ 3 ∷ 0 ∷ 1 ∷ 3
          ∷ [];
      defined = answer job_diamond 40;
    }

-- "Sinks go by falling criticality, ties as listed"
abbrev pub critical_first : Sample
critical_first =
    record {
      stated =
          1 ∷ 3 ∷ 26
          ∷ 1 ∷ 0 ∷ 3 ∷ 15000 ∷ 0 ∷ 3 ∷ 0 ∷ 2 ∷ 3
          ∷ 1 ∷ 0 ∷ 4 ∷ 818400 ∷ 0 ∷ 3 ∷ 0 ∷ 1 ∷ 4
          ∷ 1 ∷ 0 ∷ 5 ∷ 216000 ∷ 0 ∷ 2 ∷ 1 ∷ 5
          ∷ [];
      defined = answer (job_weighed true) 60;
    }

-- the same job untimed
abbrev pub unweighed : Sample
unweighed =
    record {
      stated =
          1 ∷ 3 ∷ 25
          ∷ 1 ∷ 0 ∷ 4 ∷ 3900 ∷ 0 ∷ 3 ∷ 0 ∷ 1 ∷ 4
          ∷ 1 ∷ 0 ∷ 5 ∷ 2000 ∷ 0 ∷ 2 ∷ 1 ∷ 5
          ∷ 1 ∷ 0 ∷ 3 ∷ 2000 ∷ 0 ∷ 2 ∷ 1 ∷ 3
          ∷ [];
      defined = answer (job_weighed false) 60;
    }

unfoldable pub samples : List Sample
samples = settled ∷ limited ∷ filled ∷ nearest_first ∷ cut_off ∷ lowest_first ∷ critical_first ∷ unweighed ∷ []
