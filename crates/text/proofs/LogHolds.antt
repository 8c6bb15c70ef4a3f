-- The writer never refuses an accepted job's log by 10: its records are whole and sound, and their iterations never fall.
-- Assumes nothing.
use mathlib.Core.Bool.{true, false}
use mathlib.Core.List.{List, [], ◌∷◌, ◌++◌}
use mathlib.Core.Path.{◌≡◌, refl, sym, ◌∙◌}
use Prim.Native.Nat.{ℕ, zero, suc, ◌+◌, ◌*◌, ◌-◌, ◌≤◌, ◌<◌}
use native.Mathlib.Nat.{not-suc-le-zero, le_of_suc-le-suc}
use native.Mathlib.Omega.{arith}
use lib.Dec.{ltb}
use lib.ListN.{length, get_or, take, drop, length-append, get_or-append}
use lib.Seq.{take-append_seam, drop-append_seam, get_or-drop}
use borrow.Author.Tests.{lt-ltb, le-leb, lt-leb, eq-eqb}
use Rattle.price.specs.Bounds.{nodes_most, limit_most}
use Rattle.price.specs.Lists.{every}
use Rattle.price.proofs.TestLaws.{both_true}
use Rattle.price.proofs.ListLaws.{every-all}
use Rattle.search.proofs.BlockLaws.{kinds-few}
use Rattle.job.specs.Job.{Job, nodes, nets}
use Rattle.job.specs.Tables.{SoundJob}
use Rattle.negotiation.specs.Routable.{Routable}
use Rattle.negotiation.specs.Records.{Record, words, encode}
use Rattle.negotiation.specs.Machine.{has_sinks, first_state, iteration_after, records_after}
use Rattle.job.specs.Join.{joined}
use Rattle.negotiation.specs.Outcome.{RouteReply, route_reply}
use Rattle.negotiation.proofs.JoinedHolds.{joined-routable}
use Rattle.negotiation.proofs.RecordLaws.{words-length, records-few}
use Rattle.negotiation.specs.Runs.{All}
use Rattle.negotiation.proofs.FilterLaws.{all_map}
use Rattle.text.specs.Routes.{Named, path_words, path_sound, record_sound, sound_up_to, sound_words, log_sound, writable}
use Rattle.text.proofs.TurnedLaws.{Turned, TurnedUpTo, iteration-turned, run_turned, Accepted, accepted_fits, accepted, SomeSinks, joined_some, joined_passes, run_some}

-- ---- iterations that never fall

-- the records' iterations from `last` on
abbrev Rising : ℕ → List Record → Type 0
Rising last [] = Unit {0}
Rising last (r ∷ rs) = (last ≤ r.iteration) × Rising r.iteration rs

rising_same : (t last : ℕ) (rs : List Record) → last ≤ t → All (λ r. r.iteration ≡ t) rs → Rising last rs
rising_same t last [] l h = tt
rising_same t last (r ∷ rs) l h = (omega (arith, h.0), rising_same t r.iteration rs (omega (arith, h.0)) h.1)

-- records of a later iteration go on rising
rising_append :
    (t last : ℕ) (rs ss : List Record) → last ≤ t → Rising last rs → All (λ r. r.iteration ≤ t) rs → All (λ r. r.iteration ≡ t) ss
    → Rising last (rs ++ ss)
rising_append t last [] ss l up most same = rising_same t last ss l same
rising_append t last (r ∷ rs) ss l up most same = (up.0, rising_append t r.iteration rs ss most.0 up.1 most.1 same)

run_rising : (j : Job) → Routable j → (m : ℕ) → m ≤ j.terms.limit → Rising 0 (records_after j (first_state j) m)
unfolding records_after
run_rising j rests zero h = tt
run_rising j rests (suc m) h =
    rising_append (m + 1) 0 (records_after j (first_state j) m) (iteration_after j (first_state j) m).records (omega arith)
    (run_rising j rests m (omega arith))
    (all_map (TurnedUpTo j m) (λ r. r.iteration ≤ m + 1) (λ r b. omega (arith, b.t_most, b.turned.iteration-is))
    (records_after j (first_state j) m) (run_turned j rests m (omega arith)))
    (all_map (Turned j (m + 1)) (λ r. r.iteration ≡ m + 1) (λ r b. b.iteration-is) (iteration_after j (first_state j) m).records
    (iteration-turned j rests m h))

-- ---- sound records

-- what makes a record sound, besides its iteration's place, by what it may name
record Writable (named : Named) (r : Record) : Type 0 where
  iteration-least : 1 ≤ r.iteration
  iteration-most : r.iteration ≤ limit_most
  net_passes : named.net r.net ≡ true
  path-long : 2 ≤ length r.path
  path-short : length r.path ≤ nodes_most
  path_nodes_lem : (k : ℕ) → k < length r.path → get_or r.path k 0 < named.nodes
  path-end : get_or r.path (length r.path - 1) 0 ≡ r.sink

-- every net that makes turns and every node may be named
pub record Passes (named : Named) (j : Job) : Type 0 where
  pub nets_pass : (i : ℕ) → i < nets j → has_sinks j i ≡ true → named.net i ≡ true
  pub nodes_pass : nodes j ≤ named.nodes

turn-writable : (named : Named) (j : Job) → Routable j → Passes named j → (m : ℕ) → m ≤ j.terms.limit → (r : Record) → TurnedUpTo j m r → Writable named r
turn-writable named j rests passes m h r b =
    let few : nodes j ≤ nodes_most = kinds-few j.block.kinds rests.block-sound.kinds_sound_lem in
    record {
      iteration-least = omega (arith, b.t_least, b.turned.iteration-is);
      iteration-most = omega (arith, b.t_most, b.turned.iteration-is, rests.limit_few);
      net_passes = passes.nets_pass r.net b.turned.net-below b.turned.has_sinks_lem;
      path-long = b.turned.path-long;
      path-short = omega (arith, b.turned.path-short);
      path_nodes_lem = λ k l. omega (arith, b.turned.path_nodes_lem k l, passes.nodes_pass);
      path-end = b.turned.path-end;
    }

-- a record's words, with any after them
module _ (named : Named) (r : Record) (ws : List ℕ) where
  long : length (words r ++ ws) ≡ 6 + length r.path + length ws
  long = omega (arith, length-append (words r) ws, words-length r)

  path-there : path_words (length r.path) (words r ++ ws) ≡ r.path
  unfolding words
  path-there = take-append_seam r.path ws

  past_there : drop (6 + length r.path) (words r ++ ws) ≡ ws
  past_there = rw (← words-length r) (drop-append_seam (words r) ws)

  -- the last word of the path
  end-there : 1 ≤ length r.path → get_or (words r ++ ws) (5 + length r.path) 0 ≡ get_or r.path (length r.path - 1) 0
  unfolding words
  end-there h =
      let place : 5 + length r.path ≡ 6 + (length r.path - 1) = omega arith in
      rw (place, ← get_or-drop 6 (words r ++ ws) (length r.path - 1) 0)
      (get_or-append r.path ws 0 (length r.path - 1) (omega arith))

  record_sound_lem : (last : ℕ) → Writable named r → last ≤ r.iteration → record_sound named last (words r ++ ws) ≡ true
  unfolding record_sound path_sound words
  record_sound_lem last w up =
      let whole = long in
      let long-enough = w.path-long in
      let nodes-there : every (λ v. ltb v named.nodes) (path_words (length r.path) (words r ++ ws)) ≡ true =
      rw path-there (every-all (λ v. ltb v named.nodes) r.path (λ k l. lt-ltb (get_or r.path k 0) named.nodes (w.path_nodes_lem k l))) in
      both_true (le-leb 6 (length (words r ++ ws)) (omega arith))
      (both_true
      (both_true (both_true (le-leb 1 r.iteration w.iteration-least) (le-leb r.iteration limit_most w.iteration-most)) (le-leb last r.iteration up))
      (both_true w.net_passes
      (both_true
      (both_true
      (both_true (le-leb 2 (length r.path) w.path-long) (le-leb (length r.path) nodes_most w.path-short))
      (le-leb (6 + length r.path) (length (words r ++ ws)) (omega arith)))
      (both_true nodes-there
      (eq-eqb (get_or (words r ++ ws) (5 + length r.path) 0) r.sink (end-there (omega arith) ∙ w.path-end))))))

-- ---- sound logs

module _ (named : Named) where
  none-sound : (last : ℕ) → record_sound named last [] ≡ false
  unfolding record_sound
  none-sound last = rw (lt-leb 6 0 (omega arith))

  -- with as many steps as there are records all words are sound
  all_sound : (k last : ℕ) (rs : List Record) → length rs ≤ k → Rising last rs → All (Writable named) rs → sound_up_to named k last (encode rs) ≡ length (encode rs)
  unfolding sound_up_to encode words
  all_sound zero last [] h up all = refl
  all_sound (suc k) last [] h up all = rw (none-sound last)
  all_sound zero last (r ∷ rs) h up all = absurd (not-suc-le-zero h)
  all_sound (suc k) last (r ∷ rs) h up all =
      rw (
        record_sound_lem named r (encode rs) last all.0 up.0,
        past_there named r (encode rs),
        all_sound k r.iteration rs (le_of_suc-le-suc h) up.1 all.1,
      )
      (sym (long named r (encode rs)))

  log_sound_lem : (rs : List Record) → 1 ≤ length rs → Rising 0 rs → All (Writable named) rs → log_sound named (encode rs) ≡ true
  unfolding log_sound sound_words
  log_sound_lem rs some up all =
      let few = records-few rs in
      both_true (le-leb 1 (length (encode rs)) (omega arith))
      (eq-eqb (sound_up_to named (length (encode rs)) 0 (encode rs)) (length (encode rs)) (all_sound (length (encode rs)) 0 rs few up all))

  pub reply_sound : (j : Job) → Routable j → SomeSinks j → Passes named j → (r : RouteReply) → Accepted j r → log_sound named (take r.used r.log) ≡ true
  reply_sound j rests one passes r a =
      let m : ℕ = a.whole in
      let rs : List Record = records_after j (first_state j) (suc m) in
      let some : 1 ≤ length rs = run_some j rests one a.reached m a.below in
      rw a.words_are
      (log_sound_lem rs some (run_rising j rests (suc m) a.below)
      (all_map (TurnedUpTo j (suc m)) (Writable named) (λ q b. turn-writable named j rests passes (suc m) a.below q b) rs (run_turned j rests (suc m) a.below)))

-- the writer takes an accepted job's log
pub accepted_sound :
    (j : Job) (work log : List ℕ) → SoundJob j → 8 * nodes j ≤ length work → (route_reply j work log).refusal ≡ []
    → log_sound (writable j.sources) (take (route_reply j work log).used (route_reply j work log).log) ≡ true
accepted_sound j work log sound enough e =
    let rests : Routable (joined j) = joined-routable j sound (accepted_fits j work log sound e) in
    let few : nodes (joined j) ≤ nodes_most = kinds-few (joined j).block.kinds rests.block-sound.kinds_sound_lem in
    reply_sound (writable j.sources) (joined j) rests (joined_some j sound) (record { nets_pass = joined_passes j; nodes_pass = few }) (route_reply j work log)
    (accepted j work log sound enough e)
