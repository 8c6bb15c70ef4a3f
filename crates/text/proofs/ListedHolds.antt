-- The B lines of a sound log's routes text list exactly the path steps of each net's latest records, by net and within a net in log order,
-- and the J lines after them exactly the nets of table 5 that are joined into another, by net.
--     routes-listed                 what a sound log's routes text lists
--     read_once                     a text's lines give one list of branches and one of joined nets
--     text_once                     no other text lists the same
--     listed_only, listed-all       a branch is listed exactly where a record of its net's latest iteration has it as a step of its path
--     joined_only, joined-all       a net is listed exactly where another is the first of its source
-- Assumes nothing.
use mathlib.Core.Bool.{true}
use mathlib.Core.List.{List, [], ◌∷◌, ◌++◌, map, map-append, Memᴰ}
use mathlib.Core.Path.{◌≡◌, refl, sym, ◌∙◌, ap, subst}
use Prim.Native.Nat.{ℕ, ◌-◌, ◌≤◌}
use native.Mathlib.Omega.{arith}
use lib.Dec.{leb, eqb}
use lib.ListN.{length, drop, length-append, length-map}
use lib.Seq.{get_or_at}
use borrow.Author.Tests.{leb-true}
use Rattle.price.specs.Bounds.{nodes_most}
use Rattle.price.proofs.TestLaws.{both_left}
use Rattle.negotiation.specs.Records.{Record, decode}
use Rattle.job.specs.Tables.{sources_sound}
use Rattle.job.proofs.JobLaws.{sources-few}
use Rattle.text.specs.Routes.{Named, log_sound, sound_words, writable, Branch, last_iteration, branch_text, Join, route_joins, join_text, routes_text}
use Rattle.text.specs.Listed.{RouteLines, ended, branch, join, steps_by_net, Listed, StepOf, JoinOf}
use Rattle.text.proofs.RecordTestLaws.{record_length}
use Rattle.text.proofs.LogLaws.{sound_after, first_record, found_all}
use Rattle.text.proofs.RouteTextLaws.{writable-within, writable-few}
use Rattle.text.proofs.RouteLineLaws.{branch_fields, Printable, lines_read, none_read, first_branch, first_join, lines-printed}
use Rattle.text.proofs.JoinListLaws.{joins_only, joins-all, join_printable}
use Rattle.text.proofs.StepListLaws.{branches_are, steps_only, steps_all}
use Rattle.text.proofs.ShortRecordLaws.{decode_first, all_short, step_printable}

-- ---- the last record

-- a list with a record has a last one
split_last : (r : Record) (rs : List Record) → (earlier : List Record) × (last : Record) × (r ∷ rs ≡ earlier ++ (last ∷ []))
split_last r [] = ([], r, refl)
split_last r (q ∷ rs) =
    let s = split_last q rs in
    (r ∷ s.0, s.1, ap (λ (l : List Record). r ∷ l) s.2)

last_of : (earlier : List Record) (last : Record) → last_iteration (earlier ++ (last ∷ [])) ≡ last.iteration
unfolding last_iteration
last_of earlier last =
    rw (map-append (λ (r : Record). r.iteration) earlier (last ∷ []))
    (get_or_at (map (λ (r : Record). r.iteration) earlier) last.iteration [] 0 (length (earlier ++ (last ∷ [])) - 1)
    (omega (arith, length-append earlier (last ∷ []), length-map earlier (λ (r : Record). r.iteration))))

-- ---- the text lists what the log asks

-- the numbers of its branches are short enough for a field
pub steps_printable :
    (sources log : List ℕ) → sources_sound nodes_most sources ≡ true → log_sound (writable sources) log ≡ true
    → (b : Branch) → Memᴰ b (steps_by_net (length sources) (decode log)) → Printable (branch_fields b)
unfolding sound_words
steps_printable sources log table t b m =
    let named : Named = writable sources in
    let o = steps_only (length sources) (decode log) b m in
    rw o.branch-is
    (step_printable named o.turn (writable-few sources table) (omega arith) (all_short named (length log) 0 log (omega arith) (found_all named log t) o.turn o.logged)
    o.place o.within)

-- the routes text of a sound log
pub routes-listed : (sources log : List ℕ) → sources_sound nodes_most sources ≡ true → log_sound (writable sources) log ≡ true → Listed sources log (routes_text sources (decode log))
unfolding log_sound sound_words routes_text
routes-listed sources log table t =
    let named : Named = writable sources in
    let some : 1 ≤ length log = leb-true 1 (length log) (both_left (leb 1 (length log)) (eqb (sound_words named log) (length log)) t) in
    let all : sound_after named 0 log ≡ length log = found_all named log t in
    let s = split_last (first_record log) (decode (drop (record_length log) log)) in
    let is : decode log ≡ s.0 ++ (s.1 ∷ []) = decode_first named 0 log all some ∙ s.2 in
    let iteration : last_iteration (decode log) ≡ s.1.iteration = ap last_iteration is ∙ last_of s.0 s.1 in
    record {
      earlier = s.0;
      last = s.1;
      last-is = is;
      rest = branch_text (steps_by_net (length sources) (decode log)) ++ join_text (route_joins sources);
      text_is = rw (iteration, branches_are (length sources) (decode log));
      lines =
          lines_read (route_joins sources) (λ p m. join_printable p (joins_only sources p m) (sources-few nodes_most sources table))
          (steps_by_net (length sources) (decode log)) (steps_printable sources log table t);
    }

-- ---- reading again

-- the branches and joined nets read off a text are determined by it
pub read_once : {bytes : List ℕ} {bs cs : List Branch} {ps qs : List Join} → RouteLines bytes bs ps → RouteLines bytes cs qs → (bs ≡ cs) × (ps ≡ qs)
read_once ended q =
    let r = none_read q in
    (sym r.0, sym r.1)
read_once (branch {b = b} e p) q =
    let r = first_branch e q in
    let s = read_once p r.1 in
    (ap (λ (l : List Branch). b ∷ l) s.0 ∙ sym r.2, s.1)
read_once (join {p = j} e p) q =
    let r = first_join e q in
    let s = read_once p r.1 in
    (sym r.2, ap (λ (l : List Join). j ∷ l) s.1 ∙ sym r.3)

-- a text that lists what the log and table 5 ask is the routes text: no other lists the same
pub text_once : {sources log text : List ℕ} → Listed sources log text → text ≡ routes_text sources (decode log)
unfolding routes_text
text_once {sources} {log} {text} l =
    let iteration : last_iteration (decode log) ≡ l.last.iteration = ap last_iteration l.last-is ∙ last_of l.earlier l.last in
    l.text_is ∙ rw (iteration, branches_are (length sources) (decode log), lines-printed l.lines)

-- ---- line by line, of the text

-- the branches and the joined nets that are read after the R line
module _ {sources log text : List ℕ} (l : Listed sources log text) {bs : List Branch} {ps : List Join} (p : RouteLines l.rest bs ps) where
  -- each branch is a step of a record of its net's latest iteration
  pub listed_only : (b : Branch) → Memᴰ b bs → StepOf (decode log) b
  listed_only b m = steps_only (length sources) (decode log) b (subst (Memᴰ b) (read_once p l.lines).0 m)

  -- and of a sound log each such step is among them
  pub listed-all : log_sound (writable sources) log ≡ true → (b : Branch) → StepOf (decode log) b → Memᴰ b bs
  unfolding sound_words
  listed-all t b s =
      let named : Named = writable sources in
      let passes = (all_short named (length log) 0 log (omega arith) (found_all named log t) s.turn s.logged).net_passes in
      subst (Memᴰ b) (read_once l.lines p).0 (steps_all (length sources) (decode log) b s (writable-within sources s.turn.net passes))

  -- each joined net has the first of its source before it
  pub joined_only : (q : Join) → Memᴰ q ps → JoinOf sources q
  joined_only q m = joins_only sources q (subst (Memᴰ q) (read_once p l.lines).1 m)

  -- and each such net is among them
  pub joined-all : (q : Join) → JoinOf sources q → Memᴰ q ps
  joined-all q j = subst (Memᴰ q) (read_once l.lines p).1 (joins-all sources q j)
