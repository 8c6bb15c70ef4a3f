-- Whole records in a part of the log: where the words of the next one stand, and what is passed and left when a loop goes from record to record.
--     Ahead, ahead                              the words of the record at a place
--     Passing, passing-none, -next, -end        records that were passed, and those that are left
--     record_fits, -path, -nodes, -passed       the record at a place, as the code reads it
--     Walking, walking_none, -nodes, -more, -all, -can  the loops that go from record to record
-- Assumes nothing.
use mathlib.Core.List.{List, [], ◌∷◌, ◌++◌, append_assoc, append-nil}
use mathlib.Core.Path.{◌≡◌, refl, sym, ◌∙◌, ap}
use Prim.Native.Nat.{ℕ, ◌+◌, ◌-◌, ◌≤◌, ◌<◌}
use native.Mathlib.Nat.{add_assoc}
use native.Mathlib.Omega.{arith}
use lib.ListN.{length, get_or, take, length-append}
use lib.Seq.{length-take-le, take-take, take-add, take_at, drop_at, drop-drop, get_or-take, get_or-drop, slice, length-slice}
use Rattle.negotiation.specs.Records.{Record, words, encode, decode, path_nodes}
use Rattle.job.specs.Steps.{AllBelow}
use Rattle.negotiation.specs.Steps.{Dropped, CanDrop, Whole}
use Rattle.negotiation.proofs.RecordLaws.{encode-append, path_nodes-append, words-length}
use Rattle.job.proofs.MarkLaws.{below_left, below_right}
use Rattle.negotiation.proofs.LeavingLaws.{can-drop-left, can-drop_rest}

-- ---- a part of a part

module _ (at until : ℕ) (log : List ℕ) where
  get_d_part : (i : ℕ) → at + i < until → get_or log (at + i) 0 ≡ get_or (slice at until log) i 0
  get_d_part i l = sym (get_or-drop at (take until log) i 0 ∙ get_or-take until log (at + i) 0 l)

  part_of : (i j : ℕ) → at + j ≤ until → until ≤ length log → slice (at + i) (at + j) log ≡ slice i j (slice at until log)
  part_of i j l h =
      let long : length (take at (take until log)) ≡ at = length-take-le at (take until log) (rw (length-take-le until log h) (omega arith)) in
      rw (← take-take (at + j) until log l, take-add at j (take until log), ← drop-drop i at, drop_at (take at (take until log)) (take j (slice at until log)) at long)

-- ---- the words of the record at a place

pub record Ahead (at until : ℕ) (log : List ℕ) (r : Record) (rest : List Record) : Type 0 where
  pub long-at : get_or log (at + 5) 0 ≡ length r.path
  pub fits : at + 6 + length r.path ≤ until
  pub path-at : slice (at + 6) (at + 6 + length r.path) log ≡ r.path
  pub after : slice (at + 6 + length r.path) until log ≡ encode rest

pub ahead : {at until : ℕ} {log : List ℕ} (r : Record) (rest : List Record) → at ≤ until → until ≤ length log → slice at until log ≡ encode (r ∷ rest) → Ahead at until log r rest
unfolding words encode
ahead {at} {until} {log} r rest l h e =
    let size : length (slice at until log) ≡ until - at = length-slice at until log h in
    let long : length (words r) ≡ 6 + length r.path = words-length r in
    let all : length (slice at until log) ≡ length (words r) + length (encode rest) = ap length e ∙ length-append (words r) (encode rest) in
    record {
      long-at = get_d_part at until log 5 (omega arith) ∙ rw e;
      fits = omega arith;
      path-at = rw (add_assoc at 6 (length r.path)) (part_of at until log 6 (6 + length r.path) (omega arith) h ∙ rw (e, take_at (words r) (encode rest) (6 + length r.path) long));
      after = rw (add_assoc at 6 (length r.path), ← drop-drop (6 + length r.path) at) (rw e (drop_at (words r) (encode rest) (6 + length r.path) long));
    }

-- ---- records that were passed, and those that are left

pub record Passing (n from until : ℕ) (log : List ℕ) (at : ℕ) (passed rest : List Record) : Type 0 where
  pub here : at ≡ from + length (encode passed)
  pub most : at ≤ until
  pub short : until ≤ length log
  pub left : slice at until log ≡ encode rest
  pub below : AllBelow n (path_nodes rest)

pub passing-none : (n from until : ℕ) (log : List ℕ) → from ≤ until → until ≤ length log → Whole n (slice from until log) → Passing n from until log from [] (decode (slice from until log))
unfolding encode
passing-none n from until log l h w = record { here = omega arith; most = l; short = h; left = sym w.whole; below = w.nodes-below }

-- while places are left, there is a record
pub record Next (n from until : ℕ) (log : List ℕ) (at : ℕ) (passed rest : List Record) : Type 0 where
  pub first : Record
  pub later : List Record
  pub is : rest ≡ first ∷ later
  pub words_at_lem : Ahead at until log first later
  pub nodes : AllBelow n first.path
  pub moved : Passing n from until log (at + 6 + length first.path) (passed ++ (first ∷ [])) later

passing_first : {n from until at : ℕ} {log : List ℕ} {passed : List Record} (r : Record) (rest : List Record) → Passing n from until log at passed (r ∷ rest) → Next n from until log at passed (r ∷ rest)
unfolding encode path_nodes
passing_first {n} {from} {until} {at} {log} {passed} r rest p =
    let a : Ahead at until log r rest = ahead r rest p.most p.short p.left in
    let join : encode (passed ++ (r ∷ [])) ≡ encode passed ++ (words r ++ []) = encode-append passed (r ∷ []) in
    let long : length (encode (passed ++ (r ∷ []))) ≡ length (encode passed) + length (words r) = ap length join ∙ length-append (encode passed) (words r ++ []) ∙ rw append-nil in
    let size : length (words r) ≡ 6 + length r.path = words-length r in
    record {
      first = r;
      later = rest;
      is = refl;
      words_at_lem = a;
      nodes = below_left r.path (path_nodes rest) p.below;
      moved = record {
        here = omega (arith, p.here);
        most = a.fits;
        short = p.short;
        left = a.after;
        below = below_right r.path (path_nodes rest) p.below;
      };
    }

pub passing-next : {n from until at : ℕ} {log : List ℕ} {passed : List Record} (rest : List Record) → at < until → Passing n from until log at passed rest → Next n from until log at passed rest
unfolding encode
passing-next {n} {from} {until} {at} {log} [] l p =
    let size : length (slice at until log) ≡ until - at = length-slice at until log p.short in
    absurd (omega (arith, ap length p.left))
passing-next (r ∷ rest) l p = passing_first r rest p

-- at the end none is left
pub passing-end : {n from until at : ℕ} {log : List ℕ} {passed : List Record} (rest : List Record) → until ≤ at → Passing n from until log at passed rest → rest ≡ []
passing-end [] l p = refl
passing-end (r ∷ rest) l p =
    let next = passing_first r rest p in
    absurd (omega (arith, next.words_at_lem.fits))

-- ---- nodes of one record more

pub nodes-more : (passed : List Record) (r : Record) → path_nodes (passed ++ (r ∷ [])) ≡ path_nodes passed ++ r.path
unfolding path_nodes
nodes-more passed r = path_nodes-append passed (r ∷ []) ∙ rw append-nil

pub records-more : (passed later : List Record) (r : Record) → passed ++ (r ∷ later) ≡ passed ++ (r ∷ []) ++ later
records-more passed later r = sym (append_assoc passed (r ∷ []) later)

-- ---- the record at a place, as the code reads it

module _ {n from until at : ℕ} {log : List ℕ} {passed : List Record} (rest : List Record) (l : at < until) (p : Passing n from until log at passed rest) where
  pub record_fits : at + 6 + get_or log (at + 5) 0 ≤ until
  record_fits = let next = passing-next rest l p in rw next.words_at_lem.long-at next.words_at_lem.fits

  pub record_path_lem : slice (at + 6) (at + 6 + get_or log (at + 5) 0) log ≡ (passing-next rest l p).first.path
  record_path_lem = let next = passing-next rest l p in rw next.words_at_lem.long-at next.words_at_lem.path-at

  pub record_nodes : AllBelow n (slice (at + 6) (at + 6 + get_or log (at + 5) 0) log)
  record_nodes = rw record_path_lem (passing-next rest l p).nodes

  pub record_passed : Passing n from until log (at + 6 + get_or log (at + 5) 0) (passed ++ ((passing-next rest l p).first ∷ [])) (passing-next rest l p).later
  record_passed = let next = passing-next rest l p in rw next.words_at_lem.long-at next.moved

-- ---- the loops that go from record to record

-- records were passed, and what the loop does is done for their nodes
pub record Walking (n from until : ℕ) (log : List ℕ) (at : ℕ) (Done : List ℕ → Type 0) : Type 0 where
  pub passed : List Record
  pub rest : List Record
  pub walk : Passing n from until log at passed rest
  pub all : decode (slice from until log) ≡ passed ++ rest
  pub done : Done (path_nodes passed)

pub walking_none : {Done : List ℕ → Type 0} (n from until : ℕ) (log : List ℕ) → from ≤ until → until ≤ length log → Whole n (slice from until log) → Done [] → Walking n from until log from Done
unfolding path_nodes
walking_none n from until log l h w d = record {
  passed = [];
  rest = decode (slice from until log);
  walk = passing-none n from until log l h w;
  all = refl;
  done = d;
}

module _ {n from until at : ℕ} {log : List ℕ} {Done : List ℕ → Type 0} (s : Walking n from until log at Done) where
  -- the nodes of all records: those of the records that were passed, of the next one, and others
  pub walking_nodes : (l : at < until) → path_nodes (decode (slice from until log)) ≡ path_nodes s.passed ++ (slice (at + 6) (at + 6 + get_or log (at + 5) 0) log ++ path_nodes (passing-next s.rest l s.walk).later)
  unfolding path_nodes
  walking_nodes l =
      let next = passing-next s.rest l s.walk in
      ap path_nodes (s.all ∙ ap (λ (rs : List Record). s.passed ++ rs) next.is)
      ∙ path_nodes-append s.passed (next.first ∷ next.later)
      ∙ ap (λ (xs : List ℕ). path_nodes s.passed ++ (xs ++ path_nodes next.later)) (sym (record_path_lem s.rest l s.walk))

  -- a record more, for whose nodes it is done too
  pub walking_more :
      {Later : List ℕ → Type 0} → at < until → ((xs : List ℕ) → Done xs → Later (xs ++ slice (at + 6) (at + 6 + get_or log (at + 5) 0) log))
      → Walking n from until log (at + 6 + get_or log (at + 5) 0) Later
  walking_more l more =
      let next = passing-next s.rest l s.walk in
      record {
        passed = s.passed ++ (next.first ∷ []);
        rest = next.later;
        walk = record_passed s.rest l s.walk;
        all = s.all ∙ ap (λ (rs : List Record). s.passed ++ rs) next.is ∙ records-more s.passed next.later next.first;
        done = rw (nodes-more s.passed next.first, ← record_path_lem s.rest l s.walk) (more (path_nodes s.passed) s.done);
      }

  pub walking_all : until ≤ at → Done (path_nodes (decode (slice from until log)))
  walking_all l = rw (s.all, passing-end s.rest l s.walk, append-nil) s.done

-- the nodes of the next record can be dropped, where those of all could
pub walking_can :
    {from until at : ℕ} {log users marks users_now marks_now : List ℕ} (s : Walking (length marks) from until log at (λ xs. Dropped (length marks) xs users marks users_now marks_now))
    → at < until → CanDrop (length marks) (path_nodes (decode (slice from until log))) users marks
    → CanDrop (length marks) (slice (at + 6) (at + 6 + get_or log (at + 5) 0) log) users_now marks_now
walking_can {from} {until} {at} {log} {users} {marks} {users_now} {marks_now} s l can =
    let here = slice (at + 6) (at + 6 + get_or log (at + 5) 0) log in
    let after = path_nodes (passing-next s.rest l s.walk).later in
    can-drop-left users_now marks_now here after (can-drop_rest (here ++ after) (rw (walking_nodes s l) at can) s.done)
