-- The words of a lent record apart from its path: what their tests say, and where the log has them.
--     Frame, frame_of, frame_holds     the record that the words begin with
--     path_read, last_read             its path and its last node, by their places in the log
--     FrameAt, frame_at, no_frame      the record at a place of the log, and its refusal
--     frame_ends                       what is left to test after all but the sink
--     frame_tests, frame_by            the tests that the code makes say the same
-- Assumes nothing.
use mathlib.Core.Bool.{Bool, true, false}
use mathlib.Core.List.{List}
use mathlib.Core.Path.{◌≡◌, sym, ◌∙◌, ap}
use Prim.Native.Nat.{ℕ, ◌+◌, ◌-◌, ◌≤◌, ◌<◌}
use native.Mathlib.Nat.{add-zero}
use native.Mathlib.Omega.{arith}
use lib.Dec.{eqb, leb}
use lib.ListN.{length, get_or, take, drop, length-drop}
use lib.Seq.{slice, get_or-take, get_or-drop, drop-drop}
use borrow.Author.Tests.{eqb-true, eq-eqb, leb-true, le-leb}
use Rattle.price.specs.Test.{both}
use Rattle.price.proofs.TestLaws.{by_test, both_left, both_right, true≢false}
use Rattle.price.proofs.ListLaws.{part_slice}
use Rattle.negotiation.specs.Resume.{record_path, whole_record, ends_at}
use Rattle.negotiation.specs.ResumeSteps.{frame_follows}
use Rattle.negotiation.proofs.FollowLaws.{whole_long, path-long}

-- ---- the record that the words begin with

pub record Frame (most iteration net : ℕ) (ws : List ℕ) : Type 0 where
  pub is_whole : whole_record ws ≡ true
  pub two : 2 ≤ get_or ws 5 0
  pub few : get_or ws 5 0 ≤ most
  pub iteration-is : get_or ws 0 0 ≡ iteration
  pub net-is : get_or ws 1 0 ≡ net
  pub ends : get_or (record_path ws) (length (record_path ws) - 1) 0 ≡ get_or ws 2 0

module _ {most iteration net : ℕ} {ws : List ℕ} where
  pub frame_of : frame_follows most iteration net ws ≡ true → Frame most iteration net ws
  unfolding frame_follows ends_at
  frame_of t =
      let end : Bool = ends_at (get_or ws 2 0) (record_path ws) in
      let of_net_lem : Bool = both (eqb (get_or ws 1 0) net) end in
      let of-iteration : Bool = both (eqb (get_or ws 0 0) iteration) of_net_lem in
      let few : Bool = both (leb (get_or ws 5 0) most) of-iteration in
      let two : Bool = both (leb 2 (get_or ws 5 0)) few in
      let with_two : two ≡ true = both_right (whole_record ws) two t in
      let with-few : few ≡ true = both_right (leb 2 (get_or ws 5 0)) few with_two in
      let with-iteration : of-iteration ≡ true = both_right (leb (get_or ws 5 0) most) of-iteration with-few in
      let with-net : of_net_lem ≡ true = both_right (eqb (get_or ws 0 0) iteration) of_net_lem with-iteration in
      record {
        is_whole = both_left (whole_record ws) two t;
        two = leb-true 2 (get_or ws 5 0) (both_left (leb 2 (get_or ws 5 0)) few with_two);
        few = leb-true (get_or ws 5 0) most (both_left (leb (get_or ws 5 0) most) of-iteration with-few);
        iteration-is = eqb-true (get_or ws 0 0) iteration (both_left (eqb (get_or ws 0 0) iteration) of_net_lem with-iteration);
        net-is = eqb-true (get_or ws 1 0) net (both_left (eqb (get_or ws 1 0) net) end with-net);
        ends = eqb-true (get_or (record_path ws) (length (record_path ws) - 1) 0) (get_or ws 2 0) (both_right (eqb (get_or ws 1 0) net) end with-net);
      }

  pub frame_holds : Frame most iteration net ws → frame_follows most iteration net ws ≡ true
  unfolding frame_follows ends_at
  frame_holds f =
      rw (
        f.is_whole,
        le-leb 2 (get_or ws 5 0) f.two,
        le-leb (get_or ws 5 0) most f.few,
        eq-eqb (get_or ws 0 0) iteration f.iteration-is,
        eq-eqb (get_or ws 1 0) net f.net-is,
      )
      (eq-eqb (get_or (record_path ws) (length (record_path ws) - 1) 0) (get_or ws 2 0) f.ends)

-- the last node of a whole record's path
path-last : (ws : List ℕ) → whole_record ws ≡ true → 2 ≤ get_or ws 5 0 → get_or (record_path ws) (length (record_path ws) - 1) 0 ≡ get_or ws (5 + get_or ws 5 0) 0
path-last ws whole two =
    let below : get_or ws 5 0 - 1 < get_or ws 5 0 = omega arith in
    let place : 6 + (get_or ws 5 0 - 1) ≡ 5 + get_or ws 5 0 = omega arith in
    ap (λ (k : ℕ). get_or (record_path ws) (k - 1) 0) (path-long ws whole)
    ∙ get_or-take (get_or ws 5 0) (drop 6 ws) (get_or ws 5 0 - 1) 0 below
    ∙ get_or-drop 6 ws (get_or ws 5 0 - 1) 0
    ∙ ap (λ (k : ℕ). get_or ws k 0) place

-- ---- the record at a place of the log

module _ (log : List ℕ) (at : ℕ) where
  -- how many nodes its path has
  abbrev pub path_count : ℕ
  path_count = get_or log (at + 5) 0

  pub path_read : record_path (drop at log) ≡ slice (at + 6) (at + 6 + path_count) log
  path_read =
      let long : at + 6 + path_count - (at + 6) ≡ path_count = omega arith in
      rw (get_or-drop at log 5 0, drop-drop 6 at log)
      (sym (ap (λ (k : ℕ). take k (drop (at + 6) log)) long) ∙ part_slice (at + 6) (at + 6 + path_count) log)

  first_read : get_or (drop at log) 0 0 ≡ get_or log at 0
  first_read = get_or-drop at log 0 0 ∙ ap (λ (k : ℕ). get_or log k 0) (add-zero at)

  last_read :
      whole_record (drop at log) ≡ true → 2 ≤ get_or (drop at log) 5 0
      → get_or (record_path (drop at log)) (length (record_path (drop at log)) - 1) 0 ≡ get_or log (at + 5 + path_count) 0
  last_read whole two =
      let five = get_or-drop at log 5 0 in
      let place : at + (5 + get_or (drop at log) 5 0) ≡ at + 5 + path_count = omega arith in
      path-last (drop at log) whole two ∙ get_or-drop at log (5 + get_or (drop at log) 5 0) 0 ∙ ap (λ (k : ℕ). get_or log k 0) place

  whole_read : 6 + path_count ≤ length log - at → whole_record (drop at log) ≡ true
  unfolding whole_record
  whole_read h =
      rw (length-drop at log, get_or-drop at log 5 0, le-leb 6 (length log - at) (omega arith), le-leb (6 + path_count) (length log - at) h)

pub record FrameAt (most iteration net : ℕ) (log : List ℕ) (at : ℕ) : Type 0 where
  pub long : at + 6 + path_count log at ≤ length log
  pub two : 2 ≤ path_count log at
  pub few : path_count log at ≤ most
  pub iteration-is : get_or log at 0 ≡ iteration
  pub net-is : get_or log (at + 1) 0 ≡ net
  pub ends : get_or log (at + 5 + path_count log at) 0 ≡ get_or log (at + 2) 0

module _ (most iteration net : ℕ) (log : List ℕ) (at : ℕ) where
  pub frame_at : frame_follows most iteration net (drop at log) ≡ true → FrameAt most iteration net log at
  frame_at t =
      let f : Frame most iteration net (drop at log) = frame_of t in
      let long = whole_long (drop at log) f.is_whole in
      let short = length-drop at log in
      let five = get_or-drop at log 5 0 in
      let two = f.two in
      let few = f.few in
      record {
        long = omega arith;
        two = omega arith;
        few = omega arith;
        iteration-is = sym (first_read log at) ∙ f.iteration-is;
        net-is = sym (get_or-drop at log 1 0) ∙ f.net-is;
        ends = sym (last_read log at f.is_whole two) ∙ f.ends ∙ get_or-drop at log 2 0;
      }

  pub no_frame : (FrameAt most iteration net log at → ⊥) → false ≡ frame_follows most iteration net (drop at log)
  no_frame off =
      by_test (frame_follows most iteration net (drop at log))
      (λ t. absurd (off (frame_at t)))
      (λ t. sym t)

  pub frame_ends :
      6 + path_count log at ≤ length log - at → 2 ≤ path_count log at → path_count log at ≤ most → get_or log at 0 ≡ iteration → get_or log (at + 1) 0 ≡ net
      → eqb (get_or log (at + 5 + path_count log at) 0) (get_or log (at + 2) 0) ≡ frame_follows most iteration net (drop at log)
  unfolding frame_follows ends_at
  frame_ends long two few of-iteration of_net_lem =
      let five = get_or-drop at log 5 0 in
      let many : 2 ≤ get_or (drop at log) 5 0 = omega arith in
      let whole : whole_record (drop at log) ≡ true = whole_read log at long in
      rw (
        whole,
        last_read log at whole many,
        five,
        first_read log at,
        get_or-drop at log 1 0,
        get_or-drop at log 2 0,
        le-leb 2 (path_count log at) two,
        le-leb (path_count log at) most few,
        eq-eqb (get_or log at 0) iteration of-iteration,
        eq-eqb (get_or log (at + 1) 0) net of_net_lem,
      )

  -- the tests that the code makes, in its order
  abbrev pub frame_tests : Bool
  frame_tests =
      both (leb 6 (length log - at))
      (both (leb 2 (path_count log at))
      (both (leb (path_count log at) most)
      (both (leb (6 + path_count log at) (length log - at))
      (both (eqb (get_or log at 0) iteration)
      (both (eqb (get_or log (at + 1) 0) net) (eqb (get_or log (at + 5 + path_count log at) 0) (get_or log (at + 2) 0)))))))

  frame-tested : FrameAt most iteration net log at → frame_tests ≡ true
  frame-tested f =
      let long = f.long in
      rw (
        le-leb 6 (length log - at) (omega arith),
        le-leb 2 (path_count log at) f.two,
        le-leb (path_count log at) most f.few,
        le-leb (6 + path_count log at) (length log - at) (omega arith),
        eq-eqb (get_or log at 0) iteration f.iteration-is,
        eq-eqb (get_or log (at + 1) 0) net f.net-is,
      )
      (eq-eqb (get_or log (at + 5 + path_count log at) 0) (get_or log (at + 2) 0) f.ends)

  tested-frame : frame_tests ≡ true → frame_follows most iteration net (drop at log) ≡ true
  tested-frame t =
      let end : Bool = eqb (get_or log (at + 5 + path_count log at) 0) (get_or log (at + 2) 0) in
      let with_net : Bool = both (eqb (get_or log (at + 1) 0) net) end in
      let with_iteration : Bool = both (eqb (get_or log at 0) iteration) with_net in
      let with_long : Bool = both (leb (6 + path_count log at) (length log - at)) with_iteration in
      let with_few : Bool = both (leb (path_count log at) most) with_long in
      let with_two : Bool = both (leb 2 (path_count log at)) with_few in
      let two : with_two ≡ true = both_right (leb 6 (length log - at)) with_two t in
      let few : with_few ≡ true = both_right (leb 2 (path_count log at)) with_few two in
      let long : with_long ≡ true = both_right (leb (path_count log at) most) with_long few in
      let of-iteration : with_iteration ≡ true = both_right (leb (6 + path_count log at) (length log - at)) with_iteration long in
      let of-net : with_net ≡ true = both_right (eqb (get_or log at 0) iteration) with_net of-iteration in
      sym
      (frame_ends
      (leb-true (6 + path_count log at) (length log - at) (both_left (leb (6 + path_count log at) (length log - at)) with_iteration long))
      (leb-true 2 (path_count log at) (both_left (leb 2 (path_count log at)) with_few two))
      (leb-true (path_count log at) most (both_left (leb (path_count log at) most) with_long few))
      (eqb-true (get_or log at 0) iteration (both_left (eqb (get_or log at 0) iteration) with_net of-iteration))
      (eqb-true (get_or log (at + 1) 0) net (both_left (eqb (get_or log (at + 1) 0) net) end of-net)))
      ∙ both_right (eqb (get_or log (at + 1) 0) net) end of-net

  -- what the tests say is what is asked
  pub frame_by : {r : Bool} → r ≡ frame_tests → r ≡ frame_follows most iteration net (drop at log)
  frame_by e =
      e
      ∙ by_test frame_tests
      (λ t. t ∙ sym (tested-frame t))
      (λ n. n ∙ no_frame (λ f. true≢false (sym (frame-tested f) ∙ n)))
