-- What the tests before a search have shown, where they refuse nothing, and the search's reply.
-- Assumes nothing.
use mathlib.Core.List.{List, []}
use mathlib.Core.Path.{◌≡◌, sym, ◌∙◌}
use Prim.Native.Nat.{ℕ, ◌*◌, ◌≤◌, ◌<◌}
use native.Mathlib.Omega.{arith}
use lib.Dec.{leb}
use lib.ListN.{length}
use borrow.Author.Tests.{leb-false}
use Rattle.price.specs.Bounds.{nodes_most}
use Rattle.price.proofs.TestLaws.{true≢false, by_test}
use Rattle.search.specs.Block.{Block, block_of}
use Rattle.search.specs.Tables.{faulty_table, Sound}
use Rattle.search.specs.Distance.{distances}
use Rattle.search.specs.Turn.{Congestion, congestion_of, price_at}
use Rattle.search.specs.Replies.{cleared, refusal_of, search_refusal, SearchReply, search_reply, timed_search_reply, faulty_with_delays, search_reply_of}
use Rattle.std.specs.Prelude.{Result, Ok, Err, IsErr}
use Rattle.search.specs.Replies.{tested}
use Rattle.search.specs.declared.Refusal.{Refusal}
use Rattle.search.specs.declared.Refusal.TheVariants.{BadTable, ShortWork, BadNumber, TooLarge}
use Rattle.search.specs.Priceable.{PricesReady}
use Rattle.search.proofs.TestedLaws.{tested_none}
use Rattle.search.proofs.BlockLaws.{sound_of, kinds-few}
use Rattle.search.proofs.ReadyLaws.{refusal-none, delays-kept, passed_ready}

-- ---- what the tests before a search have shown

pub few-nodes : (ks cs fs ts : List ℕ) (c : Congestion) {u : Unit {0}} → tested (faulty_with_delays (block_of ks cs fs ts) c) ≡ Ok u → length ks ≤ nodes_most
few-nodes ks cs fs ts c sound =
    let b : Block = block_of ks cs fs ts in
    kinds-few ks (sound_of b (delays-kept b c (tested_none (faulty_with_delays b c) sound)).0).kinds_sound_lem

-- where nothing is refused, a sound block and numbers within their bounds
pub passed_search :
    (ks cs fs ts : List ℕ) (c : Congestion) (marks : List ℕ) (entries : ℕ) → refusal_of (faulty_with_delays (block_of ks cs fs ts) c) (length ks) c marks entries ≡ []
    → PricesReady ks cs c marks × Sound (block_of ks cs fs ts) × (8 * length ks ≤ entries)
passed_search ks cs fs ts c marks entries none =
    let p = refusal-none _ _ c marks entries none in
    let kept = delays-kept (block_of ks cs fs ts) c p.table_sound in
    let sound = sound_of (block_of ks cs fs ts) kept.0 in
    (passed_ready ks cs fs ts c marks sound kept.1 p, sound, p.work-long)

-- ---- the search's reply

module _ (ks cs fs ts : List ℕ) (c : Congestion) (marks work : List ℕ) where
  -- a refusal leaves the work slice as it was
  pub search_refused :
      (r : Result (Unit {0}) Refusal) → IsErr r → search_refusal r ≡ refusal_of (faulty_with_delays (block_of ks cs fs ts) c) (length ks) c marks (length work)
      → search_reply_of r work ≡ timed_search_reply (block_of ks cs fs ts) c marks work
  unfolding timed_search_reply
  search_refused (Ok u) bad due = absurd (true≢false (sym bad))
  search_refused (Err (BadTable table)) bad due = rw (← due)
  search_refused (Err (ShortWork needed)) bad due = rw (← due)
  search_refused (Err (BadNumber place)) bad due = rw (← due)
  search_refused (Err (TooLarge n)) bad due = rw (← due)

  pub search_done_lem :
      {work' : List ℕ} → [] ≡ refusal_of (faulty_with_delays (block_of ks cs fs ts) c) (length ks) c marks (length work)
      → work' ≡ cleared (length ks) (distances (block_of ks cs fs ts) (price_at (block_of ks cs fs ts) c) marks) work
      → search_reply_of (Ok tt) work' ≡ timed_search_reply (block_of ks cs fs ts) c marks work
  unfolding timed_search_reply
  search_done_lem due end = rw (← due, end)

-- ---- a search that weighs no delay

-- no delays are tested
no_delays : (b : Block) (factor : ℕ) (hs os : List ℕ) → faulty_with_delays b (congestion_of factor hs os) ≡ faulty_table b
unfolding faulty_with_delays
no_delays b factor hs os =
    by_test (leb 1 (faulty_table b))
    (λ q. rw q)
    (λ q. let none : faulty_table b < 1 = leb-false _ _ q in let is : faulty_table b ≡ 0 = omega arith in rw (q, is))

pub untimed_reply : (b : Block) (factor : ℕ) (hs os marks work : List ℕ) {x : SearchReply} → x ≡ timed_search_reply b (congestion_of factor hs os) marks work → x ≡ search_reply b (congestion_of factor hs os) marks work
unfolding timed_search_reply search_reply
untimed_reply b factor hs os marks work e = e ∙ rw (no_delays b factor hs os)
