-- What the tests before a turn refuse, and what they have shown where they refuse nothing: the tables, the list of sinks and the numbers keep their rules.
-- Assumes nothing.
use mathlib.Core.Bool.{true}
use mathlib.Core.List.{List, []}
use mathlib.Core.Path.{◌≡◌}
use Prim.Native.Nat.{ℕ, ◌*◌, ◌≤◌}
use native.Mathlib.Omega.{arith}
use lib.ListN.{length}
use Rattle.price.specs.Test.{choose}
use Rattle.price.specs.Bounds.{nodes_most}
use Rattle.price.proofs.TestLaws.{by_test}
use Rattle.search.specs.Block.{Block, block_of, nodes}
use Rattle.search.specs.Tables.{faulty_table, delays_sound, Sound}
use Rattle.search.specs.Turn.{Congestion}
use Rattle.search.specs.Replies.{refusal_of, sink_list_sound, faulty_with_delays, faulty_with_sinks}
use Rattle.search.specs.Priceable.{PricesReady}
use Rattle.std.specs.Prelude.{Ok}
use Rattle.search.specs.Replies.{tested}
use Rattle.search.proofs.TestedLaws.{tested_none}
use Rattle.search.proofs.BlockLaws.{sound_of, kinds-few}
use Rattle.search.proofs.ReadyLaws.{refusal-none, fault-none, delays-kept, passed_ready}

-- ---- the tests before a turn

-- where neither a table nor the list of sinks is faulty, each keeps its rule
no_fault : (b : Block) (c : Congestion) (sinks : List ℕ) → faulty_with_sinks b c sinks ≡ 0 → (faulty_with_delays b c ≡ 0) × (sink_list_sound (nodes b) sinks ≡ true)
unfolding faulty_with_sinks
no_fault b c sinks e =
    let rest : choose (sink_list_sound (nodes b) sinks) (faulty_with_delays b c) 7 ≡ 0 = (fault-none (faulty_table b) _ e).1 in
    by_test (sink_list_sound (nodes b) sinks)
    (λ s. (rw s at rest, s))
    (λ s. absurd (let z : ◌≡◌ {A = ℕ} 7 0 = rw s at rest in omega arith))

module _ (ks cs fs ts : List ℕ) (c : Congestion) (sinks : List ℕ) where
  path-kept :
      faulty_with_sinks (block_of ks cs fs ts) c sinks ≡ 0
      → Sound (block_of ks cs fs ts) × (c.weighting.timed ≡ true → delays_sound (length ks) c.delays ≡ true) × (sink_list_sound (length ks) sinks ≡ true)
  path-kept e =
      let z = no_fault (block_of ks cs fs ts) c sinks e in
      let k = delays-kept (block_of ks cs fs ts) c z.0 in
      (sound_of (block_of ks cs fs ts) k.0, k.1, z.1)

  pub path-few : {u : Unit {0}} → tested (faulty_with_sinks (block_of ks cs fs ts) c sinks) ≡ Ok u → length ks ≤ nodes_most
  path-few e = kinds-few ks (path-kept (tested_none _ e)).0.kinds_sound_lem

  -- where nothing is refused every rule is kept
  pub path-ready :
      (marks work : List ℕ) → refusal_of (faulty_with_sinks (block_of ks cs fs ts) c sinks) (length ks) c marks (length work) ≡ []
      → PricesReady ks cs c marks × (Sound (block_of ks cs fs ts) × ((8 * length ks ≤ length work) × (sink_list_sound (length ks) sinks ≡ true)))
  path-ready marks work none =
      let passed = refusal-none _ _ _ _ _ none in
      let kept = path-kept passed.table_sound in
      (passed_ready ks cs fs ts c marks kept.0 kept.1 passed, (kept.0, (passed.work-long, kept.2)))
