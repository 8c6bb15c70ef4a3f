-- Where nothing is refused, every test before a search or a turn has passed, and what prices it keeps its bounds.
-- Assumes nothing.
use mathlib.Core.Bool.{Bool, true, false}
use mathlib.Core.List.{List, [], ◌∷◌}
use mathlib.Core.Path.{◌≡◌, refl}
use Prim.Native.Nat.{ℕ, ◌*◌, ◌≤◌, ◌<◌}
use native.Mathlib.Omega.{arith}
use lib.Dec.{leb, ltb}
use lib.ListN.{length}
use borrow.Author.Tests.{leb-true, leb-false, ltb-false}
use Rattle.price.specs.Test.{choose, both}
use Rattle.price.specs.Bounds.{factor_most, criticality_most, timed_nodes_most}
use Rattle.price.proofs.TestLaws.{by_test}
use Rattle.search.specs.Block.{Block, nodes, block_of}
use Rattle.search.specs.Tables.{Sound, faulty_table, delays_sound}
use Rattle.search.specs.Turn.{Congestion}
use Rattle.search.specs.Replies.{work_needed, node_sound, bad_node, too_many, bad_criticality, refusal_of, faulty_with_delays}
use Rattle.search.specs.Priceable.{PricesReady}
use Rattle.search.proofs.PassLaws.{sound-below}

-- ---- where nothing is refused

-- where nothing is refused, every test has passed
pub record Passed (table n : ℕ) (c : Congestion) (marks : List ℕ) (entries : ℕ) : Type 0 where
  pub table_sound : table ≡ 0
  pub work-long : 8 * n ≤ entries
  pub nodes-sound : (v : ℕ) → v < n → node_sound c marks v ≡ true
  pub factor_most_lem : c.factor ≤ factor_most
  pub timed_few : c.weighting.timed ≡ true → n ≤ timed_nodes_most
  pub criticality_most_lem : c.weighting.timed ≡ true → c.weighting.criticality ≤ criticality_most

-- a test that is only made in a timed turn
timed_not : {timed t : Bool} → both timed t ≡ false → timed ≡ true → t ≡ false
timed_not e t = rw t at e

-- where a refusal is not due, its test has failed, and the rest is not due either
not_due : (t : Bool) (k : ℕ) (ks rest : List ℕ) → choose t (k ∷ ks) rest ≡ [] → t ≡ false
not_due true k ks rest e = absurd (let z : ◌≡◌ {A = ℕ} 0 1 = cc in omega arith)
not_due false k ks rest e = refl

rest_not_due : (t : Bool) (k : ℕ) (ks rest : List ℕ) → choose t (k ∷ ks) rest ≡ [] → rest ≡ []
rest_not_due true k ks rest e = absurd (let z : ◌≡◌ {A = ℕ} 0 1 = cc in omega arith)
rest_not_due false k ks rest e = e

pub refusal-none : (table n : ℕ) (c : Congestion) (marks : List ℕ) (entries : ℕ) → refusal_of table n c marks entries ≡ [] → Passed table n c marks entries
unfolding refusal_of
refusal-none table n c marks entries e =
    let e₁ = rest_not_due (leb 1 table) _ _ _ e in
    let e₂ = rest_not_due (too_many c.weighting n) _ _ _ e₁ in
    let e₃ = rest_not_due (ltb entries (work_needed n)) _ _ _ e₂ in
    let e₄ = rest_not_due (ltb (bad_node n c marks) n) _ _ _ e₃ in
    let e₅ = rest_not_due (ltb factor_most c.factor) _ _ _ e₄ in
    let sound : table < 1 = leb-false 1 table (not_due (leb 1 table) _ _ _ e) in
    record {
      table_sound = omega arith;
      work-long = ltb-false entries (work_needed n) (not_due (ltb entries (work_needed n)) _ _ _ e₂);
      nodes-sound = sound-below n c marks (ltb-false (bad_node n c marks) n (not_due (ltb (bad_node n c marks) n) _ _ _ e₃));
      factor_most_lem = ltb-false factor_most c.factor (not_due (ltb factor_most c.factor) _ _ _ e₄);
      timed_few = λ t. ltb-false timed_nodes_most n (timed_not (not_due (too_many c.weighting n) _ _ _ e₁) t);
      criticality_most_lem = λ t. ltb-false criticality_most c.weighting.criticality (timed_not (not_due (bad_criticality c.weighting) _ _ _ e₅) t);
    }

-- where a table that comes first is not faulty, neither is what comes after it
pub fault-none : (table rest : ℕ) → choose (leb 1 table) table rest ≡ 0 → (table ≡ 0) × (rest ≡ 0)
fault-none table rest e =
    by_test (leb 1 table)
    (λ q.
    let some : 1 ≤ table = leb-true _ _ q in
    let none : table ≡ 0 = rw q at e in
    absurd (omega arith))
    (λ q.
    let none : table < 1 = leb-false _ _ q in
    (omega arith, rw q at e))

-- where neither a table nor a timed turn's delays are faulty, each keeps its rule
pub delays-kept : (b : Block) (c : Congestion) → faulty_with_delays b c ≡ 0 → (faulty_table b ≡ 0) × (c.weighting.timed ≡ true → delays_sound (nodes b) c.delays ≡ true)
unfolding faulty_with_delays
delays-kept b c e =
    let z = fault-none (faulty_table b) _ e in (
      z.0,
      λ t.
          by_test (delays_sound (nodes b) c.delays)
          (λ s. s)
          (λ s. absurd (let n : ◌≡◌ {A = ℕ} 9 0 = rw (t, s) at z.1 in omega arith)),
    )

pub passed_ready : (ks cs fs ts : List ℕ) (c : Congestion) (marks : List ℕ) {table entries : ℕ} → Sound (block_of ks cs fs ts) → (c.weighting.timed ≡ true → delays_sound (length ks) c.delays ≡ true) → Passed table (length ks) c marks entries → PricesReady ks cs c marks
passed_ready ks cs fs ts c marks s d p =
    record {
      kinds_sound_lem = s.kinds_sound_lem;
      capacities_sound_lem = s.capacities_sound_lem;
      nodes-sound = p.nodes-sound;
      factor_most_lem = p.factor_most_lem;
      weighable = λ t. record { few = p.timed_few t; delays_sound_lem = d t; criticality_most_lem = p.criticality_most_lem t };
    }
