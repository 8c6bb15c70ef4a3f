-- Whatever a final tree of a sound log has, its records may name.
-- Assumes nothing.
use mathlib.Core.Bool.{true}
use mathlib.Core.List.{List, [], ◌∷◌, Memᴰ}
use mathlib.Core.Logic.{⊎_elim}
use mathlib.Core.Path.{◌≡◌, refl, sym, subst}
use Prim.Native.Nat.{ℕ, ◌<◌}
use native.Mathlib.Omega.{arith}
use lib.Dec.{eqb, ltb}
use lib.ListN.{length}
use borrow.Author.Tests.{ltb-true, eqb-true}
use Rattle.price.specs.Test.{both}
use Rattle.price.specs.Lists.{has}
use Rattle.price.proofs.TestLaws.{by_test, both_left, true≢false}
use Rattle.negotiation.specs.Records.{Record, decode}
use Rattle.negotiation.specs.Demand.{nodes_in, latest, tree_read}
use Rattle.negotiation.proofs.MemberLaws.{has-append_split, every-has}
use Rattle.text.specs.Routes.{Named, sound_words, log_sound}
use Rattle.text.proofs.LogLaws.{found_all}
use Rattle.text.proofs.ShortRecordLaws.{Short, all_short}

module _ (named : Named) (i v : ℕ) where
  -- of records that name what they may
  nodes_named :
      (t : ℕ) (rs : List Record) → ((r : Record) → Memᴰ r rs → Short named r) → has v (nodes_in i t rs) ≡ true
      → (named.net i ≡ true) × (v < named.nodes)
  unfolding nodes_in has
  nodes_named t [] short h = absurd (true≢false (sym h))
  nodes_named t (r ∷ rs) short h =
      by_test (both (eqb r.net i) (eqb r.iteration t))
      (λ q.
      ⊎_elim
      (λ (m : has v r.path ≡ true).
      let first = short r (Memᴰ.head refl) in (
        subst (λ (n : ℕ). named.net n ≡ true) (eqb-true r.net i (both_left (eqb r.net i) (eqb r.iteration t) q)) first.net_passes,
        ltb-true v named.nodes (every-has (λ u. ltb u named.nodes) r.path first.nodes-below v m),
      ))
      (λ (m : has v (nodes_in i t rs) ≡ true). nodes_named t rs (λ s p. short s (Memᴰ.tail p)) m)
      (has-append_split v r.path (nodes_in i t rs) (rw q at h)))
      (λ q. nodes_named t rs (λ s p. short s (Memᴰ.tail p)) (rw q at h))

  pub tree_named : (log : List ℕ) → log_sound named log ≡ true → has v (tree_read i (decode log)) ≡ true → (named.net i ≡ true) × (v < named.nodes)
  unfolding tree_read sound_words
  tree_named log sound h =
      nodes_named (latest i (decode log)) (decode log) (all_short named (length log) 0 log (omega arith) (found_all named log sound)) h
