-- A net's old tree is dropped and its new tree counts: what the steps on marks and users come to.
-- Assumes nothing.
use mathlib.Core.Bool.{true}
use mathlib.Core.List.{List}
use mathlib.Core.Path.{◌≡◌, ◌∙◌}
use Prim.Native.Nat.{ℕ}
use lib.Dec.{eqb}
use lib.ListN.{length, get_or}
use lib.Seq.{slice}
use borrow.Author.Tests.{eq-eqb}
use Rattle.price.specs.Lists.{has}
use Rattle.price.proofs.TestLaws.{by_test}
use Rattle.negotiation.specs.Records.{decode, path_nodes}
use Rattle.job.specs.Steps.{Stored}
use Rattle.negotiation.specs.Steps.{Dropped, UsersAdded, CanDrop, CanAddMarked, RipReady, RippedUp, CountReady, TreeCounted}

-- the old tree: its nodes are dropped and marked, then their marks go
module _ {from to : ℕ} {log users marks : List ℕ} (r : RipReady (length marks) from to log users marks) where
  -- the nodes of the old records
  abbrev old : List ℕ
  old = path_nodes (decode (slice from to log))

  pub rip_can-drop : CanDrop (length marks) old users marks
  rip_can-drop v h t z = r.used v h t

  pub rip_done :
      {users₁ marks₁ marks₂ : List ℕ} → Dropped (length marks) old users marks users₁ marks₁ → Stored 0 old marks₁ marks₂
      → RippedUp (length marks) old users marks users₁ marks₂
  rip_done {users₁} {marks₁} {marks₂} d m = record {
    users-long = d.users-long;
    marks_long = m.long ∙ d.marks_set.long;
    no_marks = λ v h.
        m.at v ∙
        by_test (has v old)
        (λ t. rw t)
        (λ t. rw (t, d.marks_set.at v, t) (r.no_marks v h));
    users-at = λ v h.
        let bare : eqb (get_or marks v 0) 0 ≡ true = eq-eqb (get_or marks v 0) 0 (r.no_marks v h) in
        d.users-at v h ∙
        by_test (has v old) (λ t. rw (t, bare)) (λ t. rw t);
  }

-- the new tree: its nodes are marked, and counted by that
module _ {from to : ℕ} {log users marks : List ℕ} (r : CountReady (length marks) from to log users marks) where
  -- the nodes of the new records
  abbrev new : List ℕ
  new = path_nodes (decode (slice from to log))

  pub count-can-add : CanAddMarked (length marks) users marks
  count-can-add v h t = r.room v h

  pub count_done : {users₁ marks₁ : List ℕ} → UsersAdded (length marks) new users marks users₁ marks₁ → TreeCounted (length marks) new users marks users₁ marks₁
  count_done a = record {
    users-long = a.users-long;
    marks_long = a.marks_cleared.long;
    no_marks = λ v h.
        a.marks_cleared.at v ∙
        by_test (has v new)
        (λ t. rw t)
        (λ t. rw (t, r.marked v h, t));
    users-at = λ v h.
        a.users-at v h ∙
        by_test (has v new) (λ t. rw (r.marked v h, t)) (λ t. rw t);
  }
