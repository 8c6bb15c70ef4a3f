-- What counting users answers and leaves: nothing is counted of an unsound log, and every node's users of a sound one.
-- Assumes nothing.
use mathlib.Core.Bool.{Bool, true, false}
use mathlib.Core.List.{List}
use mathlib.Core.Logic.{⊎_elim}
use mathlib.Core.Path.{◌≡◌, sym, ◌∙◌, ap, fun_ext}
use Prim.Native.Nat.{ℕ, ◌≤◌, ◌<◌, min}
use native.Mathlib.Omega.{arith}
use lib.Dec.{ltb}
use Rattle.std.proofs.Common.{Result, Ok, Err}
use Rattle.std.specs.Prelude.{IsErrAnd}
use lib.ListN.{replicate, get_or-replicate, length-replicate}
use borrow.Author.Tests.{lt-ltb, le-ltb, ltb-true}
use Rattle.price.specs.Bounds.{nodes_most}
use Rattle.price.specs.Lists.{up_to}
use Rattle.price.proofs.TestLaws.{le_or_lt}
use Rattle.job.specs.Tables.{nets_most}
use Rattle.negotiation.specs.Records.{decode}
use Rattle.text.specs.Routes.{log_sound}
use Rattle.text.specs.Users.{log_checked, checked_at, below_nodes, nets_with, users_reply, users_reply_of}
use Rattle.text.specs.WriteSteps.{AllSound, LogTested, net_marked, named_by}
use Rattle.text.specs.declared.log_check.SoundLog.{SoundLog}
use Rattle.text.specs.declared.log_check.UnsoundLog.{UnsoundLog}
use Rattle.text.proofs.RecordTestLaws.{marked_none}
use Rattle.text.proofs.LogLaws.{found, found_none}

-- where every net below 512 is marked, all of them may have records
all-marked : net_marked (replicate nets_most true) ≡ (λ i. ltb i nets_most)
unfolding net_marked
all-marked =
    fun_ext (λ i.
    ⊎_elim
    (λ (l : nets_most ≤ i). marked_none (replicate nets_most true) i (rw (length-replicate {A = Bool} nets_most true) l) ∙ sym (le-ltb i nets_most l))
    (λ (l : i < nets_most). rw (get_or-replicate {A = Bool} nets_most i true false l) (sym (lt-ltb i nets_most l)))
    (le_or_lt nets_most i))

module _ (nodes : ℕ) (log : List ℕ) {few : ℕ} {r : Result SoundLog UnsoundLog} (bound : few ≡ min nodes nodes_most) (answered : checked_at r ≡ log_checked (named_by (replicate nets_most true) few) log) where
  tested : {s : Result SoundLog UnsoundLog} → r ≡ s → checked_at s ≡ log_checked (below_nodes nodes) log
  tested e =
      sym (ap checked_at e)
      ∙ answered
      ∙ ap (λ (net : ℕ → Bool). log_checked (record { net = net; nodes = few }) log) all-marked
      ∙ ap (λ (n : ℕ). log_checked (record { net = λ i. ltb i nets_most; nodes = n }) log) bound

  pub users-unsound :
      (users : List ℕ) (s : Result SoundLog UnsoundLog) (e : UnsoundLog) → IsErrAnd s (λ x. x ≡ e) → r ≡ Err e
      → users_reply_of s users ≡ users_reply (below_nodes nodes) log users
  unfolding users_reply
  users-unsound users (Ok log) e h is = absurd h
  users-unsound users (Err x) e h is = rw (h, (found_none (below_nodes nodes) log (tested is)).0, tested is)

  module _ {s : SoundLog} (e : r ≡ Ok s) where
    log-taken : (log_sound (below_nodes nodes) log ≡ true) × LogTested log s.iteration s.turns
    log-taken = found (below_nodes nodes) log (λ i t. ltb-true i nets_most t) (omega arith) (tested e)

    pub users-log : AllSound log
    users-log = log-taken.1.words-sound

    pub users-sound :
        (users : List ℕ) {after : List ℕ} → after ≡ up_to (nets_with (decode log)) nodes_most
        → users_reply_of (Ok s) after ≡ users_reply (below_nodes nodes) log users
    unfolding users_reply
    users-sound users is = rw (log-taken.0, tested e, is)
