-- Adding a log to counts that pass their test: its uses, and what is answered.
-- Assumes nothing.
use mathlib.Core.Bool.{true}
use mathlib.Core.List.{List, [], ◌∷◌}
use mathlib.Core.Path.{◌≡◌, ◌∙◌, ap}
use Prim.Native.Nat.{ℕ, ◌+◌, ◌≤◌, ◌<◌}
use native.Mathlib.Nat.{min-le_right}
use native.Mathlib.Omega.{arith}
use Rattle.std.specs.Prelude.{Result, Ok, Err}
use lib.Dec.{eqb}
use lib.ListN.{length, get_or}
use borrow.Author.Tests.{le-leb, lt-leb, ltb-true}
use Rattle.price.specs.Test.{choose}
use Rattle.price.specs.Bounds.{nodes_most}
use Rattle.price.specs.Lists.{up_to}
use Rattle.price.proofs.ListLaws.{get_or_up_to, length_up_to}
use Rattle.search.specs.Block.{Block, block_of}
use Rattle.job.specs.Tables.{nets_most}
use Rattle.negotiation.specs.Records.{Record, decode}
use Rattle.text.specs.Routes.{log_sound}
use Rattle.text.specs.Users.{log_checked, checked_at, below_nodes, nets_with, UsersReply, users_reply, users_reply_of}
use Rattle.text.specs.declared.log_check.SoundLog.{SoundLog}
use Rattle.text.specs.declared.log_check.UnsoundLog.{UnsoundLog}
use Rattle.text.proofs.LogLaws.{found, found_none}
use Rattle.uses.specs.Uses.{kind_count, logs_most, over_kind, uses_in, UseCounts, use_counts_of, with_log, of_block, add_reply_with, tested_reply}
use Rattle.uses.specs.Steps.{tallied, log_added}
use Rattle.uses.proofs.SumLaws.{up_to_same_lem, sum_same}

-- ---- the uses of a log

pub log_added_lem :
    (kinds uses : List ℕ) (rs : List Record) → length kinds ≤ nodes_most
    → tallied kinds (up_to (nets_with rs) nodes_most) uses ≡ log_added kinds uses rs
unfolding tallied log_added over_kind
log_added_lem kinds uses rs few =
    let users = up_to (nets_with rs) nodes_most in
    up_to_same_lem (λ k. get_or uses k 0 + over_kind kinds (λ v. get_or users v 0) k) (λ k. get_or uses k 0 + over_kind kinds (nets_with rs) k) kind_count
    (λ k l. ap (λ (s : ℕ). get_or uses k 0 + s)
    (sum_same (λ v. choose (eqb (get_or kinds v 0) k) (get_or users v 0) 0) (λ v. choose (eqb (get_or kinds v 0) k) (nets_with rs v) 0) (length kinds)
    (λ v h. rw (get_or_up_to (nets_with rs) nodes_most v 0 (omega (arith, h, few))))))

-- ---- the answer

module _ (kinds log : List ℕ) where
  abbrev block : Block
  block = block_of kinds [] [] []

  module _ (before : List ℕ) (r : Result SoundLog UnsoundLog) {users : List ℕ} (answered : users_reply_of r users ≡ users_reply (below_nodes (length kinds)) log before) where
    checked_is : checked_at r ≡ log_checked (of_block block) log
    unfolding users_reply
    checked_is = ap (λ (u : UsersReply). u.checked) answered

  pub add-unsound :
      (before : List ℕ) (c : UseCounts) {unsound : UnsoundLog} {users : List ℕ} → users_reply_of (Err unsound) users ≡ users_reply (below_nodes (length kinds)) log before
      → add_reply_with (10 ∷ unsound.word ∷ []) c ≡ tested_reply block c log
  unfolding tested_reply
  add-unsound before c {unsound} {users} answered =
      let f = found_none (of_block block) log (checked_is before (Err unsound) answered) in rw (f.0, f.1)

  module _ (before : List ℕ) {sound : SoundLog} {users : List ℕ} (answered : users_reply_of (Ok sound) users ≡ users_reply (below_nodes (length kinds)) log before) where
    taken : log_sound (of_block block) log ≡ true
    taken = (found (of_block block) log (λ i t. ltb-true i nets_most t) (min-le_right (length kinds) nodes_most) (checked_is before (Ok sound) answered)).0

    pub add_full : (c : UseCounts) → logs_most ≤ c.logs → add_reply_with (16 ∷ logs_most ∷ []) c ≡ tested_reply block c log
    unfolding tested_reply
    add_full c l = rw (taken, le-leb logs_most c.logs l)

    users_are : users ≡ up_to (nets_with (decode log)) nodes_most
    unfolding users_reply
    users_are = ap (λ (u : UsersReply). u.users) answered ∙ rw taken

    pub users-long : length users ≡ nodes_most
    users-long = ap (λ (us : List ℕ). length us) users_are ∙ length_up_to (nets_with (decode log)) nodes_most

    pub add_done_lem :
        (c : UseCounts) {uses : List ℕ} → length kinds ≤ nodes_most → c.logs < logs_most → uses ≡ tallied kinds users c.uses
        → add_reply_with [] (use_counts_of uses (c.logs + 1)) ≡ tested_reply block c log
    unfolding tested_reply with_log uses_in log_added
    add_done_lem c few l is =
        let added = is ∙ ap (λ (us : List ℕ). tallied kinds us c.uses) users_are ∙ log_added_lem kinds c.uses (decode log) few in
        rw (taken, lt-leb logs_most c.logs l, added)
