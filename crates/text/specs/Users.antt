-- Request 2.11, "nets whose final tree has the node", counted for every node of a sound log: what is answered and left.
-- Assumes nothing.
use Rattle.std.specs.Prelude.{List, ℕ, min, ltb, length, Result, Ok, Err}
use Rattle.price.specs.Test.{choose}
use Rattle.price.specs.Bounds.{nodes_most}
use Rattle.price.specs.Lists.{has, up_to, count_below}
use Rattle.job.specs.Tables.{nets_most}
use Rattle.negotiation.specs.Records.{Record, decode}
use Rattle.negotiation.specs.Demand.{tree_read}
use Rattle.text.specs.Routes.{Named, log_sound, sound_words, last_iteration}
use Rattle.text.specs.declared.log_check.SoundLog.{SoundLog}
use Rattle.text.specs.declared.log_check.UnsoundLog.{UnsoundLog}

-- ---- the test of a log

-- what a test of a log finds: the last iteration and the turns of a sound one, or the first word of the first unsound record
pub data Checked : Type 0 where
  sound : (iteration turns : ℕ) → Checked
  unsound : (word : ℕ) → Checked

unfoldable pub log_checked : Named → List ℕ → Checked
log_checked named ws =
    choose (log_sound named ws) (sound (last_iteration (decode ws)) (length (decode ws))) (unsound (sound_words named ws))

abbrev pub checked_at : Result SoundLog UnsoundLog → Checked
checked_at (Ok log) = sound log.iteration log.turns
checked_at (Err log) = unsound log.word

-- nets below 512, without table 5; "A record with a node the block lacks is unsound too", nor is one from 4,096 on a node
abbrev pub below_nodes : ℕ → Named
below_nodes nodes = record { net = λ i. ltb i nets_most; nodes = min nodes nodes_most }

-- ---- users

-- "nets whose final tree has the node"; no sound log names a net from 512 on
unfoldable pub nets_with : List Record → ℕ → ℕ
nets_with rs v = count_below (λ i. has v (tree_read i rs)) nets_most

-- what is answered of the log, and each node's users afterwards
pub record UsersReply : Type 0 where
  pub checked : Checked
  pub users : List ℕ

-- the users of every node below 4,096 where the log is sound; where it is not, those that were lent stay
unfoldable pub users_reply : Named → List ℕ → List ℕ → UsersReply
users_reply named log users =
    record {
      checked = log_checked named log;
      users = choose (log_sound named log) (up_to (nets_with (decode log)) nodes_most) users;
    }

-- the answer with the users at the call's end
abbrev pub users_reply_of : Result SoundLog UnsoundLog → List ℕ → UsersReply
users_reply_of r users = record { checked = checked_at r; users = users }
