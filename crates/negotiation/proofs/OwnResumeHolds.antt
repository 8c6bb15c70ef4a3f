-- Request 2.8, of a job's own log over whole iterations: taken up, it ends as the straight run.
-- Assumes nothing.
use mathlib.Core.List.{List}
use mathlib.Core.Path.{◌≡◌, refl, sym, subst}
use Prim.Native.Nat.{ℕ, ◌+◌, ◌≤◌}
use native.Mathlib.Omega.{arith}
use Rattle.job.specs.Job.{Job}
use Rattle.job.specs.Join.{joined}
use Rattle.negotiation.specs.Routable.{Routable}
use Rattle.negotiation.specs.Machine.{first_state}
use Rattle.negotiation.specs.Outcome.{first_progress, negotiated, route_reply}
use Rattle.negotiation.specs.Longer.{SameLog}
use Rattle.negotiation.specs.Resume.{OwnLog, replay, resumed_reply, resume_reply}
use Rattle.negotiation.specs.Resumed.{OwnResumed}
use Rattle.negotiation.proofs.CutLaws.{continued_cut}
use Rattle.negotiation.proofs.MachineRan.{Reached}
use Rattle.negotiation.proofs.OwnRunLaws.{own-taken}
use Rattle.negotiation.proofs.DemandHolds.{tested_case}
use Rattle.negotiation.proofs.LongerHolds.{same_length}

module _ (j : Job) (m used : ℕ) (work log : List ℕ) (own : OwnLog (joined j) m used log) where
  -- a whole iteration is left
  some_left : (first_state (joined j)).iteration + m ≤ j.terms.limit
  unfolding first_state
  some_left = let below = own.below in omega arith

  -- what is taken up is the machine's run cut in two
  own_run : Routable (joined j) → Reached (joined j) → resumed_reply (joined j) (replay (joined j) used log) work log ≡ negotiated (joined j) work log
  own_run sound all =
      rw (own-taken (joined j) sound all m used log own) (continued_cut (joined j) (first_progress (joined j)) m own.unsettled some_left work log)

  own_reply : resume_reply j used work log ≡ route_reply j work log
  unfolding resume_reply route_reply
  own_reply =
      tested_case j work log (λ f. f (resumed_reply (joined j) (replay (joined j) used log) work log) ≡ f (negotiated (joined j) work log))
      (λ number numbers left before reached. refl) own_run

pub own-resumed : (j : Job) (m used : ℕ) (work log : List ℕ) → OwnResumed j m used work log
own-resumed j m used work log own =
    record {
      in_place = own_reply j m used work log own;
      as_long =
          λ work' log' enough enough' long.
          subst (SameLog (route_reply j work' log')) (sym (own_reply j m used work log own)) (same_length j work' log' work log enough' enough long);
    }
