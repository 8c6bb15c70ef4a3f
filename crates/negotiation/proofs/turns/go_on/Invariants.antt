-- `negotiation::turns::go_on` meets its contract. At the head of each loop the lists and the tariff are the machine's (`KeepLaws`), from any progress whose
-- they were at first; within an iteration that is said from any such place at the iteration's start. What is safe rests on the one progress that is asked for.
-- So is what the tariff counts (`KeepCount`). The measure: iterations up to the limit.
-- Assumes nothing.
use mathlib.Core.List.{List}
use Prim.Native.Nat.{ℕ, ◌-◌, ◌*◌, ◌≤◌}
use lib.ListN.{length}
use Rattle.job.specs.Job.{job_in}
use Rattle.negotiation.specs.Machine.{Progress}
use Rattle.negotiation.specs.Kept.{Ready}
use Rattle.negotiation.proofs.KeepLaws.{AtIteration, AtNet, AtTurns}
use Rattle.negotiation.proofs.turns.KeepCount.{CountsOn}
use Rattle.negotiation.proofs.turns.go_on.Given as goal

abbrev pub invariant-loop : goal.invariant-loop
invariant-loop l =
    (p : Progress) (W L : List ℕ) (m : ℕ) → 8 * length l.job.block.kind.now ≤ length W
    → AtTurns (job_in l.job) p W L m l.net l.most l.initial.tariff l.history l.users l.initial.in_tree l.tree_from l.tree_to l.due l.initial.work l.initial.log l.first
    → AtTurns (job_in l.job) p W L m l.net (l.most - l.counter) l.tariff l.history l.users l.in_tree l.tree_from l.tree_to l.due l.work l.log l.first
    × CountsOn (job_in l.job) p l.initial.tariff l.initial.log l.tariff l.log

abbrev pub invariant-loop-net : goal.invariant-loop-net
invariant-loop-net l =
    (p : Progress) (W L : List ℕ) (m : ℕ) → 8 * length l.job.block.kind.now ≤ length W
    → AtNet (job_in l.job) p W L m 0 l.initial.tariff l.history l.initial.users l.initial.in_tree l.initial.tree_from l.initial.tree_to l.due l.initial.work l.initial.log
    → AtNet (job_in l.job) p W L m l.net l.tariff l.history l.users l.in_tree l.tree_from l.tree_to l.due l.work l.log
    × CountsOn (job_in l.job) p l.initial.tariff l.initial.log l.tariff l.log

abbrev pub invariant-iterations : goal.invariant-iterations
invariant-iterations l =
    (p : Progress)
    → Ready (job_in l.job) p l.initial.tariff l.initial.history l.initial.users l.initial.in_tree l.initial.tree_from l.initial.tree_to l.initial.due l.initial.log
    → (m : ℕ) × AtIteration (job_in l.job) p l.initial.work l.initial.log m l.tariff l.history l.users l.in_tree l.tree_from l.tree_to l.due l.work l.log
    × CountsOn (job_in l.job) p l.initial.tariff l.initial.log l.tariff l.log

abbrev pub decreases-iterations : goal.decreases-iterations
decreases-iterations l =
    l.job.terms.limit - l.tariff.iteration
