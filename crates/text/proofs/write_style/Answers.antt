-- `text::write_style` meets its contract: table 5, what the log's test found by the marks of first nets, and the text.
-- Assumes nothing.
use mathlib.Core.Bool.{not}
use mathlib.Core.Bool.{true}
use mathlib.Core.Path.{◌≡◌, sym, ◌∙◌, ap}
use native.Mathlib.Omega.{arith}
use Rattle.price.specs.Bounds.{nodes_most}
use Rattle.search.proofs.KeptLaws.{refused, passed}
use Rattle.job.specs.Tables.{sources_sound}
use Rattle.job.proofs.JobLaws.{sources-few}
use Rattle.text.specs.Users.{checked_at}
use Rattle.text.specs.WriteSteps.{named_by}
use Rattle.text.proofs.LogLaws.{found}
use Rattle.text.proofs.RouteTextLaws.{marks_few, write_table, write_refused, write_unsound, write_sound}
use Rattle.text.proofs.write_style.Goals.{Else-not-sources_sound}
use Rattle.text.proofs.write_style.Goals as goal

-- table 5 keeps its rule
table : (c : Else-not-sources_sound) → sources_sound nodes_most c.args.source.now ≡ true
table c = passed c.sources_sound.ensures (ap not c.if-not-sources_sound.false)

pub returns-then-not-sources_sound : goal.returns-then-not-sources_sound
returns-then-not-sources_sound c = record { answers = write_table _ _ _ _ (refused c.sources_sound.ensures (ap not c.if-not-sources_sound.true)) }

pub first_marks-requires : goal.first_marks-requires
first_marks-requires c = sources-few _ _ (table c)

pub write_text-requires : goal.write_text-requires
write_text-requires c = (
  sources-few _ _ (table (goal.at.write_text-requires c).Else-not-sources_sound),
  (found (named_by c.first_marks.result nodes_most) _ (marks_few _ _ (table (goal.at.write_text-requires c).Else-not-sources_sound) c.first_marks.ensures) (omega arith)
      (ap checked_at (sym c.in_ok-found.was) ∙ c.check_log.ensures)).1,
)

pub returns-in_err-found : goal.returns-in_err-found
returns-in_err-found c = record {
  answers = write_refused _ _ _ c.from_residual.ensures.1
      ∙ write_unsound _ _ _ _ c.first_marks.result (table (goal.at.returns-in_err-found c).Else-not-sources_sound) c.first_marks.ensures
      (ap checked_at (sym c.in_err-found.was) ∙ c.check_log.ensures);
}

pub returns : goal.returns
returns c = record {
  answers = write_sound _ _ _ _ c.first_marks.result (table (goal.at.returns c).Else-not-sources_sound) c.first_marks.ensures
      (ap checked_at (sym c.in_ok-found.was) ∙ c.check_log.ensures) c.write_text.ensures;
}
