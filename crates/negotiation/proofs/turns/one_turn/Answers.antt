-- `negotiation::turns::one_turn` meets its contract: without sinks no turn is made; nothing is refused, so the search's answer is the turn, and where its record fits it is logged and marked.
-- Assumes nothing.
use mathlib.Core.Path.{sym, ◌∙◌}
use native.Mathlib.Omega.{arith}
use borrow.Author.Tests.{eqb-true}
use Rattle.negotiation.proofs.turns.OneTurnLaws.{turn-none, turn-joined, turn_other, turn-counts, turn_full, turn-logs}
use Rattle.negotiation.proofs.turns.one_turn.Goals as goal

pub returns-then-is_empty : goal.returns-then-is_empty
returns-then-is_empty c = let h = turn-none _ _ _ _ (eqb-true _ _ (sym c.is_empty.ensures ∙ c.if-is_empty.true)) in record { answers = h.0; same_from = h.1 }

pub found_path-found-requires : goal.found_path-found-requires
found_path-found-requires c = record { ready = (c.requires.ready.ready, c.requires.ready.sinks_sound_lem); back_lent = c.requires.back_lent }

pub returns-in_default : goal.returns-in_default
returns-in_default c =
    let other = turn_other c.requires.ready c.found_path-found.result.joins c.in_default.not-Some c.found_path-found.ensures.0 in
    record { answers = other.0; same_from = other.1 }

pub overflow_sub-log : goal.overflow_sub-log
overflow_sub-log c = c.requires.ready.within

pub returns-then-log-at : goal.returns-then-log-at
returns-then-log-at c =
    let j = turn-joined c.requires.ready c.in-Some.is c.found_path-found.ensures.0 in record { answers = turn_full j c.if-log-at.true c.requires.ready.within; same_from = j.rest }

pub bounds-sinks-joins : goal.bounds-sinks-joins
bounds-sinks-joins c =
    (turn-joined c.requires.ready c.in-Some.is c.found_path-found.ensures.0).within

pub overflow_cast-sink : goal.overflow_cast-sink
overflow_cast-sink c = omega (arith, c.type_inv.sinks c.in-Some.joins.place)

pub write_record-requires : goal.write_record-requires
write_record-requires c =
    let j = turn-joined c.requires.ready c.in-Some.is c.found_path-found.ensures.0 in record { count_in_bounds = (j.long, omega (arith, c.if-log-at.false, c.requires.ready.within), omega (arith, j.few)); all_below = j.small }

pub mark_path-requires : goal.mark_path-requires
mark_path-requires c =
    let j = turn-joined c.requires.ready c.in-Some.is c.found_path-found.ensures.0 in
    (j.long, j.nodes-below)

pub turn_logged-logged-requires : goal.turn_logged-logged-requires
turn_logged-logged-requires c =
    let counts = turn-counts c.requires.ready c.found_path-found.ensures.1 in (
      omega (arith, c.if-log-at.false, c.requires.ready.within, c.requires.ready.few-turns),
      omega (arith, c.if-log-at.false, c.requires.ready.within),
      counts,
    )

pub returns : goal.returns
returns c =
    let j = turn-joined c.requires.ready c.in-Some.is c.found_path-found.ensures.0 in record {
      answers = turn-logs j (omega (arith, c.if-log-at.false, c.requires.ready.within)) c.write_record.ensures c.mark_path.ensures
          c.turn_logged-logged.ensures c.found_path-found.ensures.1;
      same_from = j.rest;
    }
