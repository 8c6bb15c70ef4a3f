-- `search::searched` meets its contract: a refusal is the one that is due, and where none is due the distances are left, which are least costs.
-- Assumes nothing.
use mathlib.Core.List.{[]}
use mathlib.Core.Path.{sym, ◌∙◌}
use Rattle.std.specs.Prelude.{Ok}
use Rattle.search.proofs.TestedLaws.{refused_table, passed_on, tables_sound}
use Rattle.search.proofs.SearchTestLaws.{few-nodes, passed_search, search_refused, search_done_lem}
use Rattle.search.proofs.AnswersHold.{search_both}
use Rattle.search.proofs.searched.Goals as goal

pub first_refusal-requires : goal.first_refusal-requires
first_refusal-requires c = few-nodes _ _ _ _ _ (sym (c.in_ok-faulty_with_delays.ensures 0 [] []))

pub distances_from_tree-requires : goal.distances_from_tree-requires
distances_from_tree-requires c =
    passed_search _ _ _ _ _ _ _ (sym (tables_sound _ _ _ _ _ (sym (c.in_ok-faulty_with_delays.ensures _ _ _)) c.in_ok-first_refusal.ensures))

pub returns-in_err-faulty_with_delays : goal.returns-in_err-faulty_with_delays
returns-in_err-faulty_with_delays c =
    let h = search_both _ _ _ _ _ _ _ c.from_residual.result _
    (search_refused _ _ _ _ _ _ _ c.from_residual.result c.from_residual.ensures.0 (refused_table _ _ _ _ _ _ (sym (c.in_err-faulty_with_delays.ensures _ _ _)) c.from_residual.ensures.1)) in
    record { answers = h.0; distances = h.1 }

pub returns-in_err-first_refusal : goal.returns-in_err-first_refusal
returns-in_err-first_refusal c =
    let from = c.from_residual-in_err-first_refusal in
    let due = tables_sound _ _ _ _ _ (sym (c.in_ok-faulty_with_delays.ensures _ _ _)) (passed_on from.result _ from.ensures.1 ∙ c.in_err-first_refusal.ensures) in
    let h = search_both _ _ _ _ _ _ _ from.result _ (search_refused _ _ _ _ _ _ _ from.result from.ensures.0 due) in
    record { answers = h.0; distances = h.1 }

pub returns : goal.returns
returns c =
    let h =
    search_both _ _ _ _ _ _ _ (Ok tt) _
    (search_done_lem _ _ _ _ _ _ _ (tables_sound _ _ _ _ _ (sym (c.in_ok-faulty_with_delays.ensures _ _ _)) c.in_ok-first_refusal.ensures)
    c.distances_from_tree.ensures) in
    record { answers = h.0; distances = h.1 }
