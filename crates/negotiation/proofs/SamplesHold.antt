-- The starred jobs given as tables: what 01 states is what the definitions give.
-- Assumes nothing.
use mathlib.Core.Bool.{true, false}
use mathlib.Core.Path.{◌≡◌, refl}
use Rattle.price.specs.Lists.{every, neighbours, has, distinct, up_to, first_below, count_below, least, place_of, total}
use Rattle.price.specs.Prices.{base_cost, overuse, price_of, next_factor, next_history}
use Rattle.price.specs.Samples.{Hold}
use Rattle.price.specs.Timed.{timed_price, weighed}
use Rattle.price.specs.Tuning.{tuning_sound}
use Rattle.search.specs.Block.{row, has_edge}
use Rattle.search.specs.Tables.{kinds_sound, capacities_sound, first_edges_sound, row_sound, edge_targets_sound, faulty_table, delays_sound}
use Rattle.search.specs.Paths.{path_cost}
use Rattle.search.specs.Distance.{tree_has, tree_distances, nearer, round, rounds, distances}
use Rattle.search.specs.Turn.{congested_at, price_at, open_distance, before, back, path_to, open_distances, join_at, turn}
use Rattle.search.specs.Replies.{cleared}
use Rattle.job.specs.Job.{net_sinks, net_criticalities}
use Rattle.job.specs.Tables.{sources_sound, first_sinks_sound, net_sound, sinks_sound, limit_sound, rule_sound, terms_sound, one_of, pins_of, faulty_nets, faulty_untimed, criticalities_sound, faulty_times, faulty_job, exceeds}
use Rattle.negotiation.specs.Records.{words, encode, fitting, path_nodes}
use Rattle.job.specs.Join.{first_of, leads, places_from, listed_places, taking, places_of_first, joined_places, places_before}
use Rattle.negotiation.specs.Order.{places_with, falling_from, first_open, place_due, sink_due, turn_sinks, turn_weighting, turn_congestion}
use Rattle.negotiation.specs.Machine.{others_of, users_of, marks_of, congestion_for, turn_of, turns_of, net_records, has_sinks, all_due, crowded, due, after_nets, iterate, overfull, over_count, move_on, first_state, state_after, records_after, settles_at}
use Rattle.negotiation.specs.Outcome.{has_path, unreachable_net, unreachable_place, iterations_made, iterations_left, all_records, logged_records, cut_iteration, log_with, end_numbers, continued, route_reply}
use Rattle.negotiation.specs.Samples.{answer, job_b, job_c, job_cut, job_diamond, job_weighed}
use Rattle.negotiation.specs.Samples.{settled, limited, filled, nearest_first, cut_off, lowest_first, critical_first, unweighed, samples}

-- all that a closed job computes with
unfoldable pub computing : Unit {0}
unfolding route_reply continued end_numbers log_with cut_iteration logged_records all_records iterations_left iterations_made unreachable_place unreachable_net has_path
    settles_at records_after state_after first_state move_on over_count overfull iterate after_nets due all_due crowded has_sinks net_records turns_of turn_of congestion_for marks_of users_of others_of
    path_nodes fitting encode words exceeds faulty_job faulty_times criticalities_sound delays_sound faulty_untimed faulty_nets pins_of one_of rule_sound terms_sound tuning_sound limit_sound sinks_sound net_sound first_sinks_sound sources_sound net_sinks net_criticalities cleared
    places_before joined_places places_of_first taking listed_places places_from leads first_of
    turn join_at open_distances path_to back before open_distance price_at congested_at weighed timed_price distances rounds round nearer tree_distances tree_has path_cost
    faulty_table edge_targets_sound row_sound first_edges_sound capacities_sound kinds_sound has_edge row next_history next_factor price_of overuse base_cost
    turn_congestion turn_weighting turn_sinks sink_due place_due first_open falling_from places_with
    total place_of least count_below first_below up_to distinct has neighbours every
computing = tt

-- The job is written out on the left (`answer job_c 40` and not `nearest_first.defined`): the comparison then takes a tenth of the time.
settled_holds : answer (job_b 2) 40 ≡ settled.stated
unfolding computing
settled_holds = refl

limited_holds : answer (job_b 1) 40 ≡ limited.stated
unfolding computing
limited_holds = refl

filled_holds : answer (job_b 2) 35 ≡ filled.stated
unfolding computing
filled_holds = refl

nearest_first_holds : answer job_c 40 ≡ nearest_first.stated
unfolding computing
nearest_first_holds = refl

cut_off_holds : answer job_cut 40 ≡ cut_off.stated
unfolding computing
cut_off_holds = refl

lowest_first_holds : answer job_diamond 40 ≡ lowest_first.stated
unfolding computing
lowest_first_holds = refl

critical_first_holds : answer (job_weighed true) 60 ≡ critical_first.stated
unfolding computing
critical_first_holds = refl

unweighed_holds : answer (job_weighed false) 60 ≡ unweighed.stated
unfolding computing
unweighed_holds = refl

pub samples_hold : Hold samples
unfolding samples
samples_hold =
    (settled_holds, (limited_holds, (filled_holds, (nearest_first_holds, (cut_off_holds, (lowest_first_holds, (critical_first_holds, (unweighed_holds, tt))))))))
