-- One turn of a net: what the search's answer says where nothing is refused, and what is logged and marked then.
-- Assumes nothing.
use mathlib.Core.List.{List, [], ◌∷◌, ◌++◌}
use mathlib.Core.Path.{◌≡◌, refl, sym, ◌∙◌, ap, subst}
use Prim.Native.Nat.{ℕ, ◌+◌, ◌*◌, ◌-◌, ◌^◌, ◌≤◌, ◌<◌}
use native.Mathlib.Omega.{arith}
use lib.ListN.{length, get_or, take, drop}
use Rattle.price.specs.Bounds.{nodes_most}
use Rattle.price.specs.Lists.{least}
use Rattle.search.specs.Block as block
use Rattle.search.specs.Block.{Block}
use Rattle.search.specs.Turn.{Congestion, price_at, Turn, joins, stuck, open_distances, turn}
use Rattle.std.specs.Prelude.{Option, Some, None}
use Rattle.search.specs.declared.Joins.{Joins}
use Rattle.search.proofs.EdgeLaws.{Shaped, shaped}
use Rattle.negotiation.specs.Records.{record_of, words}
use Rattle.job.specs.Steps.{AllBelow, Stored}
use Rattle.negotiation.specs.Steps.{SameFrom, CanTurn, Skipped, Overflows, TurnLogged, PathFound, turn_count}
use Rattle.negotiation.specs.TariffSteps.{logged_tariff}
use Rattle.negotiation.specs.declared.tariff.Tariff.{Tariff}
use Rattle.negotiation.proofs.FoundLaws.{count_most_lem, joined-path}

-- ---- what the search answers

-- a sink is joined: its path stands at the beginning of the work slice
pub record Joined (n : ℕ) (t : Turn) (sinks marks work work' : List ℕ) (place cost count : ℕ) : Type 0 where
  pub is-turn : t ≡ joins place cost (take count work')
  pub within : place < length sinks
  pub few : count ≤ 4096
  pub long : count ≤ length work'
  pub path-long : length (take count work') ≡ count
  pub small : AllBelow (2 ^ 32) (take count work')
  pub nodes-below : AllBelow (length marks) (take count work')
  pub rest : SameFrom (8 * n) work work'

module _ {b : Block} {prices : Congestion} {tariff : Tariff} {sinks marks work log : List ℕ} (t : CanTurn b prices tariff sinks marks work log) where
  abbrev made : Turn
  made = turn b (price_at b prices) marks sinks

  pub turn-joined :
      {r : Option Joins} {j : Joins} {work' : List ℕ} → r ≡ Some j → PathFound (block.nodes b) made work r work'
      → Joined (block.nodes b) made sinks marks work work' j.place j.cost j.length
  turn-joined {r} {j} {work'} is found =
      let f : PathFound (block.nodes b) made work (Some j) work' = subst (λ (x : Option Joins). PathFound (block.nodes b) made work x work') is found in
      let graph : Shaped b = shaped b t.ready.sound in
      let few : block.nodes b ≤ nodes_most = graph.few in
      let at = joined-path t.ready sinks t.sinks_sound_lem f.0 in
      record {
        is-turn = f.0;
        within = at.0;
        few = omega (arith, f.1, at.1);
        long = omega (arith, f.1, at.1, f.2.long, t.ready.enough);
        path-long = f.1;
        small = λ i h. omega (arith, at.2 i h);
        nodes-below = λ i h. omega (arith, at.2 i h, t.marks_long);
        rest = f.2;
      }

  -- any other answer is that no sink is left to be joined
  pub turn_other :
      {work' : List ℕ} (r : Option Joins) → ((j : Joins) → r ≡ Some j → ⊥)
      → PathFound (block.nodes b) made work r work' → Skipped made log marks log marks × SameFrom (8 * block.nodes b) work work'
  turn_other (Some j) other f = absurd (other j refl)
  turn_other None other f = (record { is_stuck = f.0; log-same = refl; marks_same = refl }, f.1)

  -- no count overflows
  pub turn-counts : {counted : ℕ} → counted ≡ turn_count tariff.aimed b prices marks sinks → tariff.expanded + counted < 2 ^ 64
  turn-counts {counted} count-is =
      let most : turn_count tariff.aimed b prices marks sinks ≤ block.nodes b = count_most_lem tariff.aimed b prices marks sinks in
      let few = t.few-expanded in
      omega arith

-- no sink is tried
none_tried : (b : Block) (price : ℕ → ℕ) (marks sinks : List ℕ) → length sinks ≡ 0 → turn b price marks sinks ≡ stuck
unfolding turn open_distances least
none_tried b price marks [] e = refl
none_tried b price marks (s ∷ sinks) e = absurd (omega arith)

pub turn-none :
    (b : Block) (price : ℕ → ℕ) (sinks marks : List ℕ) {work log : List ℕ} {n : ℕ} → length sinks ≡ 0
    → Skipped (turn b price marks sinks) log marks log marks × SameFrom n work work
turn-none b price sinks marks none =
    (record { is_stuck = none_tried b price marks sinks none; log-same = refl; marks_same = refl }, record { long = refl; high = λ k l. refl })

-- ---- what is logged

-- the record does not fit
pub turn_full : {n : ℕ} {t : Turn} {tariff : Tariff} {sinks marks work work' log : List ℕ} {place cost count : ℕ} → Joined n t sinks marks work work' place cost count → length log - tariff.words < 6 + count → tariff.words ≤ length log → Overflows t tariff log log
turn_full {work' = work'} {place = place} {cost = cost} {count = count} j l w = record {
  place = place;
  cost = cost;
  path = take count work';
  is-turn = j.is-turn;
  no_room = omega (arith, j.path-long);
  log-same = refl;
}

-- it fits
pub turn-logs :
    {n counted expanded : ℕ} {t : Turn} {tariff tariff' : Tariff} {net : ℕ} {sinks marks marks' work work' log log' : List ℕ} {place cost count : ℕ}
    → Joined n t sinks marks work work' place cost count → tariff.words + (6 + count) ≤ length log
    → log' ≡ take tariff.words log ++ (words (record_of tariff.iteration net (get_or sinks place 0) cost (take count work')) ++ drop (tariff.words + (6 + count)) log)
    → Stored 1 (take count work') marks marks'
    → tariff' ≡ logged_tariff tariff (6 + count) counted → counted ≡ expanded
    → TurnLogged t expanded tariff net sinks log marks tariff' log' marks'
turn-logs {expanded = expanded} {tariff = tariff} {work' = work'} {place = place} {cost = cost} {count = count} j room l m logged-is count-is = record {
  place = place;
  cost = cost;
  path = take count work';
  is-turn = j.is-turn;
  room = omega (arith, j.path-long);
  log_is = rw j.path-long l;
  marks_set = m;
  tariff_is =
      logged-is
      ∙ ap (λ (k : ℕ). logged_tariff tariff (6 + count) k) count-is
      ∙ ap (λ (k : ℕ). logged_tariff tariff (6 + k) expanded) (sym j.path-long);
}
