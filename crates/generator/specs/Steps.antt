-- What the contracts of private functions say.
-- Assumes nothing.
use Rattle.std.specs.Prelude.{◌≡◌, ℕ, ◌+◌, ◌-◌, ◌<◌, ◌≤◌, Bool, true, false, ◌⊎◌, List, [], ◌∷◌, ◌++◌, length, drop, ◌≢◌}
use Rattle.std.specs.Prelude.{Option, Some, None, Result, Ok, Err}
use Rattle.text.specs.Lines.{letter_n, letter_e, letter_s, letter_t, Field, number, fault, print_line}
use Rattle.text.specs.Printed.{each_line}
use Rattle.generator.specs.Draws.{draw_at}
use Rattle.generator.specs.Load.{load_row, load_source, load_sink}
use Rattle.generator.specs.Ask.{Asked, asked, turned_away}
use Rattle.generator.specs.declared.ask.Field as field_type
use Rattle.generator.specs.declared.ask.Load as load_type
use Rattle.generator.specs.declared.ask.TurnedAway.{TurnedAway}

-- ---- the input

abbrev pub asked_field_at : List ℕ → Option field_type.Field → Field
asked_field_at input (Some field) = number field.value (drop field.next input)
asked_field_at input None = fault

-- a field that was read ends within the input
abbrev pub AskedFieldPlace : List ℕ → Option field_type.Field → Type 0
AskedFieldPlace input (Some field) = field.next ≤ length input
AskedFieldPlace input None = Unit {0}

-- and its number lies within these bounds
abbrev pub FieldWithin : ℕ → ℕ → List ℕ → Option field_type.Field → Type 0
FieldWithin low high input (Some field) = (field.next ≤ length input) × (low ≤ field.value) × (field.value ≤ high)
FieldWithin low high input None = Unit {0}

abbrev pub asked_of : Result load_type.Load TurnedAway → Asked
asked_of (Ok load) = asked load.seed load.nodes load.nets
asked_of (Err away) = turned_away away.place

-- what is asked for lies within its bounds
abbrev pub AskWithin : Result load_type.Load TurnedAway → Type 0
AskWithin (Ok load) = (8 ≤ load.nodes) × (load.nodes ≤ 256) × (1 ≤ load.nets) × (load.nets ≤ 64)
AskWithin (Err away) = away.place ≤ 3

-- ---- a node's targets

-- the lesser of two targets, of which the second counts from `low` on and where it is not the node itself
pub record Lesser (best target node low lesser : ℕ) : Type 0 where
  pub most : lesser ≤ best
  pub least : low ≤ best → low ≤ lesser
  pub counts : low ≤ target → (target ≢ node) → lesser ≤ target
  pub is : (lesser ≡ best) ⊎ ((lesser ≡ target) × (target ≢ node))

-- the least number from `low` on and below n that passes the test, n if none does
pub record Next (test : ℕ → Bool) (low n next : ℕ) : Type 0 where
  pub from : low ≤ next
  pub to : next ≤ n
  pub none : (u : ℕ) → low ≤ u → u < next → test u ≡ false
  pub some : next < n → test next ≡ true

-- ---- lines

abbrev pub node_line : (ℕ → ℕ) → ℕ → List ℕ
node_line kind v = print_line letter_n (v ∷ kind v ∷ 1 ∷ [])

-- the kind of a node whose draws begin with those of node `from`
abbrev pub wire_kind : ℕ → ℕ → ℕ → ℕ
wire_kind first from v = 4 + draw_at first (v - from) 12

abbrev pub row_lines : ℕ → ℕ → ℕ → List ℕ
row_lines first n v = each_line letter_e v (load_row first n v)

abbrev pub pin_lines : ℕ → ℕ → ℕ → List ℕ
pin_lines net source sink = print_line letter_s (net ∷ source ∷ []) ++ print_line letter_t (net ∷ sink ∷ [])

abbrev pub net_lines : ℕ → ℕ → ℕ → List ℕ
net_lines first n i = pin_lines i (load_source first n i) (load_sink first n i)
