-- Document 01, "Tables and bounds", with the pins' kinds of request 2.5 and the two tables of timed jobs of request 2.9: the rules of
-- tables 5 to 10, and the lowest table of all that breaks its rule. A table's length is part of its rule.
-- Assumes nothing.
use Rattle.std.specs.Prelude.{Bool, true, not, List, [], ◌∷◌, ◌≡◌, ℕ, ◌+◌, leb, ltb, eqb, length, get_or, Option, Some, None}
use Rattle.price.specs.Test.{choose, both, either}
use Rattle.price.specs.Bounds.{limit_most, criticality_most, timed_nodes_most, timed_limit_most}
use Rattle.price.specs.Lists.{every, neighbours, has, distinct, up_to}
use Rattle.price.specs.Tuning.{tuning_sound}
use Rattle.search.specs.Tables.{faulty_table, delays_sound, Sound}
use Rattle.search.specs.Replies.{sinks_most}
use Rattle.job.specs.Job.{Job, nodes, nets, sinks_between}
use Rattle.job.specs.declared.Terms.{Terms}
use Rattle.job.specs.declared.refused.Refused.{Refused}

-- "1 to 512 nets"
abbrev pub nets_most : ℕ
nets_most = 512

-- "5. source node, 16 bits a net, 1 to 512 nets: each a node."
unfoldable pub sources_sound : ℕ → List ℕ → Bool
sources_sound n sources = both (both (leb 1 (length sources)) (leb (length sources) nets_most)) (every (λ s. ltb s n) sources)

-- "6. first sink place, 32 bits, nets + 1 entries: begins with 0, strictly rises, ends with table 7's length."
unfoldable pub first_sinks_sound : ℕ → ℕ → List ℕ → Bool
first_sinks_sound count places first_sinks =
    both (eqb (length first_sinks) (count + 1))
    (both (eqb (get_or first_sinks 0 0) 0) (both (neighbours ltb first_sinks) (eqb (get_or first_sinks count 0) places)))

-- "each a node, within a net none twice, none its source": the sinks of a net with this source
unfoldable pub net_sound : ℕ → ℕ → List ℕ → Bool
net_sound n from sinks = both (every (λ s. ltb s n) sinks) (both (distinct sinks) (not (has from sinks)))

-- "7. sink node, 16 bits, at most 4,096"
unfoldable pub sinks_sound : ℕ → List ℕ → List ℕ → List ℕ → Bool
sinks_sound n sources first_sinks sinks =
    both (leb (length sinks) sinks_most)
    (every (λ i. net_sound n (get_or sources i 0) (sinks_between first_sinks sinks i)) (up_to (λ i. i) (length sources)))

-- "The limit of iterations is 1 to 100."
unfoldable pub limit_sound : ℕ → Bool
limit_sound limit = both (leb 1 limit) (leb limit limit_most)

-- one of two numbers
unfoldable pub one_of : ℕ → ℕ → ℕ → Bool
one_of a b n = either (eqb n a) (eqb n b)

-- request 2.8: "k from 1 to 99"
abbrev pub until_most : ℕ
until_most = 99

-- request 2.7: rule 1 or rule 2, "Other values are 2, or 5 with table 8."; so with k, which has its bounds under either rule
unfoldable pub rule_sound : ℕ → ℕ → Bool
rule_sound rule until = both (both (leb 1 until) (leb until until_most)) (one_of 1 2 rule)

-- table 8: the limit, by request 2.1 the tuning ("Bad values fall .. under 5 with table 8 in a direct call"), by requests 2.7 and 2.8 the
-- rule and its k
unfoldable pub terms_sound : Terms → Bool
terms_sound t = both (limit_sound t.limit) (both (tuning_sound t.tuning) (rule_sound t.rule t.until))

-- "A source must now be of kind 0 or 2"
abbrev pub source_kind : ℕ → Bool
source_kind kind = one_of 0 2 kind

-- "and a sink of kind 1 or 3"
abbrev pub sink_kind : ℕ → Bool
sink_kind kind = one_of 1 3 kind

-- the kind of every entry of a table passes the test; that the entry is a node at all is the table's own rule
unfoldable pub pins_of : (ℕ → Bool) → List ℕ → List ℕ → Bool
pins_of test kinds pins = every (λ v. test (get_or kinds v 0)) pins

-- every source is of a source's kind
abbrev pub source_pins : List ℕ → List ℕ → Bool
source_pins kinds sources = pins_of source_kind kinds sources

-- every sink is of a sink's kind
abbrev pub sink_pins : List ℕ → List ℕ → Bool
sink_pins kinds sinks = pins_of sink_kind kinds sinks

-- the lowest of tables 5 to 8 that breaks its rule, 0 where none does; a pin of another kind is by request 2.5 "in tables, 5 with table 5
-- or 7"
unfoldable pub faulty_nets : List ℕ → List ℕ → List ℕ → List ℕ → Terms → ℕ
faulty_nets kinds sources first_sinks sinks terms =
    choose (both (sources_sound (length kinds) sources) (source_pins kinds sources))
    (choose (first_sinks_sound (length sources) (length sinks) first_sinks)
    (choose (both (sinks_sound (length kinds) sources first_sinks sinks) (sink_pins kinds sinks)) (choose (terms_sound terms) 0 8) 7)
    6)
    5

-- request 2.9: "criticality 0 to 9 in tenths (table 10, a byte a sink)"
unfoldable pub criticalities_sound : ℕ → List ℕ → Bool
criticalities_sound sinks criticalities =
    both (eqb (length criticalities) sinks) (every (λ c. leb c criticality_most) criticalities)

-- "In timed jobs alone 4 and 5 cover both.": 9 or 10, 0 if neither breaks its rule
unfoldable pub faulty_times : Terms → ℕ → ℕ → List ℕ → List ℕ → ℕ
faulty_times terms n sinks delays criticalities =
    choose terms.timed (choose (delays_sound n delays) (choose (criticalities_sound sinks criticalities) 0 10) 9) 0

-- the lowest of tables 1 to 8 that breaks its rule, 0 if none does
unfoldable pub faulty_untimed : Job → ℕ
faulty_untimed j =
    choose (leb 1 (faulty_table j.block)) (faulty_table j.block)
    (faulty_nets j.block.kinds j.sources j.first_sinks j.sinks j.terms)

-- "lowest table that breaks its rule", 0 if none does
unfoldable pub faulty_job : Job → ℕ
faulty_job j =
    choose (leb 1 (faulty_untimed j)) (faulty_untimed j)
    (faulty_times j.terms (nodes j) (length j.sinks) j.delays j.criticalities)

-- "A timed job has at most 1,024 nodes and a limit of at most 40.": one that exceeds either, by its node count and its terms
unfoldable pub exceeds : ℕ → Terms → Bool
exceeds n terms = both terms.timed (either (ltb timed_nodes_most n) (ltb timed_limit_most terms.limit))

-- "Tables are sound when each numbered one has its length and keeps its rule."
pub record SoundJob (j : Job) : Type 0 where
  pub block-sound : Sound j.block
  pub sources_sound_lem : sources_sound (nodes j) j.sources ≡ true
  pub source_pins_lem : source_pins j.block.kinds j.sources ≡ true
  pub first_sinks_sound_lem : first_sinks_sound (nets j) (length j.sinks) j.first_sinks ≡ true
  pub sinks_sound_lem : sinks_sound (nodes j) j.sources j.first_sinks j.sinks ≡ true
  pub sink_pins_lem : sink_pins j.block.kinds j.sinks ≡ true
  pub terms_sound_lem : terms_sound j.terms ≡ true
  pub delays_sound_lem : j.terms.timed ≡ true → delays_sound (nodes j) j.delays ≡ true
  pub criticalities_sound_lem : j.terms.timed ≡ true → criticalities_sound (length j.sinks) j.criticalities ≡ true

-- the numbers beside a refusal's own that there are
abbrev pub told : Option ℕ → List ℕ
told None = []
told (Some n) = n ∷ []

-- a refusal's numbers, as document 01's table "Numbers for a stopped call" lists them: its own, then those beside it
abbrev pub refused_numbers : Refused → List ℕ
refused_numbers r = r.number ∷ r.first ∷ told r.second

-- the same where something is refused, else none
abbrev pub numbers_if : Option Refused → List ℕ
numbers_if None = []
numbers_if (Some r) = refused_numbers r
