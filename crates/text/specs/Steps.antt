-- What the private functions' contracts say: how their answers stand for the definitions of the job text, at places of the text.
-- Assumes nothing.
use Rattle.std.specs.Prelude.{true, false, Option, Some, None, Result, Ok, Err, List, [], ◌∷◌}
use Rattle.std.specs.Prelude.{◌≡◌, ℕ, ◌+◌, ◌-◌, ◌≤◌, ◌<◌, eqb, length, get_or, take, drop, set}
use Rattle.price.specs.Test.{choose}
use Rattle.price.specs.Lists.{has}
use Rattle.price.specs.Bounds.{nodes_most}
use Rattle.search.specs.Replies.{sinks_most}
use Rattle.job.specs.Tables.{nets_most}
use Rattle.job.specs.declared.Terms.{Terms}
use Rattle.text.specs.Lines as lines
use Rattle.text.specs.Lines.{number, fault, Fields, taken, malformed, field, comma, begins, line}
use Rattle.text.specs.JobText.{Reading, values, refused, Part, part, stopped, NodeLists, node_lists, EdgeLists}
use Rattle.text.specs.JobText.{NetLists, net_lists, last_of, sinks_now, first_places}
use Rattle.text.specs.declared.fields.Field.{Field}
use Rattle.text.specs.declared.fields.LineFields.{LineFields}
use Rattle.text.specs.declared.place.Place.{Place}
use Rattle.text.specs.declared.place.LineRefusal.{LineRefusal}
use Rattle.text.specs.declared.place.LineFault.{LineFault}
use Rattle.text.specs.declared.place.LineFault.TheVariants.{Malformed, BeyondBounds, WrongOrder}
use Rattle.text.specs.declared.head.Head.{Head}
use Rattle.text.specs.declared.optional.TermsRead.{TermsRead}
use Rattle.text.specs.declared.nodes.Node.{Node}
use Rattle.text.specs.declared.edges.Edge.{Edge}
use Rattle.text.specs.declared.nets.Pin.{Pin}
use Rattle.text.specs.declared.nets.Sink.{Sink}
use Rattle.text.specs.declared.nets.NetCursor.{NetCursor}

-- ---- fields

-- a field after a comma
unfoldable pub comma_field : List ℕ → lines.Field
comma_field [] = fault
comma_field (b ∷ bs) = choose (eqb b comma) (field bs) fault

-- a place after another one, within the text
abbrev pub After : ℕ → List ℕ → ℕ → Type 0
After at text next = (at ≤ next) × (next ≤ length text)

abbrev pub field_at : List ℕ → Option Field → lines.Field
field_at text (Some f) = number f.value (drop f.next text)
field_at text None = fault

abbrev pub FieldPlace : ℕ → List ℕ → Option Field → Type 0
FieldPlace at text (Some f) = After at text f.next
FieldPlace at text None = Unit {0}

-- a line's fields by their count
abbrev pub fields_at : ℕ → List ℕ → Option LineFields → Fields
fields_at count text (Some l) = taken (take count (l.first ∷ l.second ∷ l.third ∷ l.fourth ∷ [])) (drop l.next text)
fields_at count text None = malformed

abbrev pub FieldsPlace : ℕ → List ℕ → Option LineFields → Type 0
FieldsPlace at text (Some l) = After at text l.next
FieldsPlace at text None = Unit {0}

-- ---- lines

-- 01's number of each fault
abbrev pub row : LineFault → ℕ
row Malformed = 1
row BeyondBounds = 2
row WrongOrder = 3

-- a line that is read ends after a later place, so that its number stays at most one above the place
abbrev pub Within : List ℕ → Place → Type 0
Within text p = (p.at ≤ length text) × (p.line ≤ p.at + 1)

abbrev pub head_at : List ℕ → Result Head LineFault → Reading (List ℕ)
head_at text (Ok h) = values (h.nodes ∷ h.edges ∷ h.nets ∷ h.limit ∷ []) (drop h.next text)
head_at text (Err k) = refused (row k)

abbrev pub HeadPlace : List ℕ → Result Head LineFault → Type 0
HeadPlace text (Ok h) = After 1 text h.next
HeadPlace text (Err k) = Unit {0}

-- a line that may be left out, as it is read: it is not of this letter, it is of wrong shape, or it gives this many values
abbrev pub Shaped :
    (letter : ℕ) (read : List ℕ → Fields) (count : ℕ) (from : Place) (text : List ℕ) → Result (Option LineFields) LineRefusal → Type 0
Shaped letter read count from text (Ok None) = begins letter (drop from.at text) ≡ false
Shaped letter read count from text (Ok (Some l)) =
    (begins letter (drop from.at text) ≡ true)
    × (read (drop from.at text) ≡ taken (take count (l.first ∷ l.second ∷ l.third ∷ l.fourth ∷ [])) (drop l.next text))
    × After (from.at + 1) text l.next
Shaped letter read count from text (Err r) =
    (r.fault ≡ Malformed) × (r.line ≡ from.line) × (begins letter (drop from.at text) ≡ true) × (read (drop from.at text) ≡ malformed)

abbrev pub terms_at : List ℕ → Result TermsRead LineRefusal → Part Terms
terms_at text (Ok t) = part t.terms t.place.line (drop t.place.at text)
terms_at text (Err r) = stopped (row r.fault) r.line

abbrev pub TermsPlace : List ℕ → Result TermsRead LineRefusal → Type 0
TermsPlace text (Ok t) = Within text t.place
TermsPlace text (Err r) = Unit {0}

abbrev pub LinesPlace : List ℕ → Result Place LineRefusal → Type 0
LinesPlace text (Ok p) = Within text p
LinesPlace text (Err r) = Unit {0}

-- a line's values, 0 for those that it has not
abbrev pub three_of : List ℕ → List ℕ
three_of vs = get_or vs 0 0 ∷ get_or vs 1 0 ∷ get_or vs 2 0 ∷ []

abbrev pub four_of : List ℕ → List ℕ
four_of vs = get_or vs 0 0 ∷ get_or vs 1 0 ∷ get_or vs 2 0 ∷ get_or vs 3 0 ∷ []

abbrev pub node_at : ℕ → List ℕ → Result Node LineFault → Reading (List ℕ)
node_at v text (Ok n) = values (v ∷ n.kind ∷ n.capacity ∷ n.delay ∷ []) (drop n.next text)
node_at v text (Err k) = refused (row k)

abbrev pub NodePlace : ℕ → List ℕ → Result Node LineFault → Type 0
NodePlace at text (Ok n) = After (at + 1) text n.next
NodePlace at text (Err k) = Unit {0}

abbrev pub nodes_at : List ℕ → Result Place LineRefusal → List ℕ → List ℕ → List ℕ → Part NodeLists
nodes_at text (Ok p) kinds capacities delays = part (node_lists kinds capacities delays) p.line (drop p.at text)
nodes_at text (Err r) kinds capacities delays = stopped (row r.fault) r.line

abbrev pub edge_at : List ℕ → Result Edge LineFault → Reading (List ℕ)
edge_at text (Ok e) = values (e.from ∷ e.to ∷ []) (drop e.next text)
edge_at text (Err k) = refused (row k)

abbrev pub EdgePlace : ℕ → ℕ → List ℕ → Result Edge LineFault → Type 0
EdgePlace n at text (Ok e) = After (at + 1) text e.next × (e.from < n) × (e.to < n)
EdgePlace n at text (Err k) = Unit {0}

-- tables 3 and 4
pub record EdgeTables : Type 0 where
  pub first_edges : List ℕ
  pub edge_targets : List ℕ

-- the tables of the edges read
abbrev pub edge_tables : ℕ → Part EdgeLists → Part EdgeTables
edge_tables n (part l at rest) = part (record { first_edges = first_places n l.froms; edge_targets = l.targets }) at rest
edge_tables n (stopped k at) = stopped k at

abbrev pub edges_at : List ℕ → Result Place LineRefusal → List ℕ → List ℕ → Part EdgeTables
edges_at text (Ok p) first_edges edge_targets =
    part (record { first_edges = first_edges; edge_targets = edge_targets }) p.line (drop p.at text)
edges_at text (Err r) first_edges edge_targets = stopped (row r.fault) r.line

-- ---- nets

abbrev pub pin_at : ℕ → List ℕ → Result Pin LineFault → Reading (List ℕ)
pin_at i text (Ok p) = values (i ∷ p.node ∷ []) (drop p.next text)
pin_at i text (Err k) = refused (row k)

abbrev pub PinPlace : ℕ → ℕ → List ℕ → Result Pin LineFault → Type 0
PinPlace n at text (Ok p) = After (at + 1) text p.next × (p.node < n)
PinPlace n at text (Err k) = Unit {0}

abbrev pub sink_at : ℕ → List ℕ → Result Sink LineFault → Reading (List ℕ)
sink_at i text (Ok s) = values (i ∷ s.node ∷ s.criticality ∷ []) (drop s.next text)
sink_at i text (Err k) = refused (row k)

abbrev pub SinkPlace : ℕ → ℕ → List ℕ → Result Sink LineFault → Type 0
SinkPlace n at text (Ok s) = After (at + 1) text s.next × (s.node < n)
SinkPlace n at text (Err k) = Unit {0}

-- the nodes that bear this stamp are the net's pins
abbrev pub Marked : ℕ → ℕ → List ℕ → List ℕ → Type 0
Marked n stamp seen pins = (v : ℕ) → v < n → eqb (get_or seen v 0) stamp ≡ has v pins

-- the lists that the cursor's numbers mark out in the tables
abbrev pub nets_at : NetCursor → List ℕ → List ℕ → List ℕ → List ℕ → NetLists
nets_at c sources first_sinks sinks criticalities =
    net_lists (take c.nets sources) (take c.nets first_sinks) (take c.sinks sinks) (take c.sinks criticalities)

-- the room that the nets' tables have, and the bounds of the counts
pub record NetRoom (n nets : ℕ) (sources first_sinks sinks criticalities seen : List ℕ) : Type 0 where
  pub nodes_most_lem : n ≤ nodes_most
  pub nets_most_lem : nets ≤ nets_most
  pub sources-long : nets ≤ length sources
  pub firsts-long : nets + 1 ≤ length first_sinks
  pub sinks-long : sinks_most ≤ length sinks
  pub criticalities-long : sinks_most ≤ length criticalities
  pub seen-long : n ≤ length seen

-- what holds between two lines of the nets
pub record NetKept (n nets : ℕ) (text : List ℕ) (c : NetCursor) (sources first_sinks sinks criticalities seen : List ℕ) : Type 0 where
  pub room : NetRoom n nets sources first_sinks sinks criticalities seen
  pub at_most : c.at ≤ length text
  pub line-most : c.line ≤ c.at + 1
  pub nets_read : c.nets ≤ nets
  pub sinks_read : c.sinks ≤ sinks_most
  pub first_is : c.first ≡ last_of (take c.nets first_sinks)
  pub first_most_lem : c.first ≤ c.sinks
  pub stamps : (v : ℕ) → v < n → get_or seen v 0 ≤ c.nets
  pub marked :
      1 ≤ c.nets
      → Marked n c.nets seen (last_of (take c.nets sources) ∷ sinks_now (nets_at c sources first_sinks sinks criticalities))

-- what an S line does to the tables
abbrev pub SourceAdded :
    (n nets : ℕ) (text : List ℕ) (c : NetCursor) → Result NetCursor LineFault
    → (sources first_sinks seen sources' first_sinks' seen' : List ℕ)
    → Reading (List ℕ) → Type 0
SourceAdded n nets text c (Ok d) sources first_sinks seen sources' first_sinks' seen' r =
    (node : ℕ) × (r ≡ values (c.nets ∷ node ∷ []) (drop d.at text)) × (node < n) × After (c.at + 1) text d.at
    × (d.line ≡ c.line + 1) × (d.nets ≡ c.nets + 1) × (d.sinks ≡ c.sinks) × (d.first ≡ c.sinks)
    × (sources' ≡ set sources c.nets node) × (first_sinks' ≡ set first_sinks c.nets c.sinks)
    × (seen' ≡ set seen node (c.nets + 1))
SourceAdded n nets text c (Err k) sources first_sinks seen sources' first_sinks' seen' r = r ≡ refused (row k)

-- what a T line does to the tables
abbrev pub SinkAdded :
    (n nets : ℕ) (text : List ℕ) (c : NetCursor) → Result NetCursor LineFault
    → (sinks criticalities seen sinks' criticalities' seen' : List ℕ)
    → Reading (List ℕ) → Type 0
SinkAdded n nets text c (Ok d) sinks criticalities seen sinks' criticalities' seen' r =
    (node : ℕ) × (tenths : ℕ) × (r ≡ values ((c.nets - 1) ∷ node ∷ tenths ∷ []) (drop d.at text)) × (node < n)
    × After (c.at + 1) text d.at
    × (d.line ≡ c.line + 1) × (d.nets ≡ c.nets) × (d.sinks ≡ c.sinks + 1) × (d.first ≡ c.first)
    × (sinks' ≡ set sinks c.sinks node) × (criticalities' ≡ set criticalities c.sinks tenths)
    × (seen' ≡ set seen node c.nets)
SinkAdded n nets text c (Err k) sinks criticalities seen sinks' criticalities' seen' r = r ≡ refused (row k)

-- a line of the nets, as the tables stand after it
abbrev pub net_line_at : List ℕ → Result NetCursor LineFault → List ℕ → List ℕ → List ℕ → List ℕ → Reading NetLists
net_line_at text (Ok d) sources first_sinks sinks criticalities =
    values (nets_at d sources first_sinks sinks criticalities) (drop d.at text)
net_line_at text (Err k) sources first_sinks sinks criticalities = refused (row k)

abbrev pub KeptAfter :
    (n nets : ℕ) (text : List ℕ) (c : NetCursor) → Result NetCursor LineFault
    → (sources first_sinks sinks criticalities seen : List ℕ) → Type 0
KeptAfter n nets text c (Ok d) sources first_sinks sinks criticalities seen =
    (c.at < d.at) × (d.line ≡ c.line + 1) × NetKept n nets text d sources first_sinks sinks criticalities seen
KeptAfter n nets text c (Err k) sources first_sinks sinks criticalities seen = Unit {0}

-- all nets, as the tables stand at the end: the entry after the last net's in table 6 is the sink count
abbrev pub nets_read_at : ℕ → ℕ → Result ℕ LineRefusal → List ℕ → List ℕ → List ℕ → List ℕ → Part NetLists
nets_read_at nets end (Ok count) sources first_sinks sinks criticalities =
    part (net_lists (take nets sources) (take nets first_sinks) (take count sinks) (take count criticalities)) end []
nets_read_at nets end (Err r) sources first_sinks sinks criticalities = stopped (row r.fault) r.line

abbrev pub NetsEnd : ℕ → Result ℕ LineRefusal → List ℕ → Type 0
NetsEnd nets (Ok count) first_sinks = (count ≤ sinks_most) × (get_or first_sinks nets 0 ≡ count)
NetsEnd nets (Err r) first_sinks = Unit {0}
