-- `fields::read_fields` meets its contract. The loop's invariant: the reader carries its text, and the first k fields are read up to its place.
-- Assumes nothing.
use mathlib.Core.Path.{◌≡◌}
use Rattle.text.proofs.FieldLaws.{SoFar}
use Rattle.text.proofs.fields.read_fields.Given as goal

abbrev pub invariant-loop-k : goal.invariant-loop-k
invariant-loop-k l = record {
  text : l.reader.text.now ≡ l.r.text.now;
  so_far : SoFar l.count l.k l.r.at l.reader.at l.r.text.now l.values;
}
