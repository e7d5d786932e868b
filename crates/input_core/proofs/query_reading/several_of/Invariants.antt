use Rattle.std.proofs.Common.{◌≡◌, ◌-◌}
use Rattle.octets_core.proofs.Repeated.{with_front}
use Rattle.input_core.specs.QueryLayout.{sighting, many, sightings}
use Rattle.input_core.proofs.query_reading.several_of.Given as goal

abbrev pub invariant-loop : goal.invariant-loop
invariant-loop l = record {
  read : with_front l.sightings.items (many sighting (l.count - l.counter) l.cursor.bytes l.cursor.at) ≡ sightings l.count l.fn.cursor.bytes l.fn.cursor.at;
  same : l.cursor.bytes ≡ l.fn.cursor.bytes;
}
