use Rattle.std.proofs.Common.{◌≡◌, ◌-◌, map}
use Rattle.octets_core.proofs.Repeated.{with_front}
use Rattle.input_core.specs.Queries.{as_query}
use Rattle.input_core.specs.QueryLayout.{query, many, queries}
use Rattle.input_core.proofs.query_reading.queries_of.Given as goal

abbrev pub invariant-loop : goal.invariant-loop
invariant-loop l = record {
  read : with_front (map as_query l.queries.items) (many query (l.count - l.counter) l.cursor.bytes l.cursor.at) ≡ queries l.count l.fn.cursor.bytes l.fn.cursor.at;
  same : l.cursor.bytes ≡ l.fn.cursor.bytes;
}
