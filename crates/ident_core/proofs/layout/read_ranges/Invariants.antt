use Rattle.std.proofs.Common.{◌≡◌, ◌-◌, Some}
use Rattle.octets_core.specs.Layout.{repeated}
use Rattle.octets_core.proofs.Repeated.{with_front}
use Rattle.ident_core.specs.RangeLayout.{range, ranges}
use Rattle.ident_core.proofs.layout.read_ranges.Given as goal

abbrev pub invariant-loop : goal.invariant-loop
invariant-loop l = record {
  read : with_front l.ranges.items (repeated range (λ previous r. Some r.log) (l.count - l.counter) l.previous l.cursor.bytes l.cursor.at) ≡ ranges l.count l.fn.cursor.bytes l.fn.cursor.at;
  same : l.cursor.bytes ≡ l.fn.cursor.bytes;
}
