-- The layout of a range, which parts, ledgers and jobs share.
use Rattle.std.specs.Prelude.{ℕ, ◌-◌, ◌^◌, List, Option, Some, None}
use Rattle.std.specs.Int.{w64}
use Rattle.octets_core.specs.Linked.{is_after}
use Rattle.octets_core.specs.Layout.{Layout, ◌>>=◌, whole, repeated}
use Rattle.octets_core.specs.Reading.{key, number}
use Rattle.octets_core.specs.declared.field.Field.TheVariants as fields
use Rattle.octets_core.specs.declared.fault.LayoutFault.{LayoutFault}
use Rattle.ident_core.specs.declared.range.Range.{Range}

-- behind a log, if there is one before it
unfoldable pub range : Option (List ℕ) → Layout LayoutFault Range
range previous = do
  log ← key fields.RangeLog (is_after previous)
  from ← number fields.RangeFrom w64 0 (2 ^ 64 - 1)
  to ← number fields.RangeTo w64 from (2 ^ 64 - 1)
  whole (record { log = log; from = from; to = to })

-- so many ranges
abbrev pub ranges : ℕ → Layout LayoutFault (List Range)
ranges count = repeated range (λ previous r. Some r.log) count None
