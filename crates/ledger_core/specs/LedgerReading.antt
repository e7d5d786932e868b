-- What bytes are as a ledger.
use Rattle.std.specs.Prelude.{ℕ, List, Option, Result, option_map, option_copied}
use Rattle.std.specs.Borrow.{Bor}
use Rattle.octets_core.specs.Position.{Position}
use Rattle.octets_core.specs.Layout.{Layout, mapped}
use Rattle.octets_core.specs.Reading.{ReadsUnless, value_of}
use Rattle.octets_core.specs.declared.fault.LayoutFault.{LayoutFault}
use Rattle.ident_core.specs.declared.fault.RangesFault.{RangesFault}
use Rattle.ident_core.specs.declared.fault.RangesFault.TheVariants as ranges
use Rattle.ledger_core.specs.declared.fault.LedgerFault.{LedgerFault}
use Rattle.ledger_core.specs.declared.fault.LedgerFault.TheVariants as faults
use Rattle.ledger_core.specs.declared.fields.LedgerPart.{LedgerPart}
use Rattle.ledger_core.specs.LedgerFields.{LedgerPartFields, LedgerFields, part_fields}
use Rattle.ledger_core.specs.LedgerLayout.{ledger}

-- a fault of ranges, as one of a ledger
abbrev pub of_ranges : RangesFault → LedgerFault
of_ranges (ranges.Layout f) = faults.Layout f
of_ranges ranges.NoMemory = faults.NoMemory

-- a layout whose faults are those of its fields
abbrev pub fielded : {A : Type 0} → Layout LayoutFault A → Layout LedgerFault A
fielded layout = mapped faults.Layout layout

-- what a function that reads off a cursor did, unless memory was wanted
abbrev pub Reads : {X A : Type 0} → (X → A) → Layout LayoutFault A → Position → Position → Result X LedgerFault → Type 0
Reads view layout old new result = ReadsUnless faults.NoMemory view (fielded layout) old new result

-- the part before another, if there is one
abbrev pub before : Option (Bor LedgerPart) → Option LedgerPartFields
before previous = option_map part_fields (option_copied previous)

-- the ledger of these bytes, all of them, or the first field that is short or fails its test
abbrev pub ledger_of_bytes : List ℕ → Result LedgerFields LedgerFault
ledger_of_bytes bytes = value_of (fielded ledger bytes 0)

-- the offset of the field, if the fault is one of a field
abbrev pub offset_in_ledger : LedgerFault → ℕ
offset_in_ledger faults.NoMemory = 0
offset_in_ledger (faults.Layout f) = f.at
