-- Where a fault stands.
use Rattle.std.specs.Prelude.{ℕ}
use Rattle.part_text.specs.declared.fault.PartFault.{PartFault}
use Rattle.part_text.specs.declared.fault.PartFault.TheVariants as faults

-- the offset of the field, if the fault is one of a field
abbrev pub offset_in_part : PartFault → ℕ
offset_in_part faults.NoMemory = 0
offset_in_part (faults.Layout f) = f.at
