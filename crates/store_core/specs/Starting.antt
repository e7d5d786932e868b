-- Why a part begins no store, and what bytes that begin with it come to.
use Rattle.std.specs.Prelude.{◌≡◌}
use Rattle.ident_core.specs.declared.kind.Kind.TheVariants as kinds
use Rattle.part_text.specs.SealedFields.{SealedFields}
use Rattle.store_core.specs.declared.fault.StoreFault.{StoreFault}
use Rattle.store_core.specs.declared.fault.StoreFault.TheVariants as faults
use Rattle.store_core.specs.declared.store.StartFault.{StartFault}
use Rattle.store_core.specs.declared.store.StartFault.TheVariants as starts

-- The part is given back. It is a delta, or it is a snapshot and memory was wanted.
abbrev pub IsNotBegun : SealedFields → StartFault → Type 0
IsNotBegun part (starts.NotSnapshot given) = (given ≡ part) × (part.part.head.kind ≡ kinds.Delta)
IsNotBegun part (starts.NoMemory given) = (given ≡ part) × (part.part.head.kind ≡ kinds.Snapshot)

abbrev pub fault_of_start : StartFault → StoreFault
fault_of_start (starts.NotSnapshot given) = faults.NotSnapshot
fault_of_start (starts.NoMemory given) = faults.NoMemory
