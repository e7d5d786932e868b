-- What a disk holds behind a command, and what is answered.
use Rattle.std.specs.Prelude.{◌≡◌, ◌≢◌, ◌⊎◌, ℕ, not, List, slice_index, Some, Ok, Err}
use Rattle.ident_core.specs.Among.{Among}
use Rattle.slot_core.specs.Disk.{DiskState, HasFailed, Quiet, Within}
use Rattle.slot_core.specs.Device.{IsDevice, picks_second}
use Rattle.slot_core.specs.Fields.{Shows}
use Rattle.slot_core.specs.View.{SlotsView}
use Rattle.slot_core.specs.Attached.{IsSlotsOf}
use Rattle.part_text.specs.SealedFields.{SealedFields}
use Rattle.slot_core.specs.Refusals.{RefusesDevice}
use Rattle.slot_core.specs.declared.fault.SlotFault.TheVariants as slots
use Rattle.input_core.specs.Readings.{store_in}
use Rattle.input_core.specs.declared.fault.FileFault.TheVariants as faults
use Rattle.reply_core.specs.Said.{Said}
use Rattle.reply_core.specs.Replies.{disk_fault, refusal, slot_refusal}
use Rattle.device_top.specs.Outcomes.{Deed, Keeps, Formats, Replaces, Outcome}
use Rattle.device_top.specs.declared.held.HeldFault.{HeldFault}
use Rattle.device_top.specs.declared.held.HeldFault.TheVariants as held

-- reads give such bytes, and a crash leaves the same
abbrev pub Rests : DiskState → (List ℕ → Type 0) → Type 0
Rests disk P = (after : List ℕ) × (disk.told ≡ Some after) × Within disk.images (λ image. image ≡ after) × P after

-- What a deed leaves: nothing changes of the disk, also of what a crash may leave; or, where its bytes are told, it is
-- a device as the deed makes it.
abbrev pub Leaves : Deed → DiskState → DiskState → Type 0
Leaves Keeps old new = Quiet old new
Leaves (Formats capacity bytes) old new =
    Shows old.told (λ _. Rests new (λ after. IsDevice capacity bytes after × (slice_index after 0 ≡ 0)))
Leaves (Replaces capacity bytes) old new =
    Shows old.told (λ device. Rests new (λ after. IsDevice capacity bytes after
    × (picks_second after ≡ not (picks_second device))))

-- What is said over the devices of these names: that the disk of one failed, which a fault shows; or what comes of the
-- command, behind which the disk holds what that leaves.
abbrev pub Answers : (Outcome → Type 0) → List (List ℕ) → DiskState → DiskState → Said → Type 0
Answers comes names old new said =
    ((name : List ℕ) × Among names name × (said ≡ disk_fault name) × HasFailed old new)
    ⊎ ((o : Outcome) × comes o × (said ≡ o.said) × Leaves o.deed old new)

-- these slots hold a store of these parts, which was read from them
abbrev pub HeldStore : DiskState → DiskState → SlotsView → List SealedFields → Type 0
HeldStore old new slots parts =
    (bytes : List ℕ) × (store_in bytes ≡ Ok parts) × Shows old.told (λ _. IsSlotsOf new slots bytes)

-- why no store was read from a disk, unless memory was wanted
abbrev pub NotHeld : DiskState → DiskState → HeldFault → Type 0
NotHeld old new (held.Slots fault) = fault ≢ slots.NoMemory → RefusesDevice old new fault
NotHeld old new (held.Store fault) =
    fault ≢ faults.NoMemory
    → (capacity : ℕ) × (bytes : List ℕ) × Shows old.told (IsDevice capacity bytes) × (store_in bytes ≡ Err fault)

-- what is said where no store was read from the device of this name
abbrev pub held_refusal : List ℕ → HeldFault → Said
held_refusal name (held.Slots fault) = slot_refusal name fault
held_refusal name (held.Store fault) = refusal name fault

abbrev pub IsWant : HeldFault → Type 0
IsWant (held.Slots fault) = fault ≡ slots.NoMemory
IsWant (held.Store fault) = fault ≡ faults.NoMemory
