-- When a call on a device refuses.
use Rattle.std.specs.Prelude.{◌≡◌, ℕ, ◌+◌, ◌<◌, List, length, Some}
use Rattle.slot_core.specs.Disk.{DiskState, HasFailed}
use Rattle.slot_core.specs.declared.device.TheConstants.{LENGTH}
use Rattle.slot_core.specs.Device.{BreaksAt, slot_at}
use Rattle.slot_core.specs.View.{SlotsView}
use Rattle.slot_core.specs.declared.fault.SlotFault.{SlotFault}
use Rattle.slot_core.specs.declared.fault.SlotFault.TheVariants.{BadDevice, TooLong, DiskFault, NoMemory}

-- the disk failed, or a field of this kind is bad
abbrev pub Refuses : (List ℕ → ℕ → Type 0) → DiskState → DiskState → SlotFault → Type 0
Refuses bad old new (BadDevice at) = (bytes : List ℕ) → old.told ≡ Some bytes → bad bytes at
Refuses bad old new (TooLong capacity) = ⊥
Refuses bad old new DiskFault = HasFailed old new
Refuses bad old new NoMemory = ⊥

-- the same for the first bad field of a device
abbrev pub RefusesDevice : DiskState → DiskState → SlotFault → Type 0
RefusesDevice = Refuses BreaksAt

-- the disk failed, or there are more bytes than a slot of this capacity holds
abbrev pub RefusesBytes : ℕ → ℕ → DiskState → DiskState → SlotFault → Type 0
RefusesBytes capacity count old new (BadDevice at) = ⊥
RefusesBytes capacity count old new (TooLong most) = (most ≡ capacity) × (capacity < count)
RefusesBytes capacity count old new DiskFault = HasFailed old new
RefusesBytes capacity count old new NoMemory = ⊥

-- the disk failed, or the picked slot is short, or memory was wanted
abbrev pub RefusesRead : SlotsView → DiskState → DiskState → SlotFault → Type 0
RefusesRead slots old new (BadDevice at) =
    (at ≡ slot_at slots.capacity slots.second) × ((bytes : List ℕ) → old.told ≡ Some bytes → length bytes < at + LENGTH + slots.length)
RefusesRead slots old new (TooLong capacity) = ⊥
RefusesRead slots old new DiskFault = HasFailed old new
RefusesRead slots old new NoMemory = Unit {0}
