-- What is known of a store that was read from a device, or wasn't.
use Rattle.std.proofs.Common.{◌≡◌, ℕ, ◌+◌, ◌≤◌, ◌<◌, List, length, drop, Some, Err, refl, sym, ap, ◌∙◌, subst, arith, length-take, length-drop}
use Rattle.std.specs.Prelude.{◌≢◌}
use Rattle.slot_core.specs.declared.fault.SlotFault.{SlotFault}
use Rattle.slot_core.specs.declared.fault.SlotFault.TheVariants as slots
use Rattle.slot_core.specs.Disk.{DiskState, Quiet}
use Rattle.slot_core.specs.Device.{IsDevice, IsSlot, slot_at, picks_second}
use Rattle.slot_core.specs.Fields.{Shows}
use Rattle.slot_core.specs.View.{SlotsView}
use Rattle.slot_core.specs.Attached.{IsSlotsOf}
use Rattle.slot_core.specs.Refusals.{RefusesDevice, RefusesRead}
use Rattle.input_core.specs.declared.fault.FileFault.{FileFault}
use Rattle.input_core.specs.declared.fault.FileFault.TheVariants as faults
use Rattle.input_core.specs.Readings.{store_in}
use Rattle.device_top.proofs.Answering.{shown_there}

-- the device was attached as these slots
abbrev pub Attached : DiskState → DiskState → SlotsView → Type 0
Attached old mid at_slots = Shows old.told (λ _. (bytes : List ℕ) × IsSlotsOf mid at_slots bytes)

-- a slot's bytes are there
slot_whole : (at capacity : ℕ) (bytes device : List ℕ) → IsSlot at capacity bytes device → length device < at + 8 + length bytes → ⊥
slot_whole at capacity bytes device slot short =
    omega (
      arith,
      short,
      ap length slot.stands,
      ap length slot.held,
      length-take 8 (drop at device),
      length-drop at device,
      length-take (length bytes) (drop (at + 8) device),
      length-drop (at + 8) device,
    )

-- so a read of an attached device isn't short
not_short : (old mid : DiskState) (at_slots : SlotsView) (at : ℕ) (device : List ℕ) → Quiet old mid → old.told ≡ Some device → (bytes : List ℕ) → IsSlotsOf mid at_slots bytes
    → at ≡ slot_at at_slots.capacity at_slots.second → length device < at + 8 + at_slots.length → ⊥
not_short old mid at_slots at device quiet told bytes of is short =
    let same : Some of.attached.device ≡ Some device = sym of.attached.reads ∙ quiet.same ∙ told in
    let there : of.attached.device ≡ device = cc in
    let holds = subst (IsDevice at_slots.capacity bytes) there of.attached.holds in
    let picks = of.attached.picks ∙ ap picks_second there in
    let place = is ∙ ap (slot_at at_slots.capacity) picks in
    slot_whole (slot_at at_slots.capacity (picks_second device)) at_slots.capacity bytes device holds.slot (omega (arith, short, place, of.count))

pub read_refused : (old mid new : DiskState) (at_slots : SlotsView) (f : SlotFault) → Quiet old mid → old.faults ≤ mid.faults → Attached old mid at_slots → RefusesRead at_slots mid new f
    → (f ≢ slots.NoMemory) → RefusesDevice old new f
read_refused old mid new at_slots (slots.BadDevice at) quiet later attached (is, short) some = λ device told.
    let h = attached device told in
    absurd (not_short old mid at_slots at device quiet told h.0 h.1 is (short device (quiet.same ∙ told)))
read_refused old mid new at_slots (slots.TooLong capacity) quiet later attached why some = absurd why
read_refused old mid new at_slots slots.DiskFault quiet later attached why some = omega (arith, why, later)
read_refused old mid new at_slots slots.NoMemory quiet later attached why some = absurd (some refl)

-- what was read stands in the picked slot
pub read_there : (old mid : DiskState) (at_slots : SlotsView) (items : List ℕ) → Attached old mid at_slots → ((bytes : List ℕ) → IsSlotsOf mid at_slots bytes → items ≡ bytes)
    → Shows old.told (λ _. IsSlotsOf mid at_slots items)
read_there old mid at_slots items attached read = λ device told.
    let h = attached device told in subst (IsSlotsOf mid at_slots) (sym (read h.0 h.1)) h.1

pub store_refused : (old mid : DiskState) (at_slots : SlotsView) (items : List ℕ) (f : FileFault) → Quiet old mid → Attached old mid at_slots
    → ((bytes : List ℕ) → IsSlotsOf mid at_slots bytes → items ≡ bytes) → ((f ≢ faults.NoMemory) → store_in items ≡ Err f) → (f ≢ faults.NoMemory)
    → (capacity : ℕ) × (bytes : List ℕ) × Shows old.told (IsDevice capacity bytes) × (store_in bytes ≡ Err f)
store_refused old mid at_slots items f quiet attached read is some =
    (at_slots.capacity, items, shown_there old mid at_slots items quiet (read_there old mid at_slots items attached read), is some)
