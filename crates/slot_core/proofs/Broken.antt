-- A device has one first field that is short or fails, and is refused there.
use Rattle.std.proofs.Common.{◌≡◌, ◌⊎◌, inl, inr, ℕ, ◌≤◌, List, length, drop, Some, Result, Ok, Err, IfOk, IfErr, refl, sym, ap, arith, length-take, length-drop}
use Rattle.slot_core.specs.Disk.{DiskState, piece}
use Rattle.slot_core.specs.Device.{magic, BreaksAt, no_gate, no_mark, no_version, no_capacity, no_slot, picked_at}
use Rattle.slot_core.specs.Fields.{Shows}
use Rattle.slot_core.specs.Refusals.{RefusesDevice}
use Rattle.slot_core.specs.Attached.{IsPlace}
use Rattle.slot_core.specs.View.{SlotsView}
use Rattle.slot_core.specs.declared.fault.SlotFault.{SlotFault}
use Rattle.slot_core.specs.declared.fault.SlotFault.TheVariants.{BadDevice, TooLong, DiskFault, NoMemory}
use Rattle.slot_core.proofs.Unbroken.{capacity-once, IsDevice-unbroken}

marked-there : (device : List ℕ) → piece 1 8 device ≡ magic → 1 ≤ length device
marked-there device is = omega (arith, ap length is, length-take 8 (drop 1 device), length-drop 1 device)

-- no gate, and a later field
gate-alone : (device : List ℕ) (at : ℕ) → length device ≡ 0 → BreaksAt device at → at ≡ 0
gate-alone device at none (no_gate other) = refl
gate-alone device at none (no_mark there bad) = absurd (omega (arith, none, there))
gate-alone device at none (no_version marked bad) = absurd (omega (arith, none, marked-there device marked))
gate-alone device at none (no_capacity marked versioned bad) = absurd (omega (arith, none, marked-there device marked))
gate-alone device at none (no_slot n header bad) = absurd (omega (arith, none, marked-there device header.mark))

mark-alone : (device : List ℕ) (at : ℕ) → 1 ≤ length device → (piece 1 8 device ≡ magic → ⊥) → BreaksAt device at → at ≡ 1
mark-alone device at there bad (no_gate none) = absurd (omega (arith, none, there))
mark-alone device at there bad (no_mark also other) = refl
mark-alone device at there bad (no_version marked other) = absurd (bad marked)
mark-alone device at there bad (no_capacity marked versioned other) = absurd (bad marked)
mark-alone device at there bad (no_slot n header other) = absurd (bad header.mark)

pub breaks-once : (device : List ℕ) (one other : ℕ) → BreaksAt device one → BreaksAt device other → one ≡ other
breaks-once device one other (no_gate none) also = sym (gate-alone device other none also)
breaks-once device one other (no_mark there bad) also = sym (mark-alone device other there bad also)
breaks-once device one other is (no_gate none) = gate-alone device one none is
breaks-once device one other is (no_mark there bad) = mark-alone device one there bad is
breaks-once device one other (no_version marked bad) (no_version also worse) = refl
breaks-once device one other (no_version marked bad) (no_capacity also versioned worse) = absurd (bad versioned)
breaks-once device one other (no_version marked bad) (no_slot n header worse) = absurd (bad header.version)
breaks-once device one other (no_capacity marked versioned bad) (no_version also worse) = absurd (worse versioned)
breaks-once device one other (no_capacity marked versioned bad) (no_capacity also as_well worse) = refl
breaks-once device one other (no_capacity marked versioned bad) (no_slot n header worse) = absurd (bad n header)
breaks-once device one other (no_slot n header bad) (no_version marked worse) = absurd (worse header.version)
breaks-once device one other (no_slot n header bad) (no_capacity marked versioned worse) = absurd (worse n header)
breaks-once device one other (no_slot n header bad) (no_slot m also worse) = ap (λ (c : ℕ). picked_at c device) (capacity-once n m device header also)

pub refused-there : (old new : DiskState) (device : List ℕ) (at : ℕ) (result : Result SlotsView SlotFault) → old.told ≡ Some device → BreaksAt device at
    → IfOk result (λ slots. Shows old.told (λ device. (bytes : List ℕ) × IsPlace slots bytes device)) → IfErr result (λ fault. RefusesDevice old new fault)
    → (result ≡ Err (BadDevice at)) ⊎ (result ≡ Err DiskFault)
refused-there old new device at (Ok slots) reads breaks placed refused =
    let p = placed device reads in absurd (IsDevice-unbroken slots.capacity p.0 device at p.1.holds breaks)
refused-there old new device at (Err (BadDevice place)) reads breaks placed refused =
    inl (ap (λ (n : ℕ). Err (BadDevice n)) (breaks-once device place at (refused device reads) breaks))
refused-there old new device at (Err (TooLong most)) reads breaks placed refused = absurd refused
refused-there old new device at (Err DiskFault) reads breaks placed refused = inr refl
refused-there old new device at (Err NoMemory) reads breaks placed refused = absurd refused
