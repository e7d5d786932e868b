-- A device has no field that is short or fails.
use Rattle.std.proofs.Common.{Some, Result, Ok, Err, IfErr, refl, ◌≡◌, ℕ, List, subst, arith}
use Rattle.slot_core.specs.Disk.{DiskState}
use Rattle.slot_core.specs.Device.{IsHeader, IsSlot, IsDevice, BreaksAt, no_gate, no_mark, no_version, no_capacity, no_slot, picked_at}
use Rattle.slot_core.specs.Refusals.{RefusesDevice}
use Rattle.slot_core.specs.declared.fault.SlotFault.{SlotFault}
use Rattle.slot_core.specs.declared.fault.SlotFault.TheVariants.{BadDevice, TooLong, DiskFault, NoMemory}
use Rattle.slot_core.proofs.FieldLaws.{stands-once}
use Rattle.slot_core.proofs.Tearing.{header-long}

-- there is one capacity
pub capacity-once : (one other : ℕ) (device : List ℕ) → IsHeader one device → IsHeader other device → one ≡ other
capacity-once one other device a b = stands-once 10 one other device a.stands b.stands (omega (arith, a.high)) (omega (arith, b.high))

pub IsDevice-unbroken : (capacity : ℕ) (bytes device : List ℕ) (at : ℕ) → IsDevice capacity bytes device → BreaksAt device at → ⊥
IsDevice-unbroken capacity bytes device at is (no_gate none) = omega (arith, none, header-long capacity device is.header)
IsDevice-unbroken capacity bytes device at is (no_mark there none) = none is.header.mark
IsDevice-unbroken capacity bytes device at is (no_version marked none) = none is.header.version
IsDevice-unbroken capacity bytes device at is (no_capacity marked versioned none) = none capacity is.header
IsDevice-unbroken capacity bytes device at is (no_slot n header none) =
    let same : capacity ≡ n = capacity-once capacity n device is.header header in
    none bytes (subst (λ (c : ℕ). IsSlot (picked_at c device) c bytes device) same is.slot)

-- over a device only the disk fails
pub RefusesDevice-whole : (capacity : ℕ) (bytes device : List ℕ) (old new : DiskState) (fault : SlotFault) → old.told ≡ Some device → IsDevice capacity bytes device
    → RefusesDevice old new fault → fault ≡ DiskFault
RefusesDevice-whole capacity bytes device old new (BadDevice at) reads is refused = absurd (IsDevice-unbroken capacity bytes device at is (refused device reads))
RefusesDevice-whole capacity bytes device old new (TooLong most) reads is refused = absurd refused
RefusesDevice-whole capacity bytes device old new DiskFault reads is refused = refl
RefusesDevice-whole capacity bytes device old new NoMemory reads is refused = absurd refused

pub IfErr-whole : {T : Type 0} (capacity : ℕ) (bytes device : List ℕ) (old new : DiskState) (result : Result T SlotFault) → old.told ≡ Some device → IsDevice capacity bytes device
    → IfErr result (λ fault. RefusesDevice old new fault) → IfErr result (λ fault. fault ≡ DiskFault)
IfErr-whole capacity bytes device old new (Ok x) reads is refused = refused
IfErr-whole capacity bytes device old new (Err fault) reads is refused = RefusesDevice-whole capacity bytes device old new fault reads is refused
