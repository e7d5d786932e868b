-- For which bytes a reader stands.
use Rattle.std.specs.Prelude.{◌≡◌, ℕ, List, ◌++◌, length, Option, Some, None, Ok, Err}
use Rattle.sha2.specs.declared.Sha256.{Sha256}
use Rattle.octets_core.specs.declared.fault.Why.TheVariants as why
use Rattle.part_text.specs.SealedFields.{SealedFields}
use Rattle.part_text.specs.PartLayout.{part}
use Rattle.part_codec.specs.PileFields.{PileFields}
use Rattle.part_codec.specs.Collecting.{ReadsTo, IsPile}
use Rattle.part_codec.specs.Scanning.{Hashes}
use Rattle.part_text.specs.declared.fault.PartFault.{PartFault}
use Rattle.part_text.specs.declared.fault.PartFault.TheVariants as faults
use Rattle.part_codec.specs.declared.machine.Machine.{Machine}
use Rattle.part_codec.specs.declared.reader.PartReader.{PartReader}

-- By its machine, what it collected and what was hashed, or these bytes have the fault, whatever follows. Want of
-- memory says nothing of them.
abbrev pub ReadsBy : Option PartFault → Machine → PileFields → Sha256 → List ℕ → Type 0
ReadsBy None m p hasher b = ReadsTo IsPile m p b × Hashes m hasher b
ReadsBy (Some e) m p hasher b = (e ≡ faults.NoMemory → ⊥) → (x : List ℕ) → part (b ++ x) 0 ≡ Err e

abbrev pub ReadsFor : PartReader → List ℕ → Type 0
ReadsFor r b = ReadsBy r.fault r.machine r.pile r.hasher b

-- it has answered this fault
abbrev pub HasFailed : PartReader → PartFault → Type 0
HasFailed r e = r.fault ≡ Some e

-- a field is short
abbrev pub IsShort : PartFault → Type 0
IsShort (faults.Layout f) = f.why ≡ why.Short
IsShort faults.NoMemory = ⊥

-- these bytes are a part, whatever follows
abbrev pub EndsAs : List ℕ → Type 0
EndsAs b = (x : List ℕ) → (s : SealedFields) × (part (b ++ x) 0 ≡ Ok (s, length b))
