-- For which bytes a reader of stores stands.
use Rattle.std.specs.Prelude.{◌≡◌, ◌<◌, ◌≤◌, ◌+◌, ◌*◌, ◌^◌, ℕ, List, [], ◌++◌, length, Option, Some, None, Ok, Err}
use Rattle.part_text.specs.SealedFields.{SealedFields}
use Rattle.part_text.specs.declared.fault.PartFault.{PartFault}
use Rattle.part_codec.specs.ReaderStanding.{ReadsFor as PartReadsFor, HasFailed as PartHasFailed}
use Rattle.store_core.specs.declared.fault.StoreFault.{StoreFault}
use Rattle.store_core.specs.declared.fault.StoreFault.TheVariants as faults
use Rattle.store_core.specs.declared.reader.Parts.{Parts}
use Rattle.store_core.specs.declared.reader.StoreReader.{StoreReader}
use Rattle.store_core.specs.StoreLayout.{store_parts, left_of}

-- These bytes came: before those of the open part stand the parts that are whole.
pub record PartsRead (p : Parts) (bytes : List ℕ) : Type 0 where
  pub before : List ℕ
  pub came : List ℕ
  pub is : bytes ≡ before ++ came
  pub at : length before ≡ p.at
  pub end : length bytes ≡ p.end
  pub reads : PartReadsFor p.part came
  pub well : (e : PartFault) → PartHasFailed p.part e → ⊥
  pub none : p.left ≡ 0 → came ≡ []
  pub near : p.at + p.left * 2 ^ 49 ≤ 2 ^ 56
  pub left : (x : List ℕ) → store_parts (before ++ x) 0 ≡ left_of p.left p.store (before ++ x) (length before)

-- these bytes are all that came, up to the opening and behind it
abbrev pub CameBy : List ℕ → Option Parts → List ℕ → Type 0
CameBy front None bytes = (bytes ≡ front) × (length front < 10)
CameBy front (Some p) bytes = PartsRead p bytes

-- By what came of them, or these bytes have the fault, whatever follows. Want of memory says nothing of them.
abbrev pub ReadsBy : Option StoreFault → List ℕ → Option Parts → List ℕ → Type 0
ReadsBy None front parts bytes = CameBy front parts bytes
ReadsBy (Some e) front parts bytes = (e ≡ faults.NoMemory → ⊥) → (x : List ℕ) → store_parts (bytes ++ x) 0 ≡ Err e

abbrev pub ReadsFor : StoreReader → List ℕ → Type 0
ReadsFor r bytes = ReadsBy r.fault r.front r.parts bytes

-- it has answered this fault
abbrev pub HasFailed : StoreReader → StoreFault → Type 0
HasFailed r e = r.fault ≡ Some e

-- these bytes are a store, whatever follows
abbrev pub EndsAs : List ℕ → Type 0
EndsAs bytes = (x : List ℕ) → (parts : List SealedFields) × (store_parts (bytes ++ x) 0 ≡ Ok (parts, length bytes))
