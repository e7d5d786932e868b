-- For which bytes a scan stands.
use Rattle.std.specs.Prelude.{◌≡◌, ℕ, List, ◌++◌, length, Option, Some, None, Ok, Err}
use Rattle.sha2.specs.declared.Sha256.{Sha256}
use Rattle.octets_core.specs.declared.fault.LayoutFault.{LayoutFault}
use Rattle.part_text.specs.SealedFields.{SealedFields}
use Rattle.part_text.specs.PartLayout.{sealed}
use Rattle.part_codec.specs.declared.machine.Machine.{Machine}
use Rattle.part_codec.specs.declared.scan.PartScan.{PartScan}
use Rattle.part_codec.specs.declared.collector.Nothing.{Nothing}
use Rattle.part_codec.specs.Collecting.{ReadsTo, AnyPile}
use Rattle.part_codec.specs.Scanning.{Hashes}

-- by its machine and what was hashed, or these bytes have the fault, whatever follows
abbrev pub StandsBy : Option LayoutFault → Machine → Nothing → Sha256 → List ℕ → Type 0
StandsBy None m nothing hasher b = ReadsTo AnyPile m nothing b × Hashes m hasher b
StandsBy (Some e) m nothing hasher b = (x : List ℕ) → sealed (b ++ x) 0 ≡ Err e

abbrev pub StandsFor : PartScan → List ℕ → Type 0
StandsFor scan b = StandsBy scan.fault scan.machine scan.nothing scan.hasher b

-- it has answered this fault
abbrev pub HasFailed : PartScan → LayoutFault → Type 0
HasFailed scan e = scan.fault ≡ Some e

-- these bytes are a part, whatever follows
abbrev pub EndsAt : List ℕ → Type 0
EndsAt b = (x : List ℕ) → (s : SealedFields) × (sealed (b ++ x) 0 ≡ Ok (s, length b))

-- these bytes have this fault, whatever follows
abbrev pub HasFault : List ℕ → Type 0
HasFault b = (e : LayoutFault) × ((x : List ℕ) → sealed (b ++ x) 0 ≡ Err e)
