-- What a call that takes bytes of a piece makes of a machine.
use Rattle.std.specs.Prelude.{◌≡◌, ◌≢◌, ℕ, ◌+◌, ◌*◌, ◌<◌, ◌≤◌, List, ◌++◌, length, take, drop, Bool, true, Err}
use Rattle.sha2.specs.declared.Sha256.{Sha256}
use Rattle.octets_core.specs.declared.fault.LayoutFault.{LayoutFault}
use Rattle.part_text.specs.declared.fault.PartFault.{PartFault}
use Rattle.part_text.specs.declared.fault.PartFault.TheVariants as faults
use Rattle.part_text.specs.PartLayout.{sealed, part}
use Rattle.part_codec.specs.declared.fields.Open.TheVariants as opens
use Rattle.part_codec.specs.declared.machine.Machine.{Machine}
use Rattle.part_codec.specs.Remaining.{Seen}
use Rattle.equation_core.specs.Sizes.{words_for}
use Rattle.part_codec.specs.Stepping.{in_front, skips, tail_of, seen_after, ArePadded}
use Rattle.part_codec.specs.Scanning.{Stands, Hashes, Moved, seen_when}
use Rattle.part_codec.specs.Collecting.{Holding, ReadsTo, FrontTo, HasRead, HasHashed}

-- not all bytes of the open field came
abbrev pub IsPartial : Machine → Type 0
IsPartial m = m.field ≢ opens.Done → m.filled < tail_of m.field

-- and that isn't the trailer
pub record IsFront (m : Machine) : Type 0 where
  pub front : in_front m.field ≡ true
  pub partial : m.filled < tail_of m.field

-- these are the last bytes of the open field, which isn't the trailer
pub record EndsField (m : Machine) (rest : List ℕ) : Type 0 where
  pub front : in_front m.field ≡ true
  pub passed : m.passed ≡ skips m.field m.kept
  pub len : m.filled + length rest ≡ tail_of m.field

-- with these bytes the open field is whole: it stands behind that, and the next one is open
abbrev pub StandsBehind : Machine → Machine → List ℕ → Type 0
StandsBehind m n t = (s : Seen) (b : List ℕ) → Stands m s b → Stands n (seen_after m.field m.kept s (drop m.at (b ++ t))) (b ++ t)

abbrev pub MovedBehind : Machine → Machine → List ℕ → Type 0
MovedBehind m n t = (s : Seen) (b : List ℕ) → Stands m s b → Moved true m n (b ++ t)

-- Up to the end of the open field: it took so many bytes, and that is whole or not.
pub record Advances (m n : Machine) (piece : List ℕ) (r : ℕ × Bool) : Type 0 where
  pub stands : (s : Seen) (b : List ℕ) → Stands m s b → Stands n (seen_when r.1 m s (drop m.at (b ++ take r.0 piece))) (b ++ take r.0 piece)
  pub moved : (s : Seen) (b : List ℕ) → Stands m s b → Moved r.1 m n (b ++ take r.0 piece)
  pub partial : IsPartial n
  pub count : r.0 ≤ length piece
  pub progress : 0 < length piece → 0 < r.0

-- They are the bytes of all approximate planes of a stage, which passed, and the next field is open.
pub record PassesPlanes (m n : Machine) (t : List ℕ) : Type 0 where
  pub fresh : (m.passed ≡ 0) × (m.filled ≡ 0)
  pub some : 1 ≤ m.kept.planes
  pub len : length t ≡ m.kept.planes * (8 * words_for m.kept.starts)
  pub padded : ArePadded m.kept.starts m.kept.planes t
  pub kept : n.kept ≡ record m.kept { planes = 0 }
  pub field : n.field ≡ opens.ExactSeed
  pub at : n.at ≡ m.at + length t
  pub empty : (n.passed ≡ 0) × (n.filled ≡ 0)

-- so many bytes of the trailer, and that is whole or not
pub record Closes (m n : Machine) (hasher : Sha256) (piece : List ℕ) (r : ℕ × Bool) : Type 0 where
  pub stands : (s : Seen) (b : List ℕ) → Stands m s b → Hashes m hasher b
      → Stands n s (b ++ take r.0 piece) × Hashes n hasher (b ++ take r.0 piece)
  pub moved : (s : Seen) (b : List ℕ) → Stands m s b → Hashes m hasher b → Moved r.1 m n (b ++ take r.0 piece)
  pub partial : IsPartial n
  pub count : r.0 ≤ length piece

-- with the piece, whatever follows, the layout has this fault
abbrev pub Fails : Machine → List ℕ → LayoutFault → Type 0
Fails m piece e = (s : Seen) (b x : List ℕ) → Stands m s b → sealed (b ++ piece ++ x) 0 ≡ Err e

abbrev pub FailsAtEnd : Machine → Sha256 → List ℕ → LayoutFault → Type 0
FailsAtEnd m hasher piece e = (s : Seen) (b x : List ℕ) → Stands m s b → Hashes m hasher b → sealed (b ++ piece ++ x) 0 ≡ Err e

-- a collector that holds what was read of a part may go on
pub record CanRead {C : Type 0} (H : Holding C) (m : Machine) (c : C) : Type 0 where
  pub front : IsFront m
  pub read : ∥ HasRead H m c ∥₁

-- so may one that holds what was read and hashed
pub record CanHash {C : Type 0} (H : Holding C) (m : Machine) (c : C) (hasher : Sha256) : Type 0 where
  pub partial : IsPartial m
  pub read : ∥ HasHashed H m c hasher ∥₁

-- so many bytes, none of the trailer, were read
pub record Takes {C : Type 0} (H : Holding C) (m n : Machine) (c d : C) (piece : List ℕ) (taken : ℕ) : Type 0 where
  pub reads : (b : List ℕ) → ReadsTo H m c b → FrontTo H n d (b ++ take taken piece)
  pub read : ∥ HasRead H n d ∥₁
  pub partial : IsPartial n
  pub count : taken ≤ length piece

-- and it took some, if there are any
pub record Steps {C : Type 0} (H : Holding C) (m n : Machine) (c d : C) (piece : List ℕ) (taken : ℕ) : Type 0 where
  pub takes : Takes H m n c d piece taken
  pub progress : 0 < length piece → 0 < taken

-- so many bytes were, and those before the trailer were hashed
pub record ReadsOn {C : Type 0} (H : Holding C) (m n : Machine) (c d : C) (h g : Sha256) (piece : List ℕ) (taken : ℕ) : Type 0 where
  pub reads : (b : List ℕ) → ReadsTo H m c b → Hashes m h b → ReadsTo H n d (b ++ take taken piece) × Hashes n g (b ++ take taken piece)
  pub read : ∥ HasHashed H n d g ∥₁
  pub partial : IsPartial n
  pub count : taken ≤ length piece

-- want of memory apart, where there may be one
abbrev pub FailsRead : {C : Type 0} → Holding C → Type 0 → Machine → C → List ℕ → PartFault → Type 0
FailsRead H L m c piece e = (L → e ≢ faults.NoMemory) → (b x : List ℕ) → ReadsTo H m c b → part (b ++ piece ++ x) 0 ≡ Err e

abbrev pub FailsHashed : {C : Type 0} → Holding C → Type 0 → Machine → C → Sha256 → List ℕ → PartFault → Type 0
FailsHashed H L m c hasher piece e =
    (L → e ≢ faults.NoMemory) → (b x : List ℕ) → ReadsTo H m c b → Hashes m hasher b → part (b ++ piece ++ x) 0 ≡ Err e
