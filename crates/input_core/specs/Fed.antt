-- What is made of a file that is fed piece by piece.
use Rattle.std.specs.Prelude.{◌≡◌, ℕ, List, Option, Some, None, Result, Err}
use Rattle.outside_core.specs.Files.{Files}
use Rattle.input_core.specs.declared.fault.FileFault.{FileFault}
use Rattle.input_core.specs.declared.fault.FileFault.TheVariants as faults
use Rattle.input_core.specs.Inputs.{IsRead, IsBlamed}

-- an input that can't be read, or whose bytes may be read as this
abbrev pub IsReadAs : {A : Type 0} → (List ℕ → Result A FileFault → Type 0) → Option (List ℕ) → Result A FileFault
    → Type 0
IsReadAs reads None result = result ≡ Err faults.Unread
IsReadAs reads (Some bytes) result = reads bytes result

-- what came of a file that was read so
abbrev pub IsFed : {A : Type 0} → Option Files → (Option (List ℕ) → Type 0) → List ℕ
    → (List ℕ → Result A FileFault → Type 0) → Result A FileFault → Type 0
IsFed told failed name reads result =
    (given : Option (List ℕ)) × IsRead told failed name given
    × IsReadAs reads given result × IsBlamed failed name faults.Unread result
