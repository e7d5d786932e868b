-- What is known of files that were read.
use Rattle.std.specs.Prelude.{◌≡◌, ◌⊎◌, ℕ, suc, List, [], ◌∷◌, Option, Some, None, Result, Err, IfSome}
use Rattle.std.specs.FinMap.{get}
use Rattle.octets_core.specs.Reading.{GivesUnless}
use Rattle.outside_core.specs.Files.{Files, IsMissing}
use Rattle.input_core.specs.declared.fault.FileFault.{FileFault}
use Rattle.input_core.specs.declared.fault.FileFault.TheVariants as faults
use Rattle.input_core.specs.Readings.{input_as}

-- what holds of the bytes under a name, where files are told and the name is held
abbrev pub WhereHeld : Option Files → List ℕ → (List ℕ → Type 0) → Type 0
WhereHeld told name P = IfSome told (λ files. IfSome (get files name) P)

-- where files are told, the name is held, and P holds of its bytes
abbrev pub IsHeld : Option Files → List ℕ → (List ℕ → Type 0) → Type 0
IsHeld told name P = IfSome told (λ files. (bytes : List ℕ) × (get files name ≡ Some bytes) × P bytes)

-- ---- which read failed

-- No read failed; or one of this name did, and the result is that it couldn't be read.
abbrev pub IsBlamed : {A E : Type 0} → (Option (List ℕ) → Type 0) → List ℕ → E → Result A E → Type 0
IsBlamed failed name unread result = failed None ⊎ ((result ≡ Err unread) × failed (Some name))

-- ---- what was read

-- A file of this name couldn't be read: its read failed and was counted, or files are told and the name isn't held. Or
-- it gave these bytes, which are those that it holds where files are told.
abbrev pub IsRead : Option Files → (Option (List ℕ) → Type 0) → List ℕ → Option (List ℕ) → Type 0
IsRead told failed name None = failed (Some name) ⊎ IsMissing told name
IsRead told failed name (Some bytes) = IfSome told (λ files. get files name ≡ Some bytes)

-- The inputs of a command, by their places in the order of reading: each can't be read, or holds bytes. A name that
-- stands at two places is read twice.
abbrev pub Inputs : Type 0
Inputs = ℕ → Option (List ℕ)

-- the inputs behind the first
abbrev pub rest_of : Inputs → Inputs
rest_of inputs = λ i. inputs (suc i)

-- the files of these names were read so, in their order, and no others
abbrev pub AreRead : Option Files → (Option (List ℕ) → Type 0) → List (List ℕ) → Inputs → Type 0
AreRead told failed [] inputs = (i : ℕ) → inputs i ≡ None
AreRead told failed (name ∷ names) inputs = IsRead told failed name (inputs 0) × AreRead told failed names (rest_of inputs)

-- what came of a file that was read so, unless memory was wanted
abbrev pub IsInput : {A B : Type 0} → Option Files → (Option (List ℕ) → Type 0) → List ℕ
    → (List ℕ → Result A FileFault) → (B → A) → Result B FileFault → Type 0
IsInput told failed name read view result =
    (given : Option (List ℕ)) × IsRead told failed name given
    × GivesUnless faults.NoMemory view result (input_as read given) × IsBlamed failed name faults.Unread result
