-- What the files hold once the outputs of a command were written.
use Rattle.std.specs.Prelude.{◌≡◌, ◌≢◌, ℕ, ◌≤◌, ◌⊎◌, List, [], ◌∷◌, length, take, All, Option, Some, None}
use Rattle.std.specs.FinMap.{get}
use Rattle.outside_core.specs.Files.{Files, putting}
use Rattle.command_core.specs.ReplyFields.{OutputFields}

-- the files with these outputs, written in their order; nothing where nothing is told
abbrev pub with_outputs : Option Files → List OutputFields → Option Files
with_outputs told [] = told
with_outputs told (o ∷ outputs) = with_outputs (putting told o.name o.bytes) outputs

-- an output as a write that failed leaves it: as it was, or holding a prefix of its bytes
abbrev pub IsLeft : Option Files → Option Files → OutputFields → Type 0
IsLeft old new o = (new ≡ old) ⊎ ((k : ℕ) × (k ≤ length o.bytes) × (new ≡ putting old o.name (take k o.bytes)))

-- A write to this name failed: the outputs before it are whole, and those behind it are untouched.
abbrev pub IsTorn : Option Files → Option Files → List OutputFields → List ℕ → Type 0
-- of no output no write fails
IsTorn old new [] name = ⊥
IsTorn old new (o ∷ outputs) name =
    ((name ≡ o.name) × IsLeft old new o) ⊎ IsTorn (putting old o.name o.bytes) new outputs name

-- each name but these holds what it held
abbrev pub KeepsAllBut : List (List ℕ) → Option Files → Option Files → Type 0
KeepsAllBut names None after = after ≡ None
KeepsAllBut names (Some files) after =
    (later : Files) × (after ≡ Some later)
    × ((name : List ℕ) → All (λ output. name ≢ output) names → get later name ≡ get files name)
