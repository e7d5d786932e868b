-- Outputs with the places that they are of.
use Rattle.std.specs.Prelude.{◌≡◌, ◌<◌, ℕ, List, length, map, Option, Some}
use Rattle.std.specs.List.{slice_get}
use Rattle.claim_core.specs.declared.outputs.Done.{Done}

-- it is an output that its place may give, of one of the places below n
abbrev pub IsDone : {X : Type 0} → ℕ → (ℕ → X → Type 0) → Done X → Type 0
IsDone n gives d = (d.place < n) × gives d.place d.output

-- each output is one that its place may give
abbrev pub IsInPlace : {X : Type 0} → (ℕ → X → Type 0) → List X → Type 0
IsInPlace {X} gives outputs = (place : ℕ) (output : X) → slice_get outputs place ≡ Some output → gives place output

-- the same where some places have no output yet
abbrev pub IsPartlyInPlace : {X : Type 0} → (ℕ → X → Type 0) → List (Option X) → Type 0
IsPartlyInPlace {X} gives outputs = (place : ℕ) (output : X) → slice_get outputs place ≡ Some (Some output) → gives place output

-- the place has an output
abbrev pub HasOutput : {X : Type 0} → List (Option X) → ℕ → Type 0
HasOutput {X} outputs place = (output : X) × (slice_get outputs place ≡ Some (Some output))

-- Where each place below n may give outputs of one view alone, all lists of so many outputs in place have one view. The
-- view is what counts of an output, or the output itself.
abbrev pub OutputsAreUnique : {X Y : Type 0} → (X → Y) → (ℕ → X → Type 0) → Type 0
OutputsAreUnique {X} view gives = (n : ℕ) → ((place : ℕ) (x y : X) → place < n → gives place x → gives place y → view x ≡ view y)
    → (xs ys : List X) → length xs ≡ n → length ys ≡ n → IsInPlace gives xs → IsInPlace gives ys → map view xs ≡ map view ys
