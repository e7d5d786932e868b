-- Which words go to a device, and how the program ends where it has no words.
use Rattle.std.specs.Prelude.{◌≡◌, ◌⊎◌, ℕ, List, ◌∷◌, Option, Some, None, codes, if◌then◌else◌, nat_eq}
use Rattle.std.specs.List.{starts_with}
use Rattle.line_core.specs.Statuses as status

-- the second word, where the first begins with `device-`
abbrev pub device_named : List (List ℕ) → Option (List ℕ)
device_named (command ∷ device ∷ words) = if starts_with nat_eq command (codes "device-") then Some device else None
device_named words = None

-- the statuses where the words aren't had
abbrev pub IsOfWords : ℕ → Type 0
IsOfWords n = (n ≡ status.no_memory) ⊎ (n ≡ status.usage)
