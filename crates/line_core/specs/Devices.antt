-- The lines about a device (docs/FORMATS.md, "Lines and statuses").
use Rattle.std.specs.Prelude.{ℕ, List, ◌∷◌, [], ◌++◌, codes, decimal}

-- device AT DEVICE
abbrev pub device_line : ℕ → List ℕ → List ℕ
device_line at name = codes "device " ++ decimal at ++ 32 ∷ name ++ 10 ∷ []

-- device-full CAPACITY DEVICE
abbrev pub full_line : ℕ → List ℕ → List ℕ
full_line capacity name = codes "device-full " ++ decimal capacity ++ 32 ∷ name ++ 10 ∷ []
