-- A system in band form: of each column the coefficient whose lowest bit stands there, or 0, and its targets.
use Rattle.std.specs.Prelude.{◌≡◌, ℕ, zero, suc, ◌+◌, ◌-◌, ◌*◌, ◌/◌, ◌%◌, ◌^◌, ◌<◌, ◌⊎◌, List, length, get_or, bit_and}
use Rattle.std.specs.Int.{bit_at}
use Rattle.ribbon_core.specs.Equations.{parity}

abbrev pub SolvesBands : ℕ → List ℕ → List ℕ → ℕ → Type 0
SolvesBands plane coeffs targets Z =
    (p : ℕ) → p < length coeffs → parity (bit_and (get_or coeffs p 0) (Z / 2 ^ p)) ≡ bit_at (get_or targets p 0) plane

-- a pivot, or no equation
abbrev pub IsPivot : ℕ → ℕ → Type 0
IsPivot coeff target = (coeff % 2 ≡ 1) ⊎ ((coeff ≡ 0) × (target ≡ 0))

-- Each column has an odd coefficient, which ends within the columns, or none.
pub record AreBanded (coeffs targets : List ℕ) (planes : ℕ) : Type 0 where
  pub same_length : length targets ≡ length coeffs
  pub pivots : (p : ℕ) → p < length coeffs → IsPivot (get_or coeffs p 0) (get_or targets p 0)
  pub within : (p : ℕ) → p < length coeffs → get_or coeffs p 0 < 2 ^ (length coeffs - p)
  pub few_planes : (p : ℕ) → p < length coeffs → get_or targets p 0 < 2 ^ planes

-- One column more, below those of h: it is forced by its pivot, or 0.
unfoldable pub column_before : ℕ → ℕ → ℕ → ℕ
column_before coeff target h = 2 * h + coeff % 2 * ((target + parity (bit_and coeff (2 * h))) % 2)

-- the m columns from p on, with coefficients f and targets g, where no other column is set
unfoldable pub back : (ℕ → ℕ) → (ℕ → ℕ) → ℕ → ℕ → ℕ
back f g p zero = 0
back f g p (suc m) = column_before (f p) (g p) (back f g (suc p) m)

abbrev pub solution_from : ℕ → List ℕ → List ℕ → ℕ → ℕ → ℕ
solution_from plane coeffs targets p m = back (λ c. get_or coeffs c 0) (λ c. bit_at (get_or targets c 0) plane) p m

-- the columns from p on that solve a plane
abbrev pub columns_from : ℕ → List ℕ → List ℕ → ℕ → ℕ
columns_from plane coeffs targets p = solution_from plane coeffs targets p (length coeffs - p)
