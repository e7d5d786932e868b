-- What a system keeps.
use Rattle.std.specs.Prelude.{◌≡◌, ℕ, ◌+◌, ◌≤◌, List, [], ◌∷◌, length, get_or, drop, if◌then◌else◌, ◌==◌}
use Rattle.equation_core.specs.Sizes.{words_for}
use Rattle.equation_core.specs.declared.hash.TheConstants.{MAX_PLANES}
use Rattle.equation_core.specs.declared.sizes.TheConstants.{MAX_STARTS}
use Rattle.ribbon_core.specs.Equations.{Equation}
use Rattle.ribbon_core.specs.Bands.{AreBanded}
use Rattle.ribbon_core.specs.PlaneWords.{kept_length}

-- what a public contract sees of a system
pub record Kept : Type 0 where
  pub starts : ℕ
  pub planes : ℕ
  pub equations : List Equation

-- the equations of the columns with a coefficient, from column `at` on
unfoldable pub kept_from : ℕ → List ℕ → List ℕ → List Equation
kept_from at [] targets = []
kept_from at (c ∷ coeffs) targets =
    if c == 0 then kept_from (at + 1) coeffs (drop 1 targets)
    else record { start = at; coeff = c; targets = get_or targets 0 0 } ∷ kept_from (at + 1) coeffs (drop 1 targets)

-- the fields of a system
pub record IsSystem (starts planes : ℕ) (coeffs targets words : List ℕ) : Type 0 where
  pub some_starts : 1 ≤ starts
  pub few_starts : starts ≤ MAX_STARTS
  pub some_planes : 1 ≤ planes
  pub few_planes : planes ≤ MAX_PLANES
  pub columns : length coeffs ≡ starts + 127
  pub bands : AreBanded coeffs targets planes
  pub room : length words ≡ kept_length planes (words_for starts)
