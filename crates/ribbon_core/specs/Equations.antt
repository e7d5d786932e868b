-- Equations over columns of zeros and ones. A vector of columns is a number: column c is its bit c, 0 the lowest.
use Rattle.std.specs.Prelude.{◌≡◌, ℕ, ◌*◌, ◌/◌, ◌%◌, ◌^◌, ◌<◌, ◌≢◌, ◌↔◌, List, [], ◌∷◌, bit_and, count_ones}
use Rattle.std.specs.List.{All}
use Rattle.std.specs.Int.{bit_at}

-- Bit j of the coefficient is for column start + j, and bit p of targets is the target in plane p.
pub record Equation : Type 0 where
  pub start : ℕ
  pub coeff : ℕ
  pub targets : ℕ

abbrev pub equation_at : ℕ → ℕ → ℕ → Equation
equation_at start coeff targets = record { start = start; coeff = coeff; targets = targets }

-- 1 where an odd number of bits of n is set, else 0
unfoldable pub parity : ℕ → ℕ
parity n = count_ones n % 2

-- the sum modulo 2 of the columns that the coefficient chooses
abbrev pub sum_of : Equation → ℕ → ℕ
sum_of e Z = parity (bit_and e.coeff (Z / 2 ^ e.start))

abbrev pub Solves : ℕ → Equation → ℕ → Type 0
Solves plane e Z = sum_of e Z ≡ bit_at e.targets plane

abbrev pub SolvesAll : ℕ → List Equation → ℕ → Type 0
SolvesAll plane es Z = All (λ e. Solves plane e Z) es

-- some vector solves all equations of the plane
abbrev pub IsSolvable : ℕ → List Equation → Type 0
IsSolvable plane es = (Z : ℕ) × SolvesAll plane es Z

-- Y has a one and Z a zero at the highest column where the two differ
abbrev pub IsBelow : ℕ → ℕ → Type 0
IsBelow Z Y = (c : ℕ) × (bit_at Z c ≡ 0) × (bit_at Y c ≡ 1) × ((d : ℕ) → c < d → bit_at Z d ≡ bit_at Y d)

-- Z solves the equations of the plane, and is below any other solution
abbrev pub Least : ℕ → List Equation → ℕ → Type 0
Least plane es Z = SolvesAll plane es Z × ((Y : ℕ) → SolvesAll plane es Y → Y ≢ Z → IsBelow Z Y)

-- The coefficient chooses its first column, and ends within the columns.
pub record IsEquation (columns : ℕ) (e : Equation) : Type 0 where
  pub odd : e.coeff % 2 ≡ 1
  pub within : e.coeff * 2 ^ e.start < 2 ^ columns

-- In each plane, the solutions after are those that the equations before and the new one have in common.
abbrev pub IsAdded : List Equation → Equation → List Equation → Type 0
IsAdded before e after = (plane Z : ℕ) → SolvesAll plane after Z ↔ (SolvesAll plane before Z × Solves plane e Z)

-- in some plane the equations and the new one have no common solution
abbrev pub IsContradicted : ℕ → List Equation → Equation → Type 0
IsContradicted planes es e = (plane : ℕ) × (plane < planes) × ((Z : ℕ) → SolvesAll plane es Z → Solves plane e Z → ⊥)

-- equations were added one after the other
abbrev pub AreAdded : List Equation → List Equation → List Equation → Type 0
AreAdded before [] after = before ≡ after
AreAdded before (e ∷ es) after = (next : List Equation) × IsAdded before e next × AreAdded next es after
