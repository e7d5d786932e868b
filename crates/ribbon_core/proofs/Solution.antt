-- The bands of a plane have a solution, and a least one.
use Rattle.std.proofs.Common.{◌≡◌, ℕ, ◌+◌, ◌^◌, ◌<◌, ◌≤◌, inl, inr, refl, arith, List, length, get_or}
use Rattle.std.specs.Int.{bit_at}
use Rattle.std.proofs.lemmas.Nat.Bits.{bit_at-lt, bit_at-zero}
use Rattle.ribbon_core.specs.Bands.{SolvesBands, AreBanded, solution_from}
use Rattle.ribbon_core.proofs.Bands.{back-solves, back-le, back-lt, AreBands}

from_zero : (d : ℕ) → 0 + d ≡ d
from_zero d = omega arith

abbrev pub coeff_at : List ℕ → ℕ → ℕ
coeff_at cs p = get_or cs p 0

abbrev pub target_at : List ℕ → ℕ → ℕ → ℕ
target_at ts plane p = bit_at (get_or ts p 0) plane

module _ (plane planes : ℕ) (cs ts : List ℕ) (bands : AreBanded cs ts planes) where
  pub are_bands : (p m : ℕ) → p + m ≤ length cs → AreBands (coeff_at cs) (target_at ts plane) p m
  are_bands p m le d lt = (
    bit_at-lt (get_or ts (p + d) 0) plane,
    elim (bands.pivots (p + d) (omega arith)) [
      | inl o ↦ inl o
      | inr e ↦ inr (e.0, rw (e.1, bit_at-zero) refl)
    ],
  )

  pub solution_solves : SolvesBands plane cs ts (solution_from plane cs ts 0 (length cs))
  solution_solves p lt = let k = back-solves (coeff_at cs) (target_at ts plane) 0 (length cs) (are_bands 0 (length cs) (omega arith)) p lt in rw from_zero at k

  pub solution_le : (Y : ℕ) → SolvesBands plane cs ts Y → solution_from plane cs ts 0 (length cs) ≤ Y
  solution_le Y s = back-le (coeff_at cs) (target_at ts plane) 0 (length cs) Y (are_bands 0 (length cs) (omega arith)) (λ d lt. rw from_zero (s d lt))

  pub solution_lt : solution_from plane cs ts 0 (length cs) < 2 ^ length cs
  solution_lt = back-lt (coeff_at cs) (target_at ts plane) 0 (length cs) (are_bands 0 (length cs) (omega arith))
