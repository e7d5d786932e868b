use Rattle.std.proofs.Common.{◌≡◌, ℕ, ◌%◌, ◌^◌, ◌<◌, ◌≤◌, get_or}
use Rattle.std.specs.Int.{bit_at}
use Rattle.ribbon_core.specs.Bands.{column_before}
use Rattle.ribbon_core.proofs.substitution.column_down.Given as goal

abbrev pub invariant-loop-plane : goal.invariant-loop-plane
invariant-loop-plane l = record {
  passed : (plane : ℕ) → plane < l.plane → (h : ℕ) → get_or l.fn.windows plane 0 ≡ h % 2 ^ 128 → get_or l.windows plane 0 ≡ column_before l.coeff (bit_at l.target plane) h % 2 ^ 128;
  others : (plane : ℕ) → l.plane ≤ plane → get_or l.windows plane 0 ≡ get_or l.fn.windows plane 0;
}
