use Rattle.std.proofs.Common.{◌≡◌, ℕ, ◌-◌, ◌*◌, ◌%◌, ◌^◌, ◌<◌, get_or}
use Rattle.ribbon_core.specs.Bands.{columns_from}
use Rattle.ribbon_core.specs.PlaneWords.{number_by, kept_word}
use Rattle.ribbon_core.proofs.substitution.solve_planes.Given as goal

abbrev pub invariant-loop-i : goal.invariant-loop-i
invariant-loop-i l = record {
  windows : (plane : ℕ) → plane < l.planes → get_or l.windows plane 0 ≡ columns_from plane l.coeffs l.targets (64 * l.i) % 2 ^ 128;
  words : (plane : ℕ) → plane < l.planes → number_by (kept_word l.words l.planes plane) l.i (l.width - l.i) ≡ columns_from plane l.coeffs l.targets (64 * l.i);
}
