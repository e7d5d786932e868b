use Rattle.std.proofs.Common.{◌≡◌, ℕ, ◌%◌, ◌^◌, ◌<◌, ◌≤◌, get_or}
use Rattle.ribbon_core.specs.Bands.{columns_from}
use Rattle.ribbon_core.proofs.substitution.columns_down.Given as goal

abbrev pub invariant-loop-at : goal.invariant-loop-at
invariant-loop-at l = record {
  order : l.from ≤ l.at;
  above : (plane : ℕ) → plane < l.planes → get_or l.windows plane 0 ≡ columns_from plane l.coeffs l.targets l.at % 2 ^ 128;
}
