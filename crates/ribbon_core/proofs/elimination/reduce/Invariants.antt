use Rattle.std.proofs.Common.{◌≡◌, ◌-◌, ◌%◌, length}
use Rattle.ribbon_core.proofs.Reduction.{Reducing}
use Rattle.ribbon_core.proofs.elimination.reduce.Given as goal

abbrev pub invariant-loop-coeffs : goal.invariant-loop-coeffs
invariant-loop-coeffs l = record {
  reducing : Reducing l.fn.coeffs l.fn.targets l.coeffs l.targets l.start l.fn.coeff l.fn.target l.planes l.at l.coeff l.target;
  odd : l.coeff % 2 ≡ 1;
}

abbrev pub decreases-loop-coeffs : goal.decreases-loop-coeffs
decreases-loop-coeffs l = length l.fn.coeffs - l.at
