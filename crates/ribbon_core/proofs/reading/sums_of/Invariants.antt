use Rattle.std.proofs.Common.{◌≡◌, ℕ, ◌^◌, ◌<◌, get_or}
use Rattle.std.specs.Int.{bit_at}
use Rattle.ribbon_core.specs.Equations.{parity}
use Rattle.ribbon_core.proofs.reading.sums_of.Given as goal

abbrev pub invariant-loop-plane : goal.invariant-loop-plane
invariant-loop-plane g l = record {
  sums : (q : ℕ) → q < l.plane → bit_at l.sums q ≡ parity (get_or l.lanes q 0);
  few_planes : l.sums < 2 ^ l.plane;
}
