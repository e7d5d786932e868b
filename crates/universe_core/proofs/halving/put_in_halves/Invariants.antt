use Rattle.std.specs.Prelude.{IsPermutation}
use Rattle.universe_core.proofs.Halves.{goes_before}
use Rattle.universe_core.proofs.Parting.{ArePut}
use Rattle.universe_core.proofs.halving.put_in_halves.Given as goal

abbrev pub invariant-loop-i : goal.invariant-loop-i
invariant-loop-i l = record {
  same : IsPermutation l.initial.entries l.entries;
  put : ArePut (goes_before l.cut) l.entries l.front l.i;
}
