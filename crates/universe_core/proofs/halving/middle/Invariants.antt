use Rattle.std.proofs.Common.{All}
use Rattle.std.specs.List.{Contains}
use Rattle.universe_core.proofs.halving.middle.Given as goal

abbrev pub invariant-loop-i : goal.invariant-loop-i
invariant-loop-i l = All (Contains l.entries) l.sample
