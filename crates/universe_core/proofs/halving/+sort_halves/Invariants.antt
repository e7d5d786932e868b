use Rattle.std.proofs.Common.{◌+◌, ◌*◌}
use Rattle.universe_core.proofs.halving.+sort_halves.Given as goal

-- a closure comes just above the call in it
abbrev pub decreases-sort_halves : goal.decreases-sort_halves
decreases-sort_halves g l = l.threads * 2

abbrev pub decreases-front : goal.decreases-front
decreases-front g l = l.half * 2 + 1

abbrev pub decreases-back : goal.decreases-back
decreases-back g l = l.other * 2 + 1
