use Rattle.std.proofs.Common.{◌+◌, ◌*◌, length}
use Rattle.universe_core.proofs.flagging.+flag_halves.Given as goal

-- a closure comes just above the call in it
abbrev pub decreases-flag_halves : goal.decreases-flag_halves
decreases-flag_halves g l = length l.members.now * 2

abbrev pub decreases-front : goal.decreases-front
decreases-front g l = length l.first.now * 2 + 1

abbrev pub decreases-back : goal.decreases-back
decreases-back g l = length l.rest.now * 2 + 1
