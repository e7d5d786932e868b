use Rattle.std.proofs.Common.{◌+◌, ◌*◌, length}
use Rattle.stage_core.proofs.in_threads.+rows_in_threads.Given as goal

-- a closure comes just above the call in it
abbrev pub decreases-rows_in_threads : goal.decreases-rows_in_threads
decreases-rows_in_threads g l = length l.flags.now * 2

abbrev pub decreases-front : goal.decreases-front
decreases-front g l = length l.first_flags.now * 2 + 1

abbrev pub decreases-back : goal.decreases-back
decreases-back g l = length l.rest_flags.now * 2 + 1
