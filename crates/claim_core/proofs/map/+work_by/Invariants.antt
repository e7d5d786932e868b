use Rattle.std.proofs.Common.{◌+◌, ◌*◌}
use Rattle.claim_core.proofs.map.+work_by.Given as goal

-- a closure comes just above the call in it
abbrev pub decreases-work_by : goal.decreases-work_by
decreases-work_by g l = l.workers * 2

abbrev pub decreases-front : goal.decreases-front
decreases-front g l = l.half * 2 + 1

abbrev pub decreases-back : goal.decreases-back
decreases-back g l = l.rest * 2 + 1
