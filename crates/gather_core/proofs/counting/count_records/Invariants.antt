use Rattle.std.proofs.Common.{◌≡◌}
use Rattle.job_core.specs.JobLayout.{JobTexts}
use Rattle.job_core.specs.Walks.{HasRead, left_of}
use Rattle.gather_core.proofs.counting.count_records.Given as goal

abbrev pub invariant-loop-records : goal.invariant-loop-records
invariant-loop-records l = (t : JobTexts) × HasRead l.fn.limits l.records l.bytes t × (l.epoch ≡ t.epoch)

abbrev pub decreases-loop-records : goal.decreases-loop-records
decreases-loop-records l = left_of l.records
