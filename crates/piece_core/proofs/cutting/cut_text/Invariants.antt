use Rattle.job_core.specs.declared.bounds.TheConstants.Limits as limits
use Rattle.job_core.specs.JobLayout.{JobTexts}
use Rattle.job_core.specs.Walks.{HasRead, left_of}
use Rattle.piece_core.proofs.Fronts.{Front}
use Rattle.piece_core.proofs.cutting.cut_text.Given as goal

abbrev pub invariant-loop-record : goal.invariant-loop-record
invariant-loop-record l = (t : JobTexts) × HasRead limits.PUBLISHED l.records l.bytes t × Front l.by l.count t l.texts.items

abbrev pub decreases-loop-record : goal.decreases-loop-record
decreases-loop-record l = left_of l.records
