use Rattle.std.proofs.Common.{refl}
use Rattle.stage_core.proofs.passing.is_row_false_positive.Goals as goal

pub returns-then-revoked : goal.returns-then-revoked
returns-then-revoked c id = rw c.if-revoked.true refl

pub returns : goal.returns
returns c id = rw c.if-revoked.false (c.row_passes_from.ensures id)
