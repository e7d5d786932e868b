use Rattle.builder_core.proofs.Shifts.{shifts_greatest}
use Rattle.builder_core.proofs.laws.shifts_are_greatest.Goals as goal

pub returns : goal.returns
returns c = shifts_greatest
