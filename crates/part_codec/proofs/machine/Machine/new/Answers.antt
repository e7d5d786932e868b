use Rattle.std.proofs.Common.{refl}
use Rattle.part_codec.proofs.MachineStands.{stands-new}
use Rattle.part_codec.proofs.machine.Machine.new.Goals as goal

pub returns-clause-stands : goal.returns-clause-stands
returns-clause-stands c = stands-new _ refl refl refl refl refl refl refl refl refl refl
