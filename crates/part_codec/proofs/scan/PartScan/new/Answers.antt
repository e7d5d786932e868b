use Rattle.std.proofs.Common.{[], refl}
use Rattle.part_codec.specs.Collecting.{nothing_piled}
use Rattle.part_codec.proofs.MachineStands.{hashes-new}
use Rattle.part_codec.proofs.Readings.{read-new}
use Rattle.part_codec.proofs.scan.PartScan.new.Goals as goal

pub invariant_of-result : goal.invariant_of-result
invariant_of-result c = record {
  partial = λ none goes. c.new-machine.ensures.partial;
  read = λ none. ∣ (
    [],
    (nothing_piled, tt, read-new c.new-machine.result nothing_piled c.new-machine.ensures.stands c.new-machine.ensures.field refl),
    hashes-new c.new-machine.result c.new-hasher.result c.new-hasher.ensures,
  ) ∣₁;
}

pub returns-clause-stands : goal.returns-clause-stands
returns-clause-stands c = (
  (nothing_piled, tt, read-new c.new-machine.result nothing_piled c.new-machine.ensures.stands c.new-machine.ensures.field refl),
  hashes-new c.new-machine.result c.new-hasher.result c.new-hasher.ensures,
)
