use Rattle.std.proofs.Common.{[], refl}
use Rattle.part_codec.proofs.MachineStands.{hashes-new}
use Rattle.part_codec.proofs.Readings.{read-new}
use Rattle.part_codec.proofs.reader.PartReader.new.Goals as goal

pub invariant_of-result : goal.invariant_of-result
invariant_of-result c = record {
  partial = λ none goes. c.new-machine.ensures.partial;
  read = λ none. ∣ (
    [],
    (c.new-pile.result, refl, read-new c.new-machine.result c.new-pile.result c.new-machine.ensures.stands c.new-machine.ensures.field c.new-pile.ensures),
    hashes-new c.new-machine.result c.new-hasher.result c.new-hasher.ensures,
  ) ∣₁;
}

pub returns-clause-stands : goal.returns-clause-stands
returns-clause-stands c = (
  (c.new-pile.result, refl, read-new c.new-machine.result c.new-pile.result c.new-machine.ensures.stands c.new-machine.ensures.field c.new-pile.ensures),
  hashes-new c.new-machine.result c.new-hasher.result c.new-hasher.ensures,
)
