use Rattle.part_text.proofs.PartOfFields.{sealed-of}
use Rattle.part_text.proofs.laws.bytes_behind_change_nothing.Goals as goal

pub returns : goal.returns
returns c = sealed-of
