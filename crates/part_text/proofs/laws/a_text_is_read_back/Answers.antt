use Rattle.part_text.proofs.PartTexts.{part-again}
use Rattle.part_text.proofs.laws.a_text_is_read_back.Goals as goal

pub returns : goal.returns
returns c = λ s rest fits. part-again s rest fits
