use Rattle.input_core.proofs.QueryTexts.{queries-again}
use Rattle.input_core.proofs.laws.a_text_is_read_back.Goals as goal

pub returns : goal.returns
returns c = λ qs fits. queries-again qs fits
