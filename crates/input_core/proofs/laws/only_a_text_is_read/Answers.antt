use Rattle.input_core.proofs.QueryReads.{queries-found}
use Rattle.input_core.proofs.laws.only_a_text_is_read.Goals as goal

pub returns : goal.returns
returns c = λ bytes qs n fits h. queries-found bytes qs n fits h
