use Rattle.input_core.proofs.QueryTexts.{queries-same}
use Rattle.input_core.proofs.laws.queries_of_one_text_are_the_same.Goals as goal

pub returns : goal.returns
returns c = λ qs rs fits others is. queries-same qs rs fits others is
