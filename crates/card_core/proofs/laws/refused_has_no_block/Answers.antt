use Rattle.card_core.proofs.FilterLaws.{refused_no_block}
use Rattle.card_core.proofs.laws.refused_has_no_block.Goals as goal

pub returns : goal.returns
returns c = refused_no_block
