use Rattle.card_core.proofs.LeafLaws.{refused_once}
use Rattle.card_core.proofs.laws.one_stage_is_refused.Goals as goal

pub returns : goal.returns
returns c = refused_once
