use Rattle.card_core.proofs.ShardLaws.{refused_no_filter}
use Rattle.card_core.proofs.laws.refused_has_no_filter.Goals as goal

pub returns : goal.returns
returns c = refused_no_filter
