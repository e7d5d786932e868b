use Rattle.card_core.proofs.ShardLaws.{filter_refused_once}
use Rattle.card_core.proofs.laws.one_stage_refuses_filter.Goals as goal

pub returns : goal.returns
returns c = filter_refused_once
