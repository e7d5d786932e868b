use Rattle.card_core.proofs.ShardLaws.{shard_once}
use Rattle.card_core.proofs.laws.one_shard_is_refused.Goals as goal

pub returns : goal.returns
returns c = shard_once
