use Rattle.card_core.proofs.Cuts.{cut_is}
use Rattle.card_core.proofs.Joining.{shards_make, shard_refuses}
use Rattle.card_core.proofs.laws.cuts_are_of_shards.Goals as goal

pub returns : goal.returns
returns c = record {
  cut = cut_is;
  joined = shards_make;
  refused = shard_refuses;
}
