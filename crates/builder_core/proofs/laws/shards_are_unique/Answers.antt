use Rattle.builder_core.proofs.RunsDrawn.{drawn_once}
use Rattle.builder_core.proofs.laws.shards_are_unique.Goals as goal

pub returns : goal.returns
returns c = drawn_once
