use Rattle.builder_core.proofs.GroupBlocks.{blocks_unique}
use Rattle.builder_core.proofs.laws.group_blocks_are_unique.Goals as goal

pub returns : goal.returns
returns c = blocks_unique
