use Rattle.builder_core.proofs.GroupBlocks.{group_exact}
use Rattle.builder_core.proofs.laws.group_block_is_exact.Goals as goal

pub returns : goal.returns
returns c = group_exact
