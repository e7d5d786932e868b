use Rattle.builder_core.proofs.FirstRefused.{refused_no_blocks}
use Rattle.builder_core.proofs.laws.refused_has_no_blocks.Goals as goal

pub returns : goal.returns
returns c = refused_no_blocks
