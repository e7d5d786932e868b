use Rattle.builder_core.proofs.Existing.{blocks_or_refusal}
use Rattle.builder_core.proofs.existence.blocks_or_a_refusal.Goals as goal

pub returns : goal.returns
returns c = blocks_or_refusal
