use Rattle.card_core.proofs.Existing.{leaf_or_refusal}
use Rattle.card_core.proofs.existence.a_leaf_or_a_refusal.Goals as goal

pub returns : goal.returns
returns c = leaf_or_refusal
