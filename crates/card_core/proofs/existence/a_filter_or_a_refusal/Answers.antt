use Rattle.card_core.proofs.Existing.{filter_or_refusal}
use Rattle.card_core.proofs.existence.a_filter_or_a_refusal.Goals as goal

pub returns : goal.returns
returns c = filter_or_refusal
