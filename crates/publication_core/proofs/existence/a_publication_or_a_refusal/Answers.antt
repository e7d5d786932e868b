use Rattle.publication_core.proofs.Existing.{something_published}
use Rattle.publication_core.proofs.existence.a_publication_or_a_refusal.Goals as goal

pub returns : goal.returns
returns c = something_published
