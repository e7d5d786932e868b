use Rattle.claim_core.proofs.Places.{in_place_unique}
use Rattle.claim_core.proofs.work.outputs_are_unique.Goals as goal

pub returns : goal.returns
returns g c = λ jobs view. in_place_unique view (g.W.Work.gives jobs)
