use Rattle.builder_core.proofs.OutcomesInPlace.{all_in_order}
use Rattle.builder_core.proofs.outcomes.outcomes_of.Goals as goal

pub returns-in-Cut : goal.returns-in-Cut
returns-in-Cut g c =
    all_in_order (g.H.EquationHash.row_of c.args.hash.now) c.args.tasks.now c.share_map.result c.share_map.ensures.count c.share_map.ensures.in_place

pub returns-in-Claimed : goal.returns-in-Claimed
returns-in-Claimed g c =
    all_in_order (g.H.EquationHash.row_of c.args.hash.now) c.args.tasks.now c.claim_map.result c.claim_map.ensures.count c.claim_map.ensures.in_place
