use Rattle.std.proofs.Common.{rules}
use Rattle.claim_core.proofs.Kept.{draws}
use Rattle.claim_core.proofs.claims.Claims.draw.Goals as goal

pub fetch_add-number-requires : goal.fetch_add-number-requires
fetch_add-number-requires c = (search rules, search rules, draws _ _ c.seat.inside.seat.me c.seat.invariant.0)
