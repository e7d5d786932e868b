use Rattle.std.proofs.Common.{rules}
use Rattle.claim_core.proofs.Kept.{joins}
use Rattle.claim_core.proofs.claims.Claims.join.Goals as goal

pub join_seat-requires : goal.join_seat-requires
join_seat-requires c =
    (search rules, search rules, search rules, search rules, joins _ c.seat.inside.seat.me.0 _ c.other.inside.seat.me.0 c.seat.invariant.0)
