use Rattle.std.proofs.Common.{rules}
use Rattle.claim_core.proofs.Kept.{splits}
use Rattle.claim_core.proofs.claims.Claims.split.Goals as goal

pub split_seat-other-requires : goal.split_seat-other-requires
split_seat-other-requires c = (search rules, search rules, splits _ c.seat.inside.seat.me.0)
