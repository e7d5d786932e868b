use Rattle.claim_core.proofs.Played.{seats_draw}
use Rattle.claim_core.proofs.schedule.seats_draw_the_schedule.Goals as goal

pub returns : goal.returns
returns c = seats_draw
