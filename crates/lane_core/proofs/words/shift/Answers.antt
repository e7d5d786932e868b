use Rattle.lane_core.proofs.Vectors.{shifted}
use Rattle.lane_core.proofs.words.shift.Goals as goal

pub returns : goal.returns
returns c j h = shifted c.args.x c.args.k j c.fits-x.0 h
