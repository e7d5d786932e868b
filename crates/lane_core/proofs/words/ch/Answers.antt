use Rattle.lane_core.proofs.Vectors.{chosen}
use Rattle.lane_core.proofs.words.ch.Goals as goal

pub returns : goal.returns
returns c j h = chosen c.args.x c.args.y c.args.z j c.fits-x.0 c.fits-y.0 c.fits-z.0 h
