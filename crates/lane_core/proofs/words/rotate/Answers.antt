use Rattle.lane_core.proofs.Vectors.{rotated}
use Rattle.lane_core.proofs.words.rotate.Goals as goal

pub returns : goal.returns
returns c j h = rotated c.args.x c.args.k j c.requires.0 c.requires.1 c.fits-x.0 h
