use Rattle.lane_core.proofs.Majority.{majority}
use Rattle.lane_core.proofs.single.maj.Goals as goal

pub returns : goal.returns
returns c = majority c.args.x c.args.y c.args.z
