use Rattle.std.proofs.Common.{arith}
use Rattle.lane_core.proofs.Majority.{choice}
use Rattle.lane_core.proofs.single.ch.Goals as goal

pub returns : goal.returns
returns c = choice c.args.x c.args.y c.args.z (omega arith) (omega arith) (omega arith)
