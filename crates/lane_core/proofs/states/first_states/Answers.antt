use Rattle.std.proofs.Common.{arith}
use Rattle.lane_core.proofs.Vectors.{each_lane}
use Rattle.lane_core.proofs.states.first_states.Goals as goal

pub returns : goal.returns
returns c =
    each_lane _ (c.after_block.ensures 0 (omega arith)) (c.after_block.ensures 1 (omega arith))
    (c.after_block.ensures 2 (omega arith)) (c.after_block.ensures 3 (omega arith))
