use Rattle.lane_core.specs.Lanes.{lane}
use Rattle.std.proofs.Common.{sym}
use Rattle.lane_core.proofs.Rounds.{after_round}
use Rattle.lane_core.proofs.Vectors.{lane_word}
use Rattle.lane_core.proofs.single.step.Goals as goal

pub returns : goal.returns
returns c h before =
    after_round h (lane c.args.j c.args.w.now) c.args.v _ c.args.t _ before (sym (lane_word c.args.j c.args.w.now c.args.t)) c.round.ensures
