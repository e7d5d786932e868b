use Rattle.std.proofs.Common.{refl, sym}
use Rattle.sha2.proofs.Schedule256.{rounds_first}
use Rattle.lane_core.specs.Lanes.{lane}
use Rattle.lane_core.proofs.Vectors.{lane_word}
use Rattle.lane_core.proofs.compression.first_step.Goals as goal

pub returns : goal.returns
returns c j lt b h window held =
    rounds_first b h (lane j c.args.w.now) (lane j c.args.v) c.args.t _ _ _ c.requires window held refl
    (sym (lane_word j c.args.w.now c.args.t)) (c.round.ensures j lt)
