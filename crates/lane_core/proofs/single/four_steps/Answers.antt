use Rattle.std.proofs.Common.{ap, arith, ◌∙◌}
use Rattle.sha2.specs.Sha256.{rounds}
use Rattle.lane_core.specs.Lanes.{lane}
use Rattle.lane_core.proofs.single.four_steps.Goals as goal

pub returns : goal.returns
returns c h before =
    let after = rounds h (lane c.args.j c.args.w.now) in
    let one = c.step-v.ensures h before in
    let two = c.step-v-2.ensures h one in
    let three = c.step-v-3.ensures h (two ∙ ap after (omega arith)) in
    c.step.ensures h (three ∙ ap after (omega arith)) ∙ ap after (omega arith)
