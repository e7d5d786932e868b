use Rattle.std.proofs.Common.{◌≡◌, Some, ap, arith}
use Rattle.view_core.specs.Stages.{head_of}
use Rattle.view_core.proofs.Endings.{stage_ends, stage_within}
use Rattle.view_core.proofs.ends.stage_end.Goals as goal

pub returns-then-bytes-stage-clause-value : goal.returns-then-bytes-stage-clause-value
returns-then-bytes-stage-clause-value c = λ s fits planes stands.
    let stage = c.in_ok-stage.ensures.value s fits stands in
    let is : c.in_ok-stage.stage ≡ head_of s c.args.at = cc in
    let ends = stage_ends s c.args.at c.args.count c.words_for.result c.in_ok-stage.stage is planes c.words_for.ensures in
    absurd (omega (arith, ends, stage_within c.args.bytes.now s c.args.at stands, c.if-bytes-stage.true))

pub returns-clause-value : goal.returns-clause-value
returns-clause-value c = λ s fits planes stands.
    let stage = c.in_ok-stage.ensures.value s fits stands in
    let is : c.in_ok-stage.stage ≡ head_of s c.args.at = cc in
    ap Some (stage_ends s c.args.at c.args.count c.words_for.result c.in_ok-stage.stage is planes c.words_for.ensures)
