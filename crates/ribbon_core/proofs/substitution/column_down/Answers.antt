use Rattle.std.proofs.Common.{◌≢◌, ◌<◌, length, arith, ◌∙◌, below_more}
use Rattle.std.proofs.lemmas.List.{get_or-set_other, get_or-set_same}
use Rattle.ribbon_core.proofs.substitution.column_down.Goals as goal

pub loop-plane-preserved : goal.loop-plane-preserved
loop-plane-preserved c =
    let at : c.loop-plane.plane < length c.loop-plane.windows = omega (arith, c.loop-plane.auto.windows, c.requires.room) in
    record {
      passed = below_more _ _
          (λ plane lt h e. let ne : plane ≢ c.loop-plane.plane = omega arith in rw get_or-set_other (c.loop-plane.invariant.passed plane lt h e))
          (λ h e. rw get_or-set_same (c.column.ensures h (c.loop-plane.invariant.others c.loop-plane.plane (omega arith) ∙ e)));
      others = λ plane le. let ne : plane ≢ c.loop-plane.plane = omega arith in rw get_or-set_other (c.loop-plane.invariant.others plane (omega arith));
    }
