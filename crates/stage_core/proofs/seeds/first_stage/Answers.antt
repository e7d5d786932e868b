use Rattle.std.proofs.Common.{arith, below_more}
use Rattle.stage_core.proofs.seeds.first_stage.Goals as goal

pub loop-number-preserved : goal.loop-number-preserved
loop-number-preserved g c =
    let h = rw c.in_default.is at c.in_ok-planes.ensures.ok in
    below_more _ _ c.loop-number.invariant (λ s. h.2 (s h.0 h.1).0 (s h.0 h.1).1)

pub returns-in-Some-clause-ok : goal.returns-in-Some-clause-ok
returns-in-Some-clause-ok g c =
    let h = rw c.in-Some.is at c.in_ok-planes.ensures.ok in
    record { below = omega arith; size = h.0; count = h.1; least = h.2; first = c.loop-number.invariant }
