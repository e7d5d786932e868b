use Rattle.std.proofs.Common.{arith, ◌≡◌, ◌+◌, ◌-◌}
use Rattle.ribbon_core.specs.Bands.{columns_from}
use Rattle.ribbon_core.proofs.BackSubstitution.{columns_step}
use Rattle.ribbon_core.proofs.substitution.columns_down.Goals as goal

pub loop-at-preserved : goal.loop-at-preserved
loop-at-preserved c =
    let e : c.loop-at.at - 1 + 1 ≡ c.loop-at.at = omega arith in
    record {
      order = omega arith;
      above = λ plane lt.
          let s = columns_step plane c.args.coeffs.now c.args.targets.now (c.loop-at.at - 1) (omega arith) in
          let s' = rw e at s in
          rw s' (c.column_down.ensures plane lt (columns_from plane c.args.coeffs.now c.args.targets.now c.loop-at.at) (c.loop-at.invariant.above plane lt));
    }

pub returns : goal.returns
returns c = let e : c.loop-at.at ≡ c.args.from = omega arith in let h = c.loop-at.invariant.above in rw e at h
