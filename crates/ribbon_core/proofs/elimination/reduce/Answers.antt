use Rattle.std.proofs.Common.{arith, ◌^◌, ◌<◌, length, get_or}
use Rattle.std.specs.Prelude.{bit_xor}
use Rattle.std.specs.Int.Bits.{xor_lt}
use Rattle.ribbon_core.proofs.Reduction.{Reducing, skipped, stored, followed, refused, reduced, reduced_even, column_in, odd_some, skips}
use Rattle.ribbon_core.proofs.elimination.reduce.Goals as goal
use Rattle.ribbon_core.proofs.elimination.reduce.Goals.{At-loop-coeffs}

in_range : (c : At-loop-coeffs) → c.loop-coeffs.at < length c.args.coeffs.now
in_range c = column_in c.args.coeffs.now c.args.targets.now c.loop-coeffs.coeffs c.loop-coeffs.targets c.args.start c.args.coeff c.args.target c.args.planes
    c.loop-coeffs.at c.loop-coeffs.coeff c.loop-coeffs.target c.requires.bands c.loop-coeffs.invariant.reducing (odd_some _ c.loop-coeffs.invariant.odd)

-- without the pivot's columns
without : (c : At-loop-coeffs) → Reducing c.args.coeffs.now c.args.targets.now c.loop-coeffs.coeffs c.loop-coeffs.targets c.args.start c.args.coeff c.args.target c.args.planes
    c.loop-coeffs.at (bit_xor c.loop-coeffs.coeff (get_or c.loop-coeffs.coeffs c.loop-coeffs.at 0)) (bit_xor c.loop-coeffs.target (get_or c.loop-coeffs.targets c.loop-coeffs.at 0))
without c = reduced c.args.coeffs.now c.args.targets.now c.loop-coeffs.coeffs c.loop-coeffs.targets c.args.start c.args.coeff c.args.target c.args.planes
    c.loop-coeffs.at c.loop-coeffs.coeff c.loop-coeffs.target c.requires.bands c.loop-coeffs.invariant.reducing c.loop-coeffs.invariant.odd

pub returns-then-pivot-eq0-clause-ok : goal.returns-then-pivot-eq0-clause-ok
returns-then-pivot-eq0-clause-ok c =
    let p = (goal.at.returns-then-pivot-eq0-clause-ok c).At-loop-coeffs in
    let r = c.loop-coeffs.invariant.reducing in
    stored c.args.coeffs.now c.args.targets.now c.args.start c.args.coeff c.args.target c.args.planes c.requires.bands
    c.loop-coeffs.coeffs c.loop-coeffs.targets _ _ c.loop-coeffs.target r.coeffs_kept r.targets_kept
    (in_range p) (rw r.coeffs_kept at c.if-pivot-eq0.true) r.same

pub returns-then-target-eq0-clause-ok : goal.returns-then-target-eq0-clause-ok
returns-then-target-eq0-clause-ok c =
    let p = (goal.at.returns-then-target-eq0-clause-ok c).At-loop-coeffs in
    let r = without p in
    followed c.args.coeffs.now c.args.targets.now c.args.start c.args.coeff c.args.target c.args.planes c.requires.bands
    c.loop-coeffs.coeffs c.loop-coeffs.targets c.loop-coeffs.at _ _ r.coeffs_kept r.targets_kept c.if-coeff-eq0.true c.if-target-eq0.true r.same

pub returns-else-target-eq0-clause-err : goal.returns-else-target-eq0-clause-err
returns-else-target-eq0-clause-err c =
    let p = (goal.at.returns-else-target-eq0-clause-err c).At-loop-coeffs in
    let r = without p in
    let old : c.loop-coeffs.target < 2 ^ 16 = omega (arith, c.loop-coeffs.auto.target-fits) in
    let more : get_or c.loop-coeffs.targets c.loop-coeffs.at 0 < 2 ^ 16 = omega (arith, c.type_inv.targets c.loop-coeffs.at) in
    refused c.args.coeffs.now c.args.targets.now c.args.start c.args.coeff c.args.target c.args.planes c.requires.bands
    c.loop-coeffs.at _ _ c.if-coeff-eq0.true c.if-target-eq0.false (xor_lt 16 _ _ old more) r.few_planes r.same

pub loop-coeffs-smaller : goal.loop-coeffs-smaller
loop-coeffs-smaller c =
    let p = (goal.at.loop-coeffs-smaller c).At-loop-coeffs in
    let lt = in_range p in
    let even = reduced_even c.args.coeffs.now c.args.targets.now c.loop-coeffs.coeffs c.loop-coeffs.targets c.args.start c.args.coeff c.args.target c.args.planes
    c.loop-coeffs.at c.loop-coeffs.coeff c.loop-coeffs.target c.requires.bands c.loop-coeffs.invariant.reducing c.loop-coeffs.invariant.odd c.if-pivot-eq0.false in
    let some = skips _ c.at_lowest-odd.result.1 even (rw c.at_lowest-odd.ensures.from_there at c.at_lowest-odd.ensures.odd) in
    omega (arith, lt, some)

pub loop-coeffs-preserved : goal.loop-coeffs-preserved
loop-coeffs-preserved c =
    let p = (goal.at.loop-coeffs-preserved c).At-loop-coeffs in
    let odd = c.at_lowest-odd.ensures.odd in
    record {
      reducing = rw c.at_lowest-odd.ensures.from_there
          (skipped c.args.coeffs.now c.args.targets.now c.loop-coeffs.coeffs c.loop-coeffs.targets c.args.start c.args.coeff c.args.target c.args.planes
          c.loop-coeffs.at _ _ c.requires.bands (without p) c.at_lowest-odd.result.1 c.at_lowest-odd.ensures.zeros (rw c.at_lowest-odd.ensures.from_there at odd));
      odd = odd;
    }
