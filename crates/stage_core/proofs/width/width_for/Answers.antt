use Rattle.std.proofs.Common.{◌<◌, ◌+◌, inl, inr, arith}
use Rattle.stage_core.proofs.Widths.{begun, width_found, shifted}
use Rattle.stage_core.proofs.width.width_for.Goals as goal

pub loop-width-init : goal.loop-width-init
loop-width-init c = begun c.args.revoked c.args.others

pub returns-then-from-width : goal.returns-then-from-width
returns-then-from-width c =
    let lt : c.loop-width.width < 16 = c.loop-width-test.true in
    let e = shifted c.args.revoked (c.loop-width.width + 1) c.ranges.revoked.fits (omega arith) in
    let h = rw (c.from.ensures, c.from-in-loop-width.ensures, e) at c.if-from-width.true in
    width_found c.args.revoked c.args.others c.loop-width.width c.loop-width.invariant (inr h)

pub loop-width-preserved : goal.loop-width-preserved
loop-width-preserved c =
    let lt : c.loop-width.width < 16 = c.loop-width-test.true in
    let e = shifted c.args.revoked (c.loop-width.width + 1) c.ranges.revoked.fits (omega arith) in
    let h = rw (c.from.ensures, c.from-in-loop-width.ensures, e) at c.if-from-width.false in
    record { most = omega arith; fits = inr h }

pub returns : goal.returns
returns c = width_found c.args.revoked c.args.others c.loop-width.width c.loop-width.invariant (inl (omega (arith, c.loop-width.invariant.most)))
