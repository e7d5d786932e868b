use Rattle.std.proofs.Common.{refl, arith}
use Rattle.stage_core.proofs.Shifts.{at_zero, ends_at, found, narrower, whole}
use Rattle.stage_core.proofs.shift.shift_for.Goals as goal

pub loop-shift-init : goal.loop-shift-init
loop-shift-init c = record { few = omega arith; same = refl }

pub overflow_shl-shift : goal.overflow_shl-shift
overflow_shl-shift c = omega (arith, c.loop-shift.invariant.few)

pub loop-shift-preserved : goal.loop-shift-preserved
loop-shift-preserved c =
    let below = rw (whole c.loop-shift.shift c.loop-shift.invariant.few) at c.if-universe-shift.true in
    narrower c.args.universe c.loop-shift.shift c.loop-shift.invariant c.loop-shift-test.true below

pub returns-else-universe-shift : goal.returns-else-universe-shift
returns-else-universe-shift c =
    let least = rw (whole c.loop-shift.shift c.loop-shift.invariant.few) at c.if-universe-shift.false in
    ends_at c.args.universe c.loop-shift.shift c.loop-shift.invariant c.args.revoked c.if-revoked-eq0.false c.if-revoked-universe.false c.requires.among
    (found c.args.universe c.loop-shift.shift (omega (arith, least)))

pub returns-after-loop-shift : goal.returns-after-loop-shift
returns-after-loop-shift c =
    ends_at c.args.universe c.loop-shift.shift c.loop-shift.invariant c.args.revoked c.if-revoked-eq0.false c.if-revoked-universe.false c.requires.among
    (at_zero c.args.universe c.loop-shift.shift c.loop-shift-test.false)
