use Rattle.std.proofs.Common.{arith}
use Rattle.stage_core.proofs.Flags.{flagged_count, flagged_lengths}
use Rattle.stage_core.proofs.leaf.leaf_of.Goals as goal

pub returns-then-keys-eq0 : goal.returns-then-keys-eq0
returns-then-keys-eq0 g c =
    omega (arith, flagged_count c.args.universe.now c.args.revoked.now (omega (arith, c.requires.flags)), c.count-keys.ensures.value, c.if-keys-eq0.true)

pub returns-then-keys-universe : goal.returns-then-keys-universe
returns-then-keys-universe g c =
    let n = flagged_count c.args.universe.now c.args.revoked.now (omega (arith, c.requires.flags)) in
    let l = flagged_lengths c.args.universe.now c.args.revoked.now c.requires.flags in
    (omega (arith, n, c.count-keys.ensures.value, c.if-keys-eq0.false), omega (arith, n, l, c.count-keys.ensures.value, c.if-keys-universe.true))

pub mixed_of-requires-clause-some_revoked : goal.mixed_of-requires-clause-some_revoked
mixed_of-requires-clause-some_revoked g c =
    omega (arith, flagged_count c.args.universe.now c.args.revoked.now (omega (arith, c.requires.flags)), c.count-keys.ensures.value, c.if-keys-eq0.false)

pub mixed_of-requires-clause-some_others : goal.mixed_of-requires-clause-some_others
mixed_of-requires-clause-some_others g c =
    let n = flagged_count c.args.universe.now c.args.revoked.now (omega (arith, c.requires.flags)) in
    let l = flagged_lengths c.args.universe.now c.args.revoked.now c.requires.flags in
    omega (arith, n, l, c.count-keys.ensures.value, c.count-keys.ensures.few, c.requires.flags, c.if-keys-universe.false)
