use Rattle.std.proofs.Common.{rules, arith, ◌≡◌, ◌+◌, ◌-◌, ◌<◌, ◌^◌}
use Rattle.std.proofs.lemmas.Nat.{shr_below}
use Rattle.benches.proofs.ribbon.build.Goals as goal

pub add-requires-clause-few_planes : goal.add-requires-clause-few_planes
add-requires-clause-few_planes c =
    let e : c.args.planes + (16 - c.args.planes) ≡ 16 = omega (arith, c.requires.few_planes) in
    let tag : c.row-row.result.tag < 2 ^ 16 = search rules in
    rw c.loop-done.invariant.planes (shr_below c.row-row.result.tag c.args.planes (16 - c.args.planes) (rw e tag))
