use Rattle.std.proofs.Common.{ap, sym, subst, arith}
use Rattle.view_core.specs.Standing.{AreRangesAt}
use Rattle.view_core.specs.declared.ranges.RangesAt.{RangesAt}
use Rattle.view_core.proofs.Chains.{ranges_stand}
use Rattle.view_core.proofs.scan.log_outside.Goals as goal

pub first_outside_at-requires-clause-old_place : goal.first_outside_at-requires-clause-old_place
first_outside_at-requires-clause-old_place c =
    let at = ap (λ (r : RangesAt). r.at) c.ranges_of.ensures.value in
    omega (arith, at, c.ranges_of.ensures.few, c.requires.held_place)

pub first_outside_at-requires-clause-new_place : goal.first_outside_at-requires-clause-new_place
first_outside_at-requires-clause-new_place c =
    let at = ap (λ (r : RangesAt). r.at) c.ranges_of-2.ensures.value in
    omega (arith, at, c.ranges_of-2.ensures.few, c.requires.given_place)

pub returns : goal.returns
returns c = λ h g of_held of_given.
    c.first_outside_at.ensures h.part.head.ranges g.part.head.ranges
    (subst (λ (r : RangesAt). AreRangesAt c.args.held_bytes.now r.at r.count h.part.head.ranges) (sym c.ranges_of.ensures.value) (ranges_stand c.args.held_bytes.now c.args.held.now h of_held))
    (subst (λ (r : RangesAt). AreRangesAt c.args.given_bytes.now r.at r.count g.part.head.ranges) (sym c.ranges_of-2.ensures.value) (ranges_stand c.args.given_bytes.now c.args.given.now g of_given))
