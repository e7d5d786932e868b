use Rattle.std.proofs.Common.{◌<◌, ◌+◌, ◌-◌, ◌/◌, ℕ, length, sym, ap, ◌∙◌, arith}
use Rattle.std.specs.Ordering.{nat_cmp}
use Rattle.std.specs.Cmp.Lexicographic.{slice_cmp}
use Rattle.card_core.specs.declared.block.Block.{Block}
use Rattle.card_core.proofs.Ascending.{linked_sorted}
use Rattle.card_core.proofs.Searching.{halved, missed_less, missed_greater, found_equal, none_found}
use Rattle.card_core.proofs.part.place_of.Goals as goal

pub returns-in-Equal-clause-place : goal.returns-in-Equal-clause-place
returns-in-Equal-clause-place g c =
    let middle : ℕ = c.loop-low.low + (c.loop-low.high - c.loop-low.low) / 2 in
    let lt : middle < length c.args.blocks.now = omega (arith, c.loop-low.invariant.steps.within, c.loop-low-test.true) in (
      lt,
      found_equal c.args.blocks.now c.args.issuer.now (linked_sorted c.args.blocks.now c.requires) c.loop-low.low c.loop-low.high middle
          c.index-blocks-middle.result lt c.index-blocks-middle.is c.loop-low.invariant.missed
          (ap (λ (x : Block). slice_cmp nat_cmp x.issuer c.args.issuer.now) c.index-blocks-middle.is ∙ sym c.cmp.ensures ∙ c.in-Equal.is),
    )

pub returns-in-Equal-clause-few : goal.returns-in-Equal-clause-few
returns-in-Equal-clause-few g c =
    let h = halved (length c.args.blocks.now) c.args.probes.now c.loop-low.probes c.loop-low.low c.loop-low.high c.loop-low.low c.loop-low.low
    c.loop-low.invariant.steps c.loop-low-test.true (omega arith) (omega (arith, c.loop-low.invariant.steps.within, c.loop-low-test.true)) (omega arith) in
    rw c.tick.ensures h.few

pub loop-low-preserved-in-Less : goal.loop-low-preserved-in-Less
loop-low-preserved-in-Less g c =
    let middle : ℕ = c.loop-low.low + (c.loop-low.high - c.loop-low.low) / 2 in
    let lt : middle < length c.args.blocks.now = omega (arith, c.loop-low.invariant.steps.within, c.loop-low-test.true) in
    record {
      steps = rw c.tick.ensures (halved (length c.args.blocks.now) c.args.probes.now c.loop-low.probes c.loop-low.low c.loop-low.high (middle + 1)
          c.loop-low.high c.loop-low.invariant.steps c.loop-low-test.true
          (omega (arith, c.loop-low-test.true)) c.loop-low.invariant.steps.within (omega (arith, c.loop-low-test.true)));
      missed = missed_less c.args.blocks.now c.args.issuer.now (linked_sorted c.args.blocks.now c.requires) c.loop-low.low c.loop-low.high middle
          c.index-blocks-middle.result lt c.index-blocks-middle.is c.loop-low.invariant.missed
          (ap (λ (x : Block). slice_cmp nat_cmp x.issuer c.args.issuer.now) c.index-blocks-middle.is ∙ sym c.cmp.ensures ∙ c.in-Less.is);
    }

pub loop-low-preserved : goal.loop-low-preserved
loop-low-preserved g c =
    let middle : ℕ = c.loop-low.low + (c.loop-low.high - c.loop-low.low) / 2 in
    let lt : middle < length c.args.blocks.now = omega (arith, c.loop-low.invariant.steps.within, c.loop-low-test.true) in
    record {
      steps = rw c.tick.ensures (halved (length c.args.blocks.now) c.args.probes.now c.loop-low.probes c.loop-low.low c.loop-low.high c.loop-low.low middle
          c.loop-low.invariant.steps c.loop-low-test.true
          (omega arith) (omega arith) (omega (arith, c.loop-low-test.true)));
      missed = missed_greater c.args.blocks.now c.args.issuer.now (linked_sorted c.args.blocks.now c.requires) c.loop-low.low c.loop-low.high middle
          c.index-blocks-middle.result lt c.index-blocks-middle.is c.loop-low.invariant.missed
          (ap (λ (x : Block). slice_cmp nat_cmp x.issuer c.args.issuer.now) c.index-blocks-middle.is ∙ sym c.cmp.ensures ∙ c.in-Greater.is);
    }

pub returns-clause-place : goal.returns-clause-place
returns-clause-place g c = none_found c.args.blocks.now c.args.issuer.now c.loop-low.low c.loop-low.high c.loop-low-test.false c.loop-low.invariant.missed
