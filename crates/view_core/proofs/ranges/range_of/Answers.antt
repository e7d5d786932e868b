use Rattle.std.proofs.Common.{◌+◌, ◌-◌, ◌/◌, ℕ, sym, ◌∙◌, arith}
use Rattle.view_core.proofs.RangeSearch.{passed_less, passed_greater, one_of_log, none_of_log}
use Rattle.view_core.proofs.ranges.range_of.Goals as goal

pub returns-in-Equal : goal.returns-in-Equal
returns-in-Equal c =
    let middle : ℕ = c.loop-low.low + (c.loop-low.high - c.loop-low.low) / 2 in
    one_of_log c.args.bytes.now c.args.ranges.at c.args.ranges.count c.args.log.now c.loop-low.low c.loop-low.high c.loop-low.invariant
    middle (omega arith) (omega (arith, c.loop-low-test.true)) (λ k len s. sym (c.order_at.ensures k len s) ∙ c.in-Equal.is)
    c.range_at.result c.range_at.ensures

pub loop-low-preserved-in-Less : goal.loop-low-preserved-in-Less
loop-low-preserved-in-Less c =
    let middle : ℕ = c.loop-low.low + (c.loop-low.high - c.loop-low.low) / 2 in
    passed_less c.args.bytes.now c.args.ranges.at c.args.ranges.count c.args.log.now c.loop-low.low c.loop-low.high c.loop-low.invariant
    middle (omega arith) (omega (arith, c.loop-low-test.true)) (λ k len s. sym (c.order_at.ensures k len s) ∙ c.in-Less.is)

pub loop-low-preserved : goal.loop-low-preserved
loop-low-preserved c =
    let middle : ℕ = c.loop-low.low + (c.loop-low.high - c.loop-low.low) / 2 in
    passed_greater c.args.bytes.now c.args.ranges.at c.args.ranges.count c.args.log.now c.loop-low.low c.loop-low.high c.loop-low.invariant
    middle (omega arith) (omega (arith, c.loop-low-test.true)) (λ k len s. sym (c.order_at.ensures k len s) ∙ c.in-Greater.is)

pub returns : goal.returns
returns c =
    none_of_log c.args.bytes.now c.args.ranges.at c.args.ranges.count c.args.log.now c.loop-low.low c.loop-low.high c.loop-low.invariant c.loop-low-test.false
