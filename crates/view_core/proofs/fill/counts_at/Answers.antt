use Rattle.std.proofs.Common.{◌≡◌, ◌+◌, ◌-◌, length, arith}
use Rattle.view_core.proofs.Standing.{standing_part}
use Rattle.view_core.proofs.fill.counts_at.Goals as goal

pub returns-then-store-first-clause-value : goal.returns-then-store-first-clause-value
returns-then-store-first-clause-value c = λ s fits stands.
    let holds = standing_part c.args.store.now c.args.at s fits stands in
    let place : c.args.at + 52 - 2 ≡ c.args.at + 50 = omega arith in
    let ranges = c.number16_at-ranges.ensures _ holds.few_ranges (rw place holds.ranges_count) in
    absurd (omega (arith, ranges, holds.long, holds.within, c.if-store-first.true))

pub returns-clause-value : goal.returns-clause-value
returns-clause-value c = λ s fits stands.
    let holds = standing_part c.args.store.now c.args.at s fits stands in
    let place : c.args.at + 52 - 2 ≡ c.args.at + 50 = omega arith in
    let ranges : c.number16_at-ranges.result ≡ length s.part.head.ranges
    = c.number16_at-ranges.ensures _ holds.few_ranges (rw place holds.ranges_count) in
    let blocks : c.number32_at.result ≡ length s.part.blocks = c.number32_at.ensures _ holds.few_blocks (rw ranges holds.blocks_count) in
    rw (ranges, blocks)
