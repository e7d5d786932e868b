use Rattle.std.proofs.Common.{◌≡◌, ◌+◌, ◌-◌, ◌∙◌, arith}
use Rattle.part_text.specs.PartText.{mode_of, sharded_text}
use Rattle.part_text.proofs.Lengths.{length_sharded}
use Rattle.view_core.proofs.Texts.{stands_within}
use Rattle.view_core.proofs.Endings.{standing_block, standing_sharded}
use Rattle.view_core.proofs.Filling.{plain_walked, sharded_walked}
use Rattle.view_core.proofs.fill.put_shards_of_block.Goals as goal

pub returns-then-number8_at-lt3-clause-value : goal.returns-then-number8_at-lt3-clause-value
returns-then-number8_at-lt3-clause-value c = λ b fits s.
    let holds = standing_block c.args.store.now c.args.from.at b fits s in
    let place : c.args.from.at + 33 - 1 ≡ c.args.from.at + 32 = omega arith in
    let mode = c.number8_at.ensures (mode_of b.body) holds.few (rw place holds.mode) in
    plain_walked c.args.index.now c.args.from b c.in_ok-at.at (omega (arith, mode, c.if-number8_at-lt3.true))
    (c.in_ok-at.ensures.value b fits s)

pub returns-then-store-body-clause-value : goal.returns-then-store-body-clause-value
returns-then-store-body-clause-value c = λ b fits s.
    let holds = standing_block c.args.store.now c.args.from.at b fits s in
    let place : c.args.from.at + 33 - 1 ≡ c.args.from.at + 32 = omega arith in
    let mode = c.number8_at.ensures (mode_of b.body) holds.few (rw place holds.mode) in
    sharded_walked c.args.store.now c.args.index.now c.args.index.now c.args.from b.body _ _ holds.long fits.body holds.body
    (omega (arith, mode, c.if-number8_at-lt3.false)) (λ t shards stands.
    absurd (omega (
      arith,
      length_sharded t,
      stands_within c.args.store.now (c.args.from.at + 33) (sharded_text t)
          (omega (arith, length_sharded t)) stands,
      c.if-store-body.true,
    )))

pub returns-clause-value : goal.returns-clause-value
returns-clause-value c = λ b fits s.
    let holds = standing_block c.args.store.now c.args.from.at b fits s in
    let place : c.args.from.at + 33 - 1 ≡ c.args.from.at + 32 = omega arith in
    let mode = c.number8_at.ensures (mode_of b.body) holds.few (rw place holds.mode) in
    sharded_walked c.args.store.now c.args.index.now c.put_shards.new.index c.args.from b.body _ _ holds.long fits.body holds.body
    (omega (arith, mode, c.if-number8_at-lt3.false)) (λ t shards stands.
    let held = standing_sharded c.args.store.now (c.args.from.at + 33) t shards stands in
    let shift = c.number8_at-2.ensures _ held.few held.shift in
    let count = c.shards_of.ensures (omega (arith, shift, shards.facts.few)) in
    c.put_shards.ensures.value t.leaves shards.leaves (shards.facts.count ∙ cc) held.shards)
