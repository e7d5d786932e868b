use Rattle.std.proofs.Common.{◌∙◌, Some, ap, arith}
use Rattle.part_text.specs.PartText.{sharded_text}
use Rattle.part_text.proofs.Lengths.{length_sharded}
use Rattle.view_core.proofs.Texts.{stands_within}
use Rattle.view_core.proofs.Endings.{standing_sharded, leaf_body_ends, sharded_body_ends}
use Rattle.view_core.proofs.ends.body_end.Goals as goal

pub returns-then-mode-lt3-clause-value : goal.returns-then-mode-lt3-clause-value
returns-then-mode-lt3-clause-value c
    = leaf_body_ends c.args.bytes.now c.args.at c.args.mode c.leaf_end.result c.leaf_end.ensures.value (omega arith)

pub returns-then-bytes-at-clause-value : goal.returns-then-bytes-at-clause-value
returns-then-bytes-at-clause-value c =
    sharded_body_ends c.args.bytes.now c.args.at c.args.mode _ (λ s fits stands.
    absurd (omega (
      arith,
      length_sharded s,
      stands_within c.args.bytes.now c.args.at (sharded_text s) (omega (arith, length_sharded s))
          stands,
      c.if-bytes-at.true,
    )))
    (omega arith)

pub returns-clause-value : goal.returns-clause-value
returns-clause-value c =
    sharded_body_ends c.args.bytes.now c.args.at c.args.mode c.shards_end.result (λ s fits stands.
    let holds = standing_sharded c.args.bytes.now c.args.at s fits stands in
    let shift = c.number8_at.ensures _ holds.few holds.shift in
    let count = c.shards_of.ensures (omega (arith, shift, fits.facts.few)) in
    c.shards_end.ensures.value s.leaves fits.leaves (fits.facts.count ∙ cc) holds.shards ∙ ap Some (omega (arith, length_sharded s)))
    (omega arith)
