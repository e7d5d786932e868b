use Rattle.std.proofs.Common.{◌∙◌}
use Rattle.part_text.specs.PartText.{block_text}
use Rattle.view_core.proofs.BucketLaws.{length-buckets}
use Rattle.view_core.proofs.Standing.{standing_part}
use Rattle.view_core.proofs.Texts.{length-places}
use Rattle.view_core.proofs.Filling.{are_counts, are_placed, table_walked, part_walked}
use Rattle.view_core.proofs.fill.put_part.Goals as goal

pub returns-in_err-walk-clause-value : goal.returns-in_err-walk-clause-value
returns-in_err-walk-clause-value c = λ s fits stands.
    let holds = standing_part c.args.store.now c.args.from.at s fits stands in
    let are = are_counts c.args.from.at s c.in_ok-counts.counts (c.in_ok-counts.ensures.value s fits stands) in
    let walked = c.in_err-walk.ensures.value s.part.blocks holds.all_fit are.blocks (rw are.first holds.blocks) in
    absurd cc

pub returns-clause-value : goal.returns-clause-value
returns-clause-value c = λ s fits stands.
    let holds = standing_part c.args.store.now c.args.from.at s fits stands in
    let are = are_counts c.args.from.at s c.in_ok-counts.counts (c.in_ok-counts.ensures.value s fits stands) in
    let walked = c.in_ok-walk.ensures.value s.part.blocks holds.all_fit are.blocks (rw are.first holds.blocks) in
    let long = length-places block_text c.in_ok-counts.counts.first s.part.blocks ∙ are.blocks in
    let table = c.put_buckets.ensures c.in_ok-counts.counts.first s.part.blocks are.blocks
    (are_placed c.args.store.now c.put-3.new.index c.put_blocks.new.index _ c.in_ok-walk.walk s c.in_ok-counts.counts.blocks fits
    (rw are.first holds.blocks) are.blocks walked) in
    let both = table_walked c.put-3.new.index c.put_blocks.new.index c.put_buckets.new.index _ c.in_ok-walk.walk _ c.in_ok-counts.counts.blocks _ _ walked
    long (length-buckets s.part.blocks ∙ are.blocks) table in
    part_walked c.args.store.now c.args.index.now c.put.new.index c.put-2.new.index c.put-3.new.index c.put_buckets.new.index c.args.from
    _ s c.in_ok-counts.counts
    c.from.result c.behind_trailer.result holds are c.from.ensures c.put.ensures c.put-2.ensures c.put-3.ensures both
    c.behind_trailer.ensures.value
