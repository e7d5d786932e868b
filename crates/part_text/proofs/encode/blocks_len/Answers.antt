use Rattle.std.proofs.Common.{arith}
use Rattle.part_text.specs.PartText.{block_text}
use Rattle.part_text.proofs.Lengths.{longer}
use Rattle.part_text.proofs.encode.blocks_len.Goals as goal

pub loop-block-preserved : goal.loop-block-preserved
loop-block-preserved c = record {
  value = longer block_text c.args.blocks.now c.loop-block.block-index c.block-item.result c.loop-block.len c.block_len-len.result c.loop-block-test.true c.block-item.is
      c.loop-block.invariant.value c.block_len-len.ensures.value;
  few = omega (arith, c.loop-block.invariant.few, c.block_len-len.ensures.few);
}
