use Rattle.part_text.specs.PartText.{block_text}
use Rattle.part_text.specs.Fitting.{BlockFits}
use Rattle.octets_core.proofs.Loops.{all-more}
use Rattle.part_text.proofs.Loops.{wrote-more}
use Rattle.part_text.proofs.text.put_blocks.Goals as goal

pub loop-block-preserved : goal.loop-block-preserved
loop-block-preserved g c = record {
  text = wrote-more g.O.Output.given block_text c.args.blocks.now c.loop-block.block-index c.block-item.result c.args.out.now c.loop-block.out
      c.put_block.new.out c.loop-block-test.true c.block-item.is c.loop-block.invariant.text c.in_ok-put_block.ensures.text;
  fits = all-more BlockFits c.args.blocks.now c.loop-block.block-index c.block-item.result c.loop-block-test.true c.block-item.is c.loop-block.invariant.fits
      c.in_ok-put_block.ensures.fits;
}
