use Rattle.part_text.specs.PartText.{shard_leaf_text}
use Rattle.part_text.specs.Fitting.{LeafFits}
use Rattle.octets_core.proofs.Loops.{all-more}
use Rattle.part_text.proofs.Loops.{wrote-more}
use Rattle.part_text.proofs.text.put_shards.Goals as goal

pub loop-leaf-preserved : goal.loop-leaf-preserved
loop-leaf-preserved g c = record {
  text = wrote-more g.O.Output.given shard_leaf_text c.args.leaves.now c.loop-leaf.leaf-index c.leaf-item.result c.args.out.now c.loop-leaf.out
      c.put_shard.new.out c.loop-leaf-test.true c.leaf-item.is c.loop-leaf.invariant.text c.in_ok-put_shard.ensures.text;
  fits = all-more LeafFits c.args.leaves.now c.loop-leaf.leaf-index c.leaf-item.result c.loop-leaf-test.true c.leaf-item.is c.loop-leaf.invariant.fits
      c.in_ok-put_shard.ensures.fits;
}
