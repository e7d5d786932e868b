use Rattle.std.proofs.Common.{take}
use Rattle.std.specs.Prelude.{flat_map, All}
use Rattle.part_text.specs.Output.{Wrote}
use Rattle.part_text.specs.PartText.{shard_leaf_text}
use Rattle.part_text.specs.Fitting.{LeafFits}
use Rattle.part_text.proofs.text.put_shards.Given as goal

abbrev pub invariant-loop-leaf : goal.invariant-loop-leaf
invariant-loop-leaf g l = record {
  text : Wrote g.O.Output.given l.fn.out l.out (flat_map shard_leaf_text (take l.leaf-index l.leaves));
  fits : All LeafFits (take l.leaf-index l.leaves);
}
