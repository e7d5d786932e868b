use Rattle.std.proofs.Common.{take}
use Rattle.std.specs.Prelude.{flat_map, All}
use Rattle.part_text.specs.Output.{Wrote}
use Rattle.part_text.specs.PartText.{block_text}
use Rattle.part_text.specs.Fitting.{BlockFits}
use Rattle.part_text.proofs.text.put_blocks.Given as goal

abbrev pub invariant-loop-block : goal.invariant-loop-block
invariant-loop-block g l = record {
  text : Wrote g.O.Output.given l.fn.out l.out (flat_map block_text (take l.block-index l.blocks));
  fits : All BlockFits (take l.block-index l.blocks);
}
