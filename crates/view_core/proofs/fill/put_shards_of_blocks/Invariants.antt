use Rattle.std.proofs.Common.{◌≡◌, ◌*◌, ◌^◌, List, length, take}
use Rattle.std.specs.Prelude.{All, flat_map}
use Rattle.card_core.specs.declared.block.Block.{Block}
use Rattle.part_text.specs.PartText.{block_text}
use Rattle.part_text.specs.Fitting.{BlockFits}
use Rattle.view_core.specs.Texts.{Stands}
use Rattle.view_core.specs.Filling.{WentOn}
use Rattle.view_core.proofs.Filling.{Went, block_words}
use Rattle.view_core.proofs.fill.put_shards_of_blocks.Given as goal

abbrev pub invariant-loop : goal.invariant-loop
invariant-loop l = record {
  value : (blocks : List Block) → All BlockFits blocks → length blocks ≡ l.count → Stands l.store l.fn.from.at (flat_map block_text blocks)
      → Went block_text block_words l.initial.index l.index l.fn.from (take l.counter blocks) l.walk;
  went : WentOn (length l.store) (2 ^ 16 * l.counter) l.fn.from l.walk;
}
