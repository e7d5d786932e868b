-- What an index tells of a part.
use Rattle.std.specs.Prelude.{◌≡◌, ℕ, List, length, get_or, ◌<◌}
use Rattle.card_core.specs.declared.block.Block.{Block}
use Rattle.card_core.specs.PartFields.{PartFields}
use Rattle.view_core.specs.Index.{buckets_of}
use Rattle.view_core.specs.Standing.{AreRangesAt, AreBlocksAt, HoldShards}
use Rattle.view_core.specs.declared.part.PartAt.{PartAt}

-- the part's ranges and blocks stand where it says, the table is that of its buckets, and the places hold those of the
-- shards of each block
pub record IsPartAt (bytes : List ℕ) (shards : List ℕ) (at : PartAt) (p : PartFields) : Type 0 where
  pub ranges : AreRangesAt bytes at.ranges.at at.ranges.count p.head.ranges
  pub blocks_begin : ℕ
  pub blocks : AreBlocksAt bytes blocks_begin at.blocks.now p.blocks
  pub buckets : at.buckets.now ≡ buckets_of p.blocks
  pub shards_are : (i : ℕ) (d : Block) → i < length p.blocks → HoldShards shards (get_or at.blocks.now i 0) (get_or p.blocks i d)
