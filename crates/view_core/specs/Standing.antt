-- Ranges and blocks that stand one after the other.
use Rattle.std.specs.Prelude.{◌≡◌, ℕ, List, ◌++◌, length, flat_map, Some, None}
use Rattle.std.specs.Ordering.{nat_cmp}
use Rattle.std.specs.List.Sorted.{IsStrictlySortedBy}
use Rattle.octets_core.specs.Linked.{Linked}
use Rattle.ident_core.specs.RangeText.{FitsRange, range_text}
use Rattle.ident_core.specs.declared.range.Range.{Range}
use Rattle.card_core.specs.declared.block.Block.{Block}
use Rattle.part_text.specs.Fitting.{FitsBlock}
use Rattle.part_text.specs.PartText.{block_text}
use Rattle.view_core.specs.Index.{shards_in}
use Rattle.view_core.specs.Texts.{Stands, places_of}

-- so many ranges, as a part has them, stand from this place on
pub record AreRangesAt (bytes : List ℕ) (at count : ℕ) (ranges : List Range) : Type 0 where
  pub fit : Linked FitsRange (λ previous r. Some r.log) None ranges
  pub count_is : length ranges ≡ count
  pub text : Stands bytes at (flat_map range_text ranges)

-- and blocks, as a part has them, each of which begins at one of these places
pub record AreBlocksAt (bytes : List ℕ) (at : ℕ) (places : List ℕ) (blocks : List Block) : Type 0 where
  pub fit : Linked FitsBlock (λ previous b. Some b.issuer) None blocks
  pub places_are : places ≡ places_of block_text at blocks
  pub text : Stands bytes at (flat_map block_text blocks)

-- among places that ascend stand those of the shards of a block whose issuer stands at this one
pub record HoldShards (places : List ℕ) (at : ℕ) (block : Block) : Type 0 where
  pub ascend : IsStrictlySortedBy nat_cmp places
  pub before : List ℕ
  pub behind : List ℕ
  pub are : places ≡ before ++ shards_in at block.body ++ behind
