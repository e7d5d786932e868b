-- The text of a part: the bytes that its layout reads as it.
use Rattle.std.specs.Prelude.{ℕ, List, [], ◌++◌, length, Option, Some, None, codes, flat_map, if◌then◌else◌}
use Rattle.std.specs.Int.{w8, w16, w32, w64, to_be_bytes}
use Rattle.equation_core.specs.Sizes.{words_for}
use Rattle.ribbon_core.specs.PlaneWords.{PlaneColumns}
use Rattle.ident_core.specs.declared.kind.Kind.{Kind}
use Rattle.ident_core.specs.declared.kind.Kind.TheVariants as kinds
use Rattle.ident_core.specs.HeadFields.{HeadFields}
use Rattle.ident_core.specs.RangeText.{range_text}
use Rattle.card_core.specs.declared.block.Block.{Block}
use Rattle.card_core.specs.declared.block.Body.{Body}
use Rattle.card_core.specs.declared.block.Body.TheVariants as bodies
use Rattle.card_core.specs.declared.leaf.Leaf.{Leaf}
use Rattle.card_core.specs.declared.leaf.Leaf.TheVariants as leaves
use Rattle.card_core.specs.declared.stage.Stage.{Stage}
use Rattle.card_core.specs.MixedFields.{MixedFields}
use Rattle.card_core.specs.ShardedFields.{ShardedFields}
use Rattle.card_core.specs.PartFields.{PartFields}
use Rattle.part_text.specs.PlaneBytes.{bytes_of_columns}
use Rattle.part_text.specs.PartLayout.{some_sharded}
use Rattle.part_text.specs.SealedFields.{SealedFields}

abbrev pub kind_number : Kind → ℕ
kind_number kinds.Snapshot = 0
kind_number kinds.Delta = 1

-- of a version
unfoldable pub head_text : ℕ → HeadFields → List ℕ
head_text version h =
    codes "CLUBCARD" ++ to_be_bytes w8 version ++ to_be_bytes w8 (kind_number h.kind) ++ to_be_bytes w64 h.epoch ++ h.parent
    ++ to_be_bytes w16 (length h.ranges) ++ flat_map range_text h.ranges

abbrev pub leaf_mode : Leaf → ℕ
leaf_mode leaves.Clean = 0
leaf_mode leaves.Every = 1
leaf_mode (leaves.Mixed m) = 2

abbrev pub mode_of : Body → ℕ
mode_of bodies.Clean = 0
mode_of bodies.Every = 1
mode_of (bodies.Mixed m) = 2
mode_of (bodies.Sharded s) = 3

-- 2 exactly where a block is sharded
abbrev pub version_of : List Block → ℕ
version_of blocks = if some_sharded blocks then 2 else 1

-- the starts, and plane after plane
unfoldable pub planes_text : PlaneColumns → List ℕ
planes_text p = to_be_bytes w32 p.starts ++ flat_map (bytes_of_columns (words_for p.starts)) p.columns

unfoldable pub stage_text : Stage → List ℕ
stage_text s = to_be_bytes w8 s.seed ++ planes_text s.planes

-- how many planes the approximate stage has, if there is one
abbrev pub width_of : Option Stage → ℕ
width_of None = 0
width_of (Some s) = length s.planes.columns

abbrev pub approx_text : Option Stage → List ℕ
approx_text None = []
approx_text (Some s) = stage_text s

unfoldable pub mixed_text : MixedFields → List ℕ
mixed_text m = to_be_bytes w8 (width_of m.approx) ++ approx_text m.approx ++ stage_text m.exact

-- what follows the mode
abbrev pub leaf_text : Leaf → List ℕ
leaf_text leaves.Clean = []
leaf_text leaves.Every = []
leaf_text (leaves.Mixed m) = mixed_text m

abbrev pub shard_leaf_text : Leaf → List ℕ
shard_leaf_text l = to_be_bytes w8 (leaf_mode l) ++ leaf_text l

unfoldable pub sharded_text : ShardedFields → List ℕ
sharded_text s = to_be_bytes w8 s.shift ++ flat_map shard_leaf_text s.leaves

abbrev pub body_text : Body → List ℕ
body_text bodies.Clean = []
body_text bodies.Every = []
body_text (bodies.Mixed m) = mixed_text m
body_text (bodies.Sharded s) = sharded_text s

abbrev pub block_text : Block → List ℕ
block_text b = b.issuer ++ to_be_bytes w8 (mode_of b.body) ++ body_text b.body

-- all but the trailer
unfoldable pub unsealed_text : PartFields → List ℕ
unsealed_text p = head_text (version_of p.blocks) p.head ++ to_be_bytes w32 (length p.blocks) ++ flat_map block_text p.blocks

unfoldable pub spelling : SealedFields → List ℕ
spelling s = unsealed_text s.part ++ s.trailer
