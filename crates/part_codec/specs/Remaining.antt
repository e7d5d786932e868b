-- What is left to read of a part at each of its fields, from what is kept and seen of those before.
use Rattle.std.specs.Prelude.{ℕ, zero, suc, ◌-◌, ◌^◌, List, [], ◌∷◌, ◌++◌, Bool, true, false, ◌||◌, nat_lt, Option, Some, None, codes}
use Rattle.std.specs.Int.{w8, w16, w32, w64}
use Rattle.octets_core.specs.Linked.{is_after}
use Rattle.octets_core.specs.Layout.{Layout, ◌>>=◌, whole, repeated}
use Rattle.octets_core.specs.Reading.{number, key, magic, digest}
use Rattle.octets_core.specs.declared.field.Field.TheVariants as fields
use Rattle.octets_core.specs.declared.fault.LayoutFault.{LayoutFault}
use Rattle.equation_core.specs.declared.hash.TheConstants.{MAX_PLANES}
use Rattle.equation_core.specs.declared.shards.TheConstants.{MAX_SHIFT}
use Rattle.equation_core.specs.declared.sizes.TheConstants.{MAX_STARTS}
use Rattle.equation_core.specs.Sizes.{words_for}
use Rattle.ident_core.specs.declared.bounds.TheConstants.{MAX_RANGES}
use Rattle.ident_core.specs.declared.range.Range.{Range}
use Rattle.ident_core.specs.RangeLayout.{range}
use Rattle.card_core.specs.declared.block.Block.{Block}
use Rattle.card_core.specs.declared.block.Body.{Body}
use Rattle.card_core.specs.declared.block.Body.TheVariants as bodies
use Rattle.card_core.specs.declared.leaf.Leaf.{Leaf}
use Rattle.card_core.specs.declared.leaf.Leaf.TheVariants as leaves_of
use Rattle.card_core.specs.declared.part.TheConstants.{MAX_BLOCKS}
use Rattle.card_core.specs.declared.stage.Stage.{Stage}
use Rattle.card_core.specs.Filter.{as_body}
use Rattle.card_core.specs.PartFields.{PartFields}
use Rattle.part_text.specs.PlaneBytes.{columns_of_bytes}
use Rattle.part_text.specs.SealedFields.{SealedFields}
use Rattle.part_codec.specs.declared.fields.Kept.{Kept}
use Rattle.part_codec.specs.declared.fields.Open.{Open}
use Rattle.part_codec.specs.declared.fields.Open.TheVariants as opens
use Rattle.part_text.specs.PartLayout.{kind_of, is_parent, plane_bytes, columns, approx, leaf, shards, body_of}
use Rattle.part_text.specs.PartLayout.{greatest_mode, block, some_sharded, sharded_test}

-- what came whole before the open field: ranges, blocks, of the open block the leaves of its shards, and of the open
-- leaf the approximate stage and the columns of the open stage
pub record Seen : Type 0 where
  pub ranges : List Range
  pub blocks : List Block
  pub leaves : List Leaf
  pub approx : Option Stage
  pub columns : List ℕ

abbrev pub nothing_seen : Seen
nothing_seen = record { ranges = []; blocks = []; leaves = []; approx = None; columns = [] }

abbrev pub part_of : Kept → Seen → PartFields
part_of k s = record { head = record { kind = kind_of k.kind; epoch = k.epoch; parent = k.parent; ranges = s.ranges }; blocks = s.blocks }

abbrev pub sealed_of : Kept → Seen → SealedFields
sealed_of k s = record { part = part_of k s; trailer = k.trailer }

abbrev pub with_range : Seen → Range → Seen
with_range s r = record s { ranges = s.ranges ++ r ∷ [] }

abbrev pub with_block : Seen → List ℕ → Body → Seen
with_block s issuer body = record s { blocks = s.blocks ++ record { issuer = issuer; body = body } ∷ [] }

abbrev pub with_shard : Seen → Leaf → Seen
with_shard s l = record s { leaves = s.leaves ++ l ∷ [] }

abbrev pub shards_of : ℕ → List Leaf → Body
shards_of shift leaves = bodies.Sharded (record { shift = shift; leaves = leaves })

-- behind a leaf, where its block has this shift, 0 if it isn't sharded, and so many leaves are left
abbrev pub with_leaf : ℕ → ℕ → List ℕ → Seen → Leaf → Seen
with_leaf zero n issuer s l = with_block s issuer (as_body l)
with_leaf (suc m) zero issuer s l = with_block (record s { leaves = [] }) issuer (shards_of (suc m) (s.leaves ++ l ∷ []))
with_leaf (suc m) (suc n) issuer s l = with_shard s l

abbrev pub seen_leaf : Kept → Seen → Leaf → Seen
seen_leaf k s l = with_leaf k.shift (k.leaves - 1) k.key s l

abbrev pub column_of : Kept → List ℕ → ℕ
column_of k bytes = columns_of_bytes (words_for k.starts) bytes

abbrev pub with_plane : Kept → Seen → List ℕ → Seen
with_plane k s bytes = record s { columns = s.columns ++ column_of k bytes ∷ [] }

abbrev pub stage_of : Kept → Seen → Stage
stage_of k s = record { seed = k.seed; planes = record { starts = k.starts; columns = s.columns } }

abbrev pub with_approx : Kept → Seen → Seen
with_approx k s = record s { approx = Some (stage_of k s) }

abbrev pub mixed_of : Kept → Seen → Leaf
mixed_of k s = leaves_of.Mixed (record { approx = s.approx; exact = stage_of k s })

-- the log or the issuer of the item before the open one, if there is one
abbrev pub previous_by : Bool → List ℕ → Option (List ℕ)
previous_by true key = Some key
previous_by false key = None

abbrev pub previous : Kept → Option (List ℕ)
previous k = previous_by k.any k.key

-- what is kept behind a range, behind a block, and behind each count and shift
abbrev pub kept_range : Kept → Kept
kept_range k = record k { ranges_left = k.ranges_left - 1; any = true }

abbrev pub kept_block : Kept → Kept
kept_block k = record k { left = k.left - 1; any = true; sharded = k.sharded || nat_lt 0 k.shift }

abbrev pub kept_ranges : Kept → ℕ → Kept
kept_ranges k n = record k { ranges = n; ranges_left = n; any = false }

abbrev pub kept_issuers : Kept → ℕ → Kept
kept_issuers k n = record k { issuers = n; left = n; any = false; sharded = false }

abbrev pub kept_shift : Kept → ℕ → Kept
kept_shift k n = record k { shift = n; leaves = 2 ^ n }

-- behind a leaf, where so many of its block are left
abbrev pub kept_leaves : ℕ → Kept → Kept
kept_leaves zero k = kept_block (record k { leaves = 0 })
kept_leaves (suc n) k = record k { leaves = suc n }

abbrev pub kept_leaf : Kept → Kept
kept_leaf k = kept_leaves (k.leaves - 1) k

-- mode 2 opens a leaf, and the others have no fields
abbrev pub kept_leaf_mode : ℕ → Kept → Kept
kept_leaf_mode zero k = kept_leaf (record k { mode = 0 })
kept_leaf_mode (suc zero) k = kept_leaf (record k { mode = 1 })
kept_leaf_mode (suc (suc n)) k = record k { mode = 2 }

-- one leaf, or shards
abbrev pub kept_mode : ℕ → Kept → Kept
kept_mode zero k = kept_leaf_mode zero (record k { shift = 0; leaves = 1 })
kept_mode (suc zero) k = kept_leaf_mode (suc zero) (record k { shift = 0; leaves = 1 })
kept_mode (suc (suc zero)) k = kept_leaf_mode (suc (suc zero)) (record k { shift = 0; leaves = 1 })
kept_mode (suc (suc (suc n))) k = record k { shift = 0; leaves = 1; mode = 3 }

-- ---- what is left to read, at each field

abbrev pub next_log : Option (List ℕ) → Range → Option (List ℕ)
next_log previous r = Some r.log

abbrev pub next_issuer : Option (List ℕ) → Block → Option (List ℕ)
next_issuer previous b = Some b.issuer

abbrev pub Rest : Type 0
Rest = Layout LayoutFault SealedFields

unfoldable pub at_trailer : Kept → Seen → Rest
at_trailer k s = do
  trailer ← digest fields.PartTrailer
  whole (sealed_of (record k { trailer = trailer }) s)

-- behind the last block
unfoldable pub at_sharded : Kept → Seen → Rest
at_sharded k s = do
  none ← sharded_test k.version (some_sharded s.blocks)
  at_trailer k s

-- before a block, or behind the last
unfoldable pub at_blocks : Kept → Seen → Rest
at_blocks k s = do
  more ← repeated (block k.version) next_issuer k.left (previous k)
  at_sharded k (record s { blocks = s.blocks ++ more })

-- behind the body of a block
abbrev pub after_body : Kept → Seen → Body → Rest
after_body k s body = at_blocks (kept_block k) (with_block s k.key body)

-- before a shard, or behind the last
unfoldable pub at_shards : Kept → Seen → Rest
at_shards k s = do
  more ← shards k.leaves
  after_body k s (shards_of k.shift (s.leaves ++ more))

-- behind the leaf of a shard
abbrev pub after_shard : Kept → Seen → Leaf → Rest
after_shard k s l = at_shards (record k { leaves = k.leaves - 1 }) (with_shard s l)

-- by the shift of a block: not sharded, or sharded
abbrev pub by_shift : ℕ → Rest → Rest → Rest
by_shift zero alone cut = alone
by_shift (suc n) alone cut = cut

-- behind a leaf
abbrev pub after_leaf : Kept → Seen → Leaf → Rest
after_leaf k s l = by_shift k.shift (after_body k s (as_body l)) (after_shard k s l)

unfoldable pub at_exact_plane : Kept → Seen → Rest
at_exact_plane k s = do
  bytes ← plane_bytes fields.ExactPlane k.starts
  after_leaf k s (mixed_of k (record s { columns = column_of k bytes ∷ [] }))

unfoldable pub at_exact_starts : Kept → Seen → Rest
at_exact_starts k s = do
  starts ← number fields.ExactStarts w32 1 MAX_STARTS
  at_exact_plane (record k { starts = starts }) s

unfoldable pub at_exact_seed : Kept → Seen → Rest
at_exact_seed k s = do
  seed ← number fields.ExactSeed w8 0 255
  at_exact_starts (record k { seed = seed }) s

-- before a plane of the approximate stage, or behind its last
unfoldable pub at_approx_planes : Kept → Seen → Rest
at_approx_planes k s = do
  list ← columns fields.ApproxPlane k.starts k.planes
  at_exact_seed k (with_approx k (record s { columns = s.columns ++ list }))

unfoldable pub at_approx_plane : Kept → Seen → Rest
at_approx_plane k s = do
  bytes ← plane_bytes fields.ApproxPlane k.starts
  at_approx_planes (record k { planes = k.planes - 1 }) (with_plane k s bytes)

unfoldable pub at_approx_starts : Kept → Seen → Rest
at_approx_starts k s = do
  starts ← number fields.ApproxStarts w32 1 MAX_STARTS
  at_approx_planes (record k { starts = starts }) (record s { columns = [] })

unfoldable pub at_approx_seed : Kept → Seen → Rest
at_approx_seed k s = do
  seed ← number fields.ApproxSeed w8 0 255
  at_approx_starts (record k { seed = seed }) s

unfoldable pub at_approx : Kept → Seen → Rest
at_approx k s = do
  first ← approx k.planes
  at_exact_seed k (record s { approx = first })

unfoldable pub at_k : Kept → Seen → Rest
at_k k s = do
  n ← number fields.BlockK w8 0 MAX_PLANES
  at_approx (record k { planes = n }) s

unfoldable pub at_leaf : ℕ → Kept → Seen → Rest
at_leaf mode k s = do
  l ← leaf mode
  after_shard k s l

unfoldable pub at_shard_mode : Kept → Seen → Rest
at_shard_mode k s = do
  mode ← number fields.ShardMode w8 0 2
  at_leaf mode k s

unfoldable pub at_shift : Kept → Seen → Rest
at_shift k s = do
  shift ← number fields.BlockShift w8 1 MAX_SHIFT
  at_shards (kept_shift k shift) (record s { leaves = [] })

unfoldable pub at_body : ℕ → Kept → Seen → Rest
at_body mode k s = do
  body ← body_of mode
  after_body k s body

unfoldable pub at_mode : Kept → Seen → Rest
at_mode k s = do
  mode ← number fields.BlockMode w8 0 (greatest_mode k.version)
  at_body mode k s

unfoldable pub at_issuer : Kept → Seen → Rest
at_issuer k s = do
  issuer ← key fields.BlockIssuer (is_after (previous k))
  at_mode (record k { key = issuer }) s

unfoldable pub at_issuers : Kept → Seen → Rest
at_issuers k s = do
  count ← number fields.PartIssuers w32 0 MAX_BLOCKS
  at_blocks (kept_issuers k count) (record s { blocks = [] })

-- before a range, or behind the last
unfoldable pub at_ranges : Kept → Seen → Rest
at_ranges k s = do
  more ← repeated range next_log k.ranges_left (previous k)
  at_issuers k (record s { ranges = s.ranges ++ more })

unfoldable pub at_range_to : Kept → Seen → Rest
at_range_to k s = do
  to ← number fields.RangeTo w64 k.from (2 ^ 64 - 1)
  at_ranges (kept_range (record k { to = to })) (with_range s (record { log = k.key; from = k.from; to = to }))

unfoldable pub at_range_from : Kept → Seen → Rest
at_range_from k s = do
  from ← number fields.RangeFrom w64 0 (2 ^ 64 - 1)
  at_range_to (record k { from = from }) s

unfoldable pub at_range_log : Kept → Seen → Rest
at_range_log k s = do
  log ← key fields.RangeLog (is_after (previous k))
  at_range_from (record k { key = log }) s

unfoldable pub at_count : Kept → Seen → Rest
at_count k s = do
  count ← number fields.PartRanges w16 0 MAX_RANGES
  at_ranges (kept_ranges k count) (record s { ranges = [] })

unfoldable pub at_parent : Kept → Seen → Rest
at_parent k s = do
  parent ← key fields.PartParent (is_parent k.kind)
  at_count (record k { parent = parent }) s

unfoldable pub at_epoch : Kept → Seen → Rest
at_epoch k s = do
  epoch ← number fields.PartEpoch w64 0 (2 ^ 64 - 1)
  at_parent (record k { epoch = epoch }) s

unfoldable pub at_kind : Kept → Seen → Rest
at_kind k s = do
  kind ← number fields.PartKind w8 0 1
  at_epoch (record k { kind = kind }) s

unfoldable pub at_version : Kept → Seen → Rest
at_version k s = do
  version ← number fields.PartVersion w8 1 2
  at_kind (record k { version = version }) s

unfoldable pub at_magic : Kept → Seen → Rest
at_magic k s = do
  begin ← magic fields.PartMagic (codes "CLUBCARD")
  at_version k s

unfoldable pub rest : Open → Kept → Seen → Rest
rest opens.Magic k s = at_magic k s
rest opens.Version k s = at_version k s
rest opens.Kind k s = at_kind k s
rest opens.Epoch k s = at_epoch k s
rest opens.Parent k s = at_parent k s
rest opens.Ranges k s = at_count k s
rest opens.RangeLog k s = at_range_log k s
rest opens.RangeFrom k s = at_range_from k s
rest opens.RangeTo k s = at_range_to k s
rest opens.Issuers k s = at_issuers k s
rest opens.BlockIssuer k s = at_issuer k s
rest opens.BlockMode k s = at_mode k s
rest opens.BlockShift k s = at_shift k s
rest opens.ShardMode k s = at_shard_mode k s
rest opens.BlockK k s = at_k k s
rest opens.ApproxSeed k s = at_approx_seed k s
rest opens.ApproxStarts k s = at_approx_starts k s
rest opens.ApproxPlane k s = at_approx_plane k s
rest opens.ExactSeed k s = at_exact_seed k s
rest opens.ExactStarts k s = at_exact_starts k s
rest opens.ExactPlane k s = at_exact_plane k s
rest opens.Sharded k s = at_sharded k s
rest opens.Trailer k s = at_trailer k s
rest opens.Done k s = whole (sealed_of k s)
