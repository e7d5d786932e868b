-- The fields of a part one by one: how wide each is, its test, and what is kept and seen behind it.
use Rattle.std.specs.Prelude.{◌≡◌, ℕ, zero, suc, ◌+◌, ◌-◌, ◌*◌, ◌/◌, ◌^◌, ◌<◌, ◌≤◌, List, [], ◌∷◌, length, take, drop}
use Rattle.std.specs.Prelude.{Bool, true, false, ◌==◌, ◌||◌, None, codes}
use Rattle.std.specs.Int.{w8, w16, w32, w64, from_be_bytes}
use Rattle.std.specs.Str.{bytes_eq}
use Rattle.octets_core.specs.Linked.{is_after}
use Rattle.octets_core.specs.Layout.{within}
use Rattle.octets_core.specs.declared.field.Field.{Field}
use Rattle.octets_core.specs.declared.field.Field.TheVariants as fields
use Rattle.octets_core.specs.declared.fault.Why.{Why}
use Rattle.octets_core.specs.declared.fault.Why.TheVariants as why
use Rattle.equation_core.specs.declared.hash.TheConstants.{MAX_PLANES}
use Rattle.equation_core.specs.declared.shards.TheConstants.{MAX_SHIFT}
use Rattle.equation_core.specs.declared.sizes.TheConstants.{MAX_STARTS}
use Rattle.equation_core.specs.Sizes.{words_for}
use Rattle.ident_core.specs.declared.bounds.TheConstants.{MAX_RANGES}
use Rattle.ident_core.specs.declared.layout.TheConstants.{RANGE_BYTES}
use Rattle.card_core.specs.declared.block.Body.TheVariants as bodies
use Rattle.card_core.specs.declared.leaf.Leaf.TheVariants as leaves_of
use Rattle.card_core.specs.declared.part.TheConstants.{MAX_BLOCKS}
use Rattle.part_text.specs.PlaneBytes.{is_padded}
use Rattle.part_text.specs.declared.encode.TheConstants.{MAX_BLOCK, MAX_LEAF}
use Rattle.part_codec.specs.declared.fields.TheConstants.{TRAILER}
use Rattle.part_codec.specs.declared.fields.Kept.{Kept}
use Rattle.part_codec.specs.declared.fields.Open.{Open}
use Rattle.part_codec.specs.declared.fields.Open.TheVariants as opens
use Rattle.part_text.specs.PartLayout.{is_parent, greatest_mode, some_sharded}
use Rattle.part_codec.specs.Remaining.{Seen, with_range, with_block, seen_leaf, column_of, with_plane, with_approx, mixed_of, previous}
use Rattle.part_codec.specs.Remaining.{kept_range, kept_leaf, kept_leaf_mode, kept_mode, kept_shift, kept_ranges, kept_issuers}

-- before the trailer
abbrev pub in_front : Open → Bool
in_front opens.Trailer = false
in_front opens.Done = false
in_front o = true

-- it is no plane, and one that has a byte comes behind it
abbrev pub leads_on : Open → Bool
leads_on opens.BlockIssuer = true
leads_on opens.BlockK = true
leads_on opens.ApproxSeed = true
leads_on opens.ApproxStarts = true
leads_on opens.ExactSeed = true
leads_on opens.ExactStarts = true
leads_on o = false

-- of a plane its last word alone is held, which has all padding bits; so many bytes before it are passed
abbrev pub skips : Open → Kept → ℕ
skips opens.ApproxPlane k = 8 * (words_for k.starts - 1)
skips opens.ExactPlane k = 8 * (words_for k.starts - 1)
skips o k = 0

-- so many bytes are held
abbrev pub tail_of : Open → ℕ
tail_of opens.Magic = 8
tail_of opens.Version = 1
tail_of opens.Kind = 1
tail_of opens.Epoch = 8
tail_of opens.Parent = 32
tail_of opens.Ranges = 2
tail_of opens.RangeLog = 32
tail_of opens.RangeFrom = 8
tail_of opens.RangeTo = 8
tail_of opens.Issuers = 4
tail_of opens.BlockIssuer = 32
tail_of opens.BlockMode = 1
tail_of opens.BlockShift = 1
tail_of opens.ShardMode = 1
tail_of opens.BlockK = 1
tail_of opens.ApproxSeed = 1
tail_of opens.ApproxStarts = 4
tail_of opens.ApproxPlane = 8
tail_of opens.ExactSeed = 1
tail_of opens.ExactStarts = 4
tail_of opens.ExactPlane = 8
tail_of opens.Sharded = 0
tail_of opens.Trailer = 32
tail_of opens.Done = 0

abbrev pub width_of : Open → Kept → ℕ
width_of opens.ApproxPlane k = 8 * words_for k.starts
width_of opens.ExactPlane k = 8 * words_for k.starts
width_of o k = tail_of o

abbrev pub passes : Open → Kept → List ℕ → List ℕ → Bool
passes opens.Magic k sum p = bytes_eq (codes "CLUBCARD") p
passes opens.Version k sum p = within 1 2 (from_be_bytes w8 p)
passes opens.Kind k sum p = within 0 1 (from_be_bytes w8 p)
passes opens.Epoch k sum p = within 0 (2 ^ 64 - 1) (from_be_bytes w64 p)
passes opens.Parent k sum p = is_parent k.kind p
passes opens.Ranges k sum p = within 0 MAX_RANGES (from_be_bytes w16 p)
passes opens.RangeLog k sum p = is_after (previous k) p
passes opens.RangeFrom k sum p = within 0 (2 ^ 64 - 1) (from_be_bytes w64 p)
passes opens.RangeTo k sum p = within k.from (2 ^ 64 - 1) (from_be_bytes w64 p)
passes opens.Issuers k sum p = within 0 MAX_BLOCKS (from_be_bytes w32 p)
passes opens.BlockIssuer k sum p = is_after (previous k) p
passes opens.BlockMode k sum p = within 0 (greatest_mode k.version) (from_be_bytes w8 p)
passes opens.BlockShift k sum p = within 1 MAX_SHIFT (from_be_bytes w8 p)
passes opens.ShardMode k sum p = within 0 2 (from_be_bytes w8 p)
passes opens.BlockK k sum p = within 0 MAX_PLANES (from_be_bytes w8 p)
passes opens.ApproxSeed k sum p = within 0 255 (from_be_bytes w8 p)
passes opens.ApproxStarts k sum p = within 1 MAX_STARTS (from_be_bytes w32 p)
passes opens.ApproxPlane k sum p = is_padded k.starts p
passes opens.ExactSeed k sum p = within 0 255 (from_be_bytes w8 p)
passes opens.ExactStarts k sum p = within 1 MAX_STARTS (from_be_bytes w32 p)
passes opens.ExactPlane k sum p = is_padded k.starts p
passes opens.Sharded k sum p = k.version == 1 || k.sharded
passes opens.Trailer k sum p = bytes_eq sum p
passes opens.Done k sum p = false

-- the padding bits of the last word are zero
abbrev pub is_padded_last : ℕ → List ℕ → Bool
is_padded_last starts p = from_be_bytes w64 p / 2 ^ (starts + 127 - 64 * (words_for starts - 1)) == 0

-- so are those of each of so many planes, one behind the other
abbrev pub ArePadded : ℕ → ℕ → List ℕ → Type 0
ArePadded starts n t = (i : ℕ) → i < n
    → is_padded_last starts (take 8 (drop (i * (8 * words_for starts) + (8 * words_for starts - 8)) t)) ≡ true

-- the same test, of the bytes that are held
abbrev pub passes_last : Open → Kept → List ℕ → List ℕ → Bool
passes_last opens.ApproxPlane k sum p = is_padded_last k.starts p
passes_last opens.ExactPlane k sum p = is_padded_last k.starts p
passes_last o k sum p = passes o k sum p

abbrev pub seen_mode : ℕ → Kept → Seen → Seen
seen_mode zero k s = with_block s k.key bodies.Clean
seen_mode (suc zero) k s = with_block s k.key bodies.Every
seen_mode (suc (suc n)) k s = s

abbrev pub seen_leaf_mode : ℕ → Kept → Seen → Seen
seen_leaf_mode zero k s = seen_leaf k s leaves_of.Clean
seen_leaf_mode (suc zero) k s = seen_leaf k s leaves_of.Every
seen_leaf_mode (suc (suc n)) k s = s

abbrev pub kept_after : Open → Kept → List ℕ → Kept
kept_after opens.Version k p = record k { version = from_be_bytes w8 p }
kept_after opens.Kind k p = record k { kind = from_be_bytes w8 p }
kept_after opens.Epoch k p = record k { epoch = from_be_bytes w64 p }
kept_after opens.Parent k p = record k { parent = p }
kept_after opens.Ranges k p = kept_ranges k (from_be_bytes w16 p)
kept_after opens.RangeLog k p = record k { key = p }
kept_after opens.RangeFrom k p = record k { from = from_be_bytes w64 p }
kept_after opens.RangeTo k p = kept_range (record k { to = from_be_bytes w64 p })
kept_after opens.Issuers k p = kept_issuers k (from_be_bytes w32 p)
kept_after opens.BlockIssuer k p = record k { key = p }
kept_after opens.BlockMode k p = kept_mode (from_be_bytes w8 p) k
kept_after opens.BlockShift k p = kept_shift k (from_be_bytes w8 p)
kept_after opens.ShardMode k p = kept_leaf_mode (from_be_bytes w8 p) k
kept_after opens.BlockK k p = record k { planes = from_be_bytes w8 p }
kept_after opens.ApproxSeed k p = record k { seed = from_be_bytes w8 p }
kept_after opens.ApproxStarts k p = record k { starts = from_be_bytes w32 p }
kept_after opens.ApproxPlane k p = record k { planes = k.planes - 1 }
kept_after opens.ExactSeed k p = record k { seed = from_be_bytes w8 p }
kept_after opens.ExactStarts k p = record k { starts = from_be_bytes w32 p }
kept_after opens.ExactPlane k p = kept_leaf k
kept_after opens.Trailer k p = record k { trailer = p }
kept_after o k p = k

-- at a range, or behind the last
abbrev pub open_range : ℕ → Open
open_range zero = opens.Issuers
open_range (suc n) = opens.RangeLog

abbrev pub open_block : ℕ → Open
open_block zero = opens.Sharded
open_block (suc n) = opens.BlockIssuer

-- behind a leaf
abbrev pub open_leaf : ℕ → ℕ → Open
open_leaf zero left = open_block left
open_leaf (suc n) left = opens.ShardMode

abbrev pub open_mode : ℕ → ℕ → ℕ → Open
open_mode zero leaves left = open_leaf leaves left
open_mode (suc zero) leaves left = open_leaf leaves left
open_mode (suc (suc zero)) leaves left = opens.BlockK
open_mode (suc (suc (suc n))) leaves left = opens.BlockShift

abbrev pub open_approx : ℕ → Open
open_approx zero = opens.ExactSeed
open_approx (suc n) = opens.ApproxSeed

abbrev pub open_plane : ℕ → Open
open_plane zero = opens.ExactSeed
open_plane (suc n) = opens.ApproxPlane

-- the field behind, from what is kept then
abbrev pub open_after : Open → Kept → Open
open_after opens.Magic k = opens.Version
open_after opens.Version k = opens.Kind
open_after opens.Kind k = opens.Epoch
open_after opens.Epoch k = opens.Parent
open_after opens.Parent k = opens.Ranges
open_after opens.Ranges k = open_range k.ranges_left
open_after opens.RangeLog k = opens.RangeFrom
open_after opens.RangeFrom k = opens.RangeTo
open_after opens.RangeTo k = open_range k.ranges_left
open_after opens.Issuers k = open_block k.left
open_after opens.BlockIssuer k = opens.BlockMode
open_after opens.BlockMode k = open_mode k.mode k.leaves k.left
open_after opens.BlockShift k = opens.ShardMode
open_after opens.ShardMode k = open_mode k.mode k.leaves k.left
open_after opens.BlockK k = open_approx k.planes
open_after opens.ApproxSeed k = opens.ApproxStarts
open_after opens.ApproxStarts k = open_plane k.planes
open_after opens.ApproxPlane k = open_plane k.planes
open_after opens.ExactSeed k = opens.ExactStarts
open_after opens.ExactStarts k = opens.ExactPlane
open_after opens.ExactPlane k = open_leaf k.leaves k.left
open_after opens.Sharded k = opens.Trailer
open_after opens.Trailer k = opens.Done
open_after opens.Done k = opens.Done

-- the field that the next byte is of
abbrev pub settled : Open → Open
settled opens.Sharded = opens.Trailer
settled o = o

abbrev pub seen_after : Open → Kept → Seen → List ℕ → Seen
seen_after opens.Ranges k s p = record s { ranges = [] }
seen_after opens.RangeTo k s p = with_range s (record { log = k.key; from = k.from; to = from_be_bytes w64 p })
seen_after opens.Issuers k s p = record s { blocks = [] }
seen_after opens.BlockMode k s p = seen_mode (from_be_bytes w8 p) k s
seen_after opens.BlockShift k s p = record s { leaves = [] }
seen_after opens.ShardMode k s p = seen_leaf_mode (from_be_bytes w8 p) k s
seen_after opens.BlockK k s p = record s { approx = None }
seen_after opens.ApproxStarts k s p = with_approx (record k { starts = from_be_bytes w32 p }) (record s { columns = [] })
seen_after opens.ApproxPlane k s p = with_approx k (with_plane k s p)
seen_after opens.ExactPlane k s p = seen_leaf k s (mixed_of k (record s { columns = column_of k p ∷ [] }))
seen_after o k s p = s

abbrev pub name_of : Open → Field
name_of opens.Magic = fields.PartMagic
name_of opens.Version = fields.PartVersion
name_of opens.Kind = fields.PartKind
name_of opens.Epoch = fields.PartEpoch
name_of opens.Parent = fields.PartParent
name_of opens.Ranges = fields.PartRanges
name_of opens.RangeLog = fields.RangeLog
name_of opens.RangeFrom = fields.RangeFrom
name_of opens.RangeTo = fields.RangeTo
name_of opens.Issuers = fields.PartIssuers
name_of opens.BlockIssuer = fields.BlockIssuer
name_of opens.BlockMode = fields.BlockMode
name_of opens.BlockShift = fields.BlockShift
name_of opens.ShardMode = fields.ShardMode
name_of opens.BlockK = fields.BlockK
name_of opens.ApproxSeed = fields.ApproxSeed
name_of opens.ApproxStarts = fields.ApproxStarts
name_of opens.ApproxPlane = fields.ApproxPlane
name_of opens.ExactSeed = fields.ExactSeed
name_of opens.ExactStarts = fields.ExactStarts
name_of opens.ExactPlane = fields.ExactPlane
name_of opens.Sharded = fields.PartSharded
name_of opens.Trailer = fields.PartTrailer
name_of opens.Done = fields.End

abbrev pub wrong_of : Open → Why
wrong_of opens.Trailer = why.Digest
wrong_of o = why.Value

abbrev pub AreStarts : ℕ → Type 0
AreStarts n = (1 ≤ n) × (n ≤ MAX_STARTS)

abbrev pub IsShift : ℕ → Type 0
IsShift n = (1 ≤ n) × (n ≤ MAX_SHIFT)

-- what the counts that pass keep to
abbrev pub AreLimits : Open → List ℕ → Type 0
AreLimits opens.Ranges p = from_be_bytes w16 p ≤ MAX_RANGES
AreLimits opens.Issuers p = from_be_bytes w32 p ≤ MAX_BLOCKS
AreLimits opens.BlockShift p = IsShift (from_be_bytes w8 p)
AreLimits opens.BlockK p = from_be_bytes w8 p ≤ MAX_PLANES
AreLimits opens.ApproxStarts p = AreStarts (from_be_bytes w32 p)
AreLimits opens.ExactStarts p = AreStarts (from_be_bytes w32 p)
AreLimits o p = Unit {0}

-- in a block, and in a leaf: the one of the block, or that of a shard
abbrev pub InBlock : Kept → Type 0
InBlock k = (1 ≤ k.left) × (k.ranges_left ≡ 0)

abbrev pub InLeaf : Kept → Type 0
InLeaf k = InBlock k × (1 ≤ k.leaves) × (k.shift ≤ MAX_SHIFT) × (k.shift ≡ 0 → k.leaves ≡ 1)

-- the open item is one of those that are left, and none is left behind the last
abbrev pub IsOpen : Open → Kept → Type 0
IsOpen opens.Magic k = Unit {0}
IsOpen opens.Version k = Unit {0}
IsOpen opens.Kind k = Unit {0}
IsOpen opens.Epoch k = Unit {0}
IsOpen opens.Parent k = Unit {0}
IsOpen opens.Ranges k = Unit {0}
IsOpen opens.RangeLog k = 1 ≤ k.ranges_left
IsOpen opens.RangeFrom k = 1 ≤ k.ranges_left
IsOpen opens.RangeTo k = 1 ≤ k.ranges_left
IsOpen opens.Issuers k = k.ranges_left ≡ 0
IsOpen opens.BlockIssuer k = InBlock k
IsOpen opens.BlockMode k = InBlock k
IsOpen opens.BlockShift k = InBlock k
IsOpen opens.ShardMode k = InLeaf k × (1 ≤ k.shift)
IsOpen opens.Sharded k = (k.left ≡ 0) × (k.ranges_left ≡ 0)
IsOpen opens.Trailer k = (k.left ≡ 0) × (k.ranges_left ≡ 0)
IsOpen opens.Done k = (k.left ≡ 0) × (k.ranges_left ≡ 0)
IsOpen o k = InLeaf k

-- what was seen and what is left are as many as were announced, and it is kept whether a block that was seen is sharded
pub record Counts (k : Kept) (s : Seen) : Type 0 where
  pub ranges : length s.ranges + k.ranges_left ≡ k.ranges
  pub blocks : length s.blocks + k.left ≡ k.issuers
  pub leaves : 1 ≤ k.shift → 1 ≤ k.leaves → length s.leaves + k.leaves ≡ 2 ^ k.shift
  pub sharded : k.sharded ≡ some_sharded s.blocks

-- ---- at most so many bytes are still to come

-- no plane has more bytes
abbrev pub plane_most : ℕ
plane_most = 8 * words_for MAX_STARTS

-- behind the ranges, behind the open block, leaf and range
abbrev pub behind_ranges : ℕ
behind_ranges = 4 + MAX_BLOCK * MAX_BLOCKS + TRAILER

abbrev pub behind_block : Kept → ℕ
behind_block k = MAX_BLOCK * (k.left - 1) + TRAILER

abbrev pub behind_leaf : Kept → ℕ
behind_leaf k = MAX_LEAF * (k.leaves - 1) + behind_block k

abbrev pub behind_range : Kept → ℕ
behind_range k = RANGE_BYTES * (k.ranges_left - 1) + behind_ranges

-- this field's among them
abbrev pub still : Open → Kept → ℕ
still opens.Magic k = 52 + RANGE_BYTES * MAX_RANGES + behind_ranges
still opens.Version k = 44 + RANGE_BYTES * MAX_RANGES + behind_ranges
still opens.Kind k = 43 + RANGE_BYTES * MAX_RANGES + behind_ranges
still opens.Epoch k = 42 + RANGE_BYTES * MAX_RANGES + behind_ranges
still opens.Parent k = 34 + RANGE_BYTES * MAX_RANGES + behind_ranges
still opens.Ranges k = 2 + RANGE_BYTES * MAX_RANGES + behind_ranges
still opens.RangeLog k = 48 + behind_range k
still opens.RangeFrom k = 16 + behind_range k
still opens.RangeTo k = 8 + behind_range k
still opens.Issuers k = behind_ranges
still opens.BlockIssuer k = MAX_BLOCK + behind_block k
still opens.BlockMode k = MAX_BLOCK - 32 + behind_block k
still opens.BlockShift k = MAX_BLOCK - 33 + behind_block k
still opens.ShardMode k = MAX_LEAF + behind_leaf k
still opens.BlockK k = 11 + plane_most * (MAX_PLANES + 1) + behind_leaf k
still opens.ApproxSeed k = 10 + plane_most * (k.planes + 1) + behind_leaf k
still opens.ApproxStarts k = 9 + plane_most * (k.planes + 1) + behind_leaf k
still opens.ApproxPlane k = 5 + plane_most * (k.planes - 1 + 2) + behind_leaf k
still opens.ExactSeed k = 5 + plane_most + behind_leaf k
still opens.ExactStarts k = 4 + plane_most + behind_leaf k
still opens.ExactPlane k = plane_most + behind_leaf k
still opens.Sharded k = TRAILER
still opens.Trailer k = TRAILER
still opens.Done k = 0

-- what the bytes of a field that passed tell
abbrev pub Passed : Open → Kept → List ℕ → Type 0
Passed opens.ApproxPlane k p = (is_padded k.starts p ≡ true) × (length p ≡ 8 * words_for k.starts)
Passed opens.ExactPlane k p = (is_padded k.starts p ≡ true) × (length p ≡ 8 * words_for k.starts)
Passed o k p = AreLimits o p
