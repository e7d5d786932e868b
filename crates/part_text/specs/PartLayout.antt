-- The layout of a part, line by line as in docs/FORMATS.md.
use Rattle.std.specs.Prelude.{ℕ, zero, suc, ◌+◌, ◌-◌, ◌*◌, ◌^◌, List, Bool, false, true, ◌==◌, ◌||◌, Option, Some, None, codes}
use Rattle.std.specs.List.{list_any}
use Rattle.std.specs.Int.{w8, w16, w32, w64}
use Rattle.std.specs.Str.{bytes_eq}
use Rattle.octets_core.specs.Linked.{is_after}
use Rattle.octets_core.specs.Layout.{Layout, ◌>>=◌, whole, bytes_field, repeated, mapped}
use Rattle.octets_core.specs.Reading.{fault_at, number, key, magic, digest}
use Rattle.octets_core.specs.declared.field.Field.{Field}
use Rattle.octets_core.specs.declared.field.Field.TheVariants as fields
use Rattle.octets_core.specs.declared.fault.LayoutFault.{LayoutFault}
use Rattle.octets_core.specs.declared.fault.Why.TheVariants as why
use Rattle.equation_core.specs.declared.hash.TheConstants.{MAX_PLANES}
use Rattle.equation_core.specs.declared.shards.TheConstants.{MAX_SHIFT}
use Rattle.equation_core.specs.declared.sizes.TheConstants.{MAX_STARTS}
use Rattle.equation_core.specs.Sizes.{words_for}
use Rattle.ribbon_core.specs.PlaneWords.{PlaneColumns}
use Rattle.ident_core.specs.declared.bounds.TheConstants.{MAX_RANGES}
use Rattle.ident_core.specs.declared.kind.Kind.{Kind}
use Rattle.ident_core.specs.declared.kind.Kind.TheVariants as kinds
use Rattle.ident_core.specs.HeadFields.{HeadFields, zero_key}
use Rattle.ident_core.specs.RangeLayout.{ranges}
use Rattle.card_core.specs.declared.block.Block.{Block}
use Rattle.card_core.specs.declared.block.Body.{Body}
use Rattle.card_core.specs.declared.block.Body.TheVariants as bodies
use Rattle.card_core.specs.declared.leaf.Leaf.{Leaf}
use Rattle.card_core.specs.declared.leaf.Leaf.TheVariants as leaves
use Rattle.card_core.specs.Filter.{as_body}
use Rattle.card_core.specs.declared.part.TheConstants.{MAX_BLOCKS}
use Rattle.card_core.specs.declared.stage.Stage.{Stage}
use Rattle.card_core.specs.MixedFields.{MixedFields}
use Rattle.card_core.specs.ShardedFields.{ShardedFields}
use Rattle.card_core.specs.PartFields.{PartFields}
use Rattle.part_text.specs.PlaneBytes.{columns_of_bytes, is_padded}
use Rattle.part_text.specs.SealedFields.{SealedFields}
use Rattle.part_text.specs.declared.fault.PartFault.{PartFault}
use Rattle.part_text.specs.declared.fault.PartFault.TheVariants as faults

-- a layout whose faults are those of its fields
abbrev pub fielded : {A : Type 0} → Layout LayoutFault A → Layout PartFault A
fielded layout = mapped faults.Layout layout

abbrev pub kind_of : ℕ → Kind
kind_of zero = kinds.Snapshot
kind_of (suc n) = kinds.Delta

-- zeros in a snapshot
abbrev pub is_parent : ℕ → List ℕ → Bool
is_parent kind parent = kind == 1 || bytes_eq parent zero_key

-- the version, and the head
unfoldable pub head : Layout LayoutFault (ℕ × HeadFields)
head = do
  begin ← magic fields.PartMagic (codes "CLUBCARD")
  version ← number fields.PartVersion w8 1 2
  kind ← number fields.PartKind w8 0 1
  epoch ← number fields.PartEpoch w64 0 (2 ^ 64 - 1)
  parent ← key fields.PartParent (is_parent kind)
  count ← number fields.PartRanges w16 0 MAX_RANGES
  list ← ranges count
  whole (version, record { kind = kind_of kind; epoch = epoch; parent = parent; ranges = list })

-- the bytes of a plane, whose padding bits are zero
abbrev pub plane_bytes : Field → ℕ → Layout LayoutFault (List ℕ)
plane_bytes name starts = bytes_field (fault_at why.Short name) (fault_at why.Value name) (8 * words_for starts) (is_padded starts)

unfoldable pub plane : Field → ℕ → Layout LayoutFault ℕ
plane name starts = do
  bytes ← plane_bytes name starts
  whole (columns_of_bytes (words_for starts) bytes)

-- so many planes of so many starts
abbrev pub columns : Field → ℕ → ℕ → Layout LayoutFault (List ℕ)
columns name starts count = repeated (λ (s : Unit {0}). plane name starts) (λ s Z. s) count tt

-- so many planes, and their starts before them
unfoldable pub planes : Field → Field → ℕ → Layout LayoutFault PlaneColumns
planes starts_name plane_name count = do
  starts ← number starts_name w32 1 MAX_STARTS
  list ← columns plane_name starts count
  whole (record { starts = starts; columns = list })

unfoldable pub approx_stage : ℕ → Layout LayoutFault (Option Stage)
approx_stage k = do
  seed ← number fields.ApproxSeed w8 0 255
  p ← planes fields.ApproxStarts fields.ApproxPlane k
  whole (Some (record { seed = seed; planes = p }))

-- no approximate stage where k is 0
abbrev pub approx : ℕ → Layout LayoutFault (Option Stage)
approx zero = whole None
approx (suc n) = approx_stage (suc n)

unfoldable pub exact : Layout LayoutFault Stage
exact = do
  seed ← number fields.ExactSeed w8 0 255
  p ← planes fields.ExactStarts fields.ExactPlane 1
  whole (record { seed = seed; planes = p })

unfoldable pub mixed : Layout LayoutFault MixedFields
mixed = do
  k ← number fields.BlockK w8 0 MAX_PLANES
  first ← approx k
  second ← exact
  whole (record { approx = first; exact = second })

-- a leaf of a mode: none, all or mixed
abbrev pub leaf : ℕ → Layout LayoutFault Leaf
leaf zero = whole leaves.Clean
leaf (suc zero) = whole leaves.Every
leaf (suc (suc n)) = do
  m ← mixed
  whole (leaves.Mixed m)

-- the leaf of a shard
unfoldable pub shard : Layout LayoutFault Leaf
shard = do
  mode ← number fields.ShardMode w8 0 2
  leaf mode

-- so many shards
abbrev pub shards : ℕ → Layout LayoutFault (List Leaf)
shards count = repeated (λ (s : Unit {0}). shard) (λ s l. s) count tt

-- a leaf for each shard
unfoldable pub sharded : Layout LayoutFault ShardedFields
sharded = do
  shift ← number fields.BlockShift w8 1 MAX_SHIFT
  list ← shards (2 ^ shift)
  whole (record { shift = shift; leaves = list })

-- one leaf
abbrev pub plain : ℕ → Layout LayoutFault Body
plain mode = do
  l ← leaf mode
  whole (as_body l)

-- a body of a mode: one leaf of that mode, or shards
abbrev pub body_of : ℕ → Layout LayoutFault Body
body_of zero = plain zero
body_of (suc zero) = plain (suc zero)
body_of (suc (suc zero)) = plain (suc (suc zero))
body_of (suc (suc (suc n))) = do
  s ← sharded
  whole (bodies.Sharded s)

-- 2 in version 1, and 3 in version 2
abbrev pub greatest_mode : ℕ → ℕ
greatest_mode version = version + 1

-- behind an issuer, if there is one before it
unfoldable pub block : ℕ → Option (List ℕ) → Layout LayoutFault Block
block version previous = do
  issuer ← key fields.BlockIssuer (is_after previous)
  mode ← number fields.BlockMode w8 0 (greatest_mode version)
  body ← body_of mode
  whole (record { issuer = issuer; body = body })

-- so many blocks
abbrev pub blocks : ℕ → ℕ → Layout LayoutFault (List Block)
blocks version count = repeated (block version) (λ previous b. Some b.issuer) count None

abbrev pub is_sharded : Body → Bool
is_sharded bodies.Clean = false
is_sharded bodies.Every = false
is_sharded (bodies.Mixed m) = false
is_sharded (bodies.Sharded s) = true

abbrev pub some_sharded : List Block → Bool
some_sharded list = list_any (λ b. is_sharded b.body) list

-- no byte: version 2 has a block that is sharded
abbrev pub sharded_test : ℕ → Bool → Layout LayoutFault (List ℕ)
sharded_test version some =
    bytes_field (fault_at why.Short fields.PartSharded) (fault_at why.Value fields.PartSharded) 0
    (λ none. version == 1 || some)

-- all but the trailer
unfoldable pub unsealed : Layout LayoutFault PartFields
unsealed = do
  h ← head
  count ← number fields.PartIssuers w32 0 MAX_BLOCKS
  list ← blocks h.0 count
  none ← sharded_test h.0 (some_sharded list)
  whole (record { head = h.1; blocks = list })

-- a part with its trailer
unfoldable pub sealed : Layout LayoutFault SealedFields
sealed = do
  p ← unsealed
  trailer ← digest fields.PartTrailer
  whole (record { part = p; trailer = trailer })

-- the same, for a function that also wants memory
abbrev pub part : Layout PartFault SealedFields
part = fielded sealed
