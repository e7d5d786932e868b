-- A part is a list of fields: bytes behind what was read change nothing.
use Rattle.std.proofs.Common.{ℕ, zero, suc, ◌-◌, ◌*◌, ◌^◌, List, Option, None, Bool, refl}
use Rattle.std.specs.Int.{Width, w8, w16, w32, w64}
use Rattle.octets_core.specs.Layout.{bytes_field}
use Rattle.octets_core.specs.Linked.{is_after}
use Rattle.octets_core.specs.OfFields.{IsOfFields, IsShort}
use Rattle.octets_core.specs.Reading.{fault_at, number}
use Rattle.octets_core.proofs.OfFields.{bytes_field-of, number_field-of, sum_field-of, whole-of, repeated-of, ◌>>>◌}
use Rattle.octets_core.specs.declared.field.Field.{Field}
use Rattle.octets_core.specs.declared.field.Field.TheVariants as fields
use Rattle.octets_core.specs.declared.fault.Why.TheVariants as why
use Rattle.ident_core.specs.RangeLayout.{range}
use Rattle.ident_core.specs.declared.bounds.TheConstants.{MAX_RANGES}
use Rattle.equation_core.specs.declared.hash.TheConstants.{MAX_PLANES}
use Rattle.equation_core.specs.declared.shards.TheConstants.{MAX_SHIFT}
use Rattle.equation_core.specs.declared.sizes.TheConstants.{MAX_STARTS}
use Rattle.equation_core.specs.Sizes.{words_for}
use Rattle.card_core.specs.declared.part.TheConstants.{MAX_BLOCKS}
use Rattle.part_text.specs.PlaneBytes.{is_padded}
use Rattle.part_text.specs.PartLayout.{head, plane, planes, approx_stage, approx, exact, mixed, leaf, shard, sharded, plain, body_of, greatest_mode, block, unsealed, sealed}

number-of : (name : Field) (w : Width) (low high : ℕ) → IsOfFields IsShort (number name w low high)
number-of name w low high = number_field-of IsShort _ _ (λ at. refl) w low high

bytes-of : (name : Field) (width : ℕ) (test : List ℕ → Bool) → IsOfFields IsShort (bytes_field (fault_at why.Short name) (fault_at why.Value name) width test)
bytes-of name width test = bytes_field-of IsShort _ _ (λ at. refl) width test

range-of : (previous : Option (List ℕ)) → IsOfFields IsShort (range previous)
unfolding range
range-of previous =
    bytes-of fields.RangeLog 32 (is_after previous) >>> λ log.
    number-of fields.RangeFrom w64 0 (2 ^ 64 - 1) >>> λ from.
    number-of fields.RangeTo w64 from (2 ^ 64 - 1) >>> λ to.
    whole-of _

head-of : IsOfFields IsShort head
unfolding head
head-of =
    bytes-of fields.PartMagic 8 _ >>> λ begin.
    number-of fields.PartVersion w8 1 2 >>> λ version.
    number-of fields.PartKind w8 0 1 >>> λ kind.
    number-of fields.PartEpoch w64 0 (2 ^ 64 - 1) >>> λ epoch.
    bytes-of fields.PartParent 32 _ >>> λ parent.
    number-of fields.PartRanges w16 0 MAX_RANGES >>> λ count.
    repeated-of range _ range-of count None >>> λ list.
    whole-of _

plane-of : (name : Field) (starts : ℕ) → IsOfFields IsShort (plane name starts)
unfolding plane
plane-of name starts =
    bytes-of name (8 * words_for starts) (is_padded starts) >>> λ bytes.
    whole-of _

planes-of : (starts_name plane_name : Field) (count : ℕ) → IsOfFields IsShort (planes starts_name plane_name count)
unfolding planes
planes-of starts_name plane_name count =
    number-of starts_name w32 1 MAX_STARTS >>> λ starts.
    repeated-of (λ (s : Unit {0}). plane plane_name starts) _ (λ s. plane-of plane_name starts) count tt >>> λ list.
    whole-of _

approx_stage-of : (k : ℕ) → IsOfFields IsShort (approx_stage k)
unfolding approx_stage
approx_stage-of k =
    number-of fields.ApproxSeed w8 0 255 >>> λ seed.
    planes-of fields.ApproxStarts fields.ApproxPlane k >>> λ p.
    whole-of _

approx-of : (k : ℕ) → IsOfFields IsShort (approx k)
approx-of zero = whole-of _
approx-of (suc n) = approx_stage-of (suc n)

exact-of : IsOfFields IsShort exact
unfolding exact
exact-of =
    number-of fields.ExactSeed w8 0 255 >>> λ seed.
    planes-of fields.ExactStarts fields.ExactPlane 1 >>> λ p.
    whole-of _

mixed-of : IsOfFields IsShort mixed
unfolding mixed
mixed-of =
    number-of fields.BlockK w8 0 MAX_PLANES >>> λ k.
    approx-of k >>> λ first.
    exact-of >>> λ second.
    whole-of _

leaf-of : (n : ℕ) → IsOfFields IsShort (leaf n)
leaf-of zero = whole-of _
leaf-of (suc zero) = whole-of _
leaf-of (suc (suc n)) = mixed-of >>> λ m. whole-of _

shard-of : IsOfFields IsShort shard
unfolding shard
shard-of = number-of fields.ShardMode w8 0 2 >>> λ mode. leaf-of mode

sharded-of : IsOfFields IsShort sharded
unfolding sharded
sharded-of =
    number-of fields.BlockShift w8 1 MAX_SHIFT >>> λ shift.
    repeated-of (λ (s : Unit {0}). shard) _ (λ s. shard-of) (2 ^ shift) tt >>> λ list.
    whole-of _

plain-of : (n : ℕ) → IsOfFields IsShort (plain n)
plain-of n = leaf-of n >>> λ l. whole-of _

body-of : (n : ℕ) → IsOfFields IsShort (body_of n)
body-of zero = plain-of 0
body-of (suc zero) = plain-of 1
body-of (suc (suc zero)) = plain-of 2
body-of (suc (suc (suc n))) = sharded-of >>> λ s. whole-of _

block-of : (version : ℕ) (previous : Option (List ℕ)) → IsOfFields IsShort (block version previous)
unfolding block
block-of version previous =
    bytes-of fields.BlockIssuer 32 (is_after previous) >>> λ issuer.
    number-of fields.BlockMode w8 0 (greatest_mode version) >>> λ mode.
    body-of mode >>> λ body.
    whole-of _

unsealed-of : IsOfFields IsShort unsealed
unfolding unsealed
unsealed-of =
    head-of >>> λ h.
    number-of fields.PartIssuers w32 0 MAX_BLOCKS >>> λ count.
    repeated-of (block h.0) _ (block-of h.0) count None >>> λ list.
    bytes-of fields.PartSharded 0 _ >>> λ none.
    whole-of _

pub sealed-of : IsOfFields IsShort sealed
unfolding sealed
sealed-of =
    unsealed-of >>> λ p.
    sum_field-of IsShort _ _ (λ at. refl) 32 _ >>> λ trailer.
    whole-of _
