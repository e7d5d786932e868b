-- A part's faults lie within its bytes.
use Rattle.std.proofs.Common.{◌≡◌, ℕ, zero, suc, ◌≤◌, ◌-◌, ◌*◌, ◌^◌, List, length, Option, None, Result, Ok, Err, refl, subst, arith, IfErr}
use Rattle.std.specs.Int.{Width, w8, w16, w32, w64}
use Rattle.octets_core.specs.Layout.{Layout, bytes_field}
use Rattle.octets_core.specs.Linked.{is_after}
use Rattle.octets_core.specs.Reading.{fault_at, number}
use Rattle.octets_core.proofs.Bounds.{IsWithin, IsBounded, bytes_field-bounded, number_field-bounded, sum_field-bounded, whole-bounded, repeated-bounded, mapped-bounded, ◌>>>◌}
use Rattle.octets_core.specs.declared.field.Field.{Field}
use Rattle.octets_core.specs.declared.field.Field.TheVariants as fields
use Rattle.octets_core.specs.declared.fault.Why.TheVariants as why
use Rattle.octets_core.specs.declared.fault.LayoutFault.{LayoutFault}
use Rattle.ident_core.specs.RangeLayout.{range}
use Rattle.equation_core.specs.declared.hash.TheConstants.{MAX_PLANES}
use Rattle.equation_core.specs.declared.shards.TheConstants.{MAX_SHIFT}
use Rattle.equation_core.specs.declared.sizes.TheConstants.{MAX_STARTS}
use Rattle.ident_core.specs.declared.bounds.TheConstants.{MAX_RANGES}
use Rattle.card_core.specs.declared.part.TheConstants.{MAX_BLOCKS}
use Rattle.part_text.specs.SealedFields.{SealedFields}
use Rattle.octets_core.specs.Reading.{GivesUnless}
use Rattle.part_text.specs.declared.fault.PartFault.{PartFault}
use Rattle.part_text.specs.declared.fault.PartFault.TheVariants as faults
use Rattle.part_text.specs.Offsets.{offset_in_part}
use Rattle.equation_core.specs.Sizes.{words_for}
use Rattle.part_text.specs.PlaneBytes.{is_padded}
use Rattle.part_text.specs.PartLayout.{fielded, head, plane, planes, approx_stage, approx, exact, mixed, leaf, shard, sharded, plain, body_of, greatest_mode, block, unsealed, sealed, part}

abbrev offset : LayoutFault → ℕ
offset f = f.at

number-bounded : (name : Field) (w : Width) (low high : ℕ) → IsBounded offset (number name w low high)
number-bounded name w low high = number_field-bounded offset _ _ w low high (λ at. refl) (λ at. refl)

bytes-bounded : (name : Field) (width : ℕ) (test : List ℕ → _) → IsBounded offset (bytes_field (fault_at why.Short name) (fault_at why.Value name) width test)
bytes-bounded name width test = bytes_field-bounded offset _ _ width test (λ at. refl) (λ at. refl)

fielded-bounded : {A : Type 0} (layout : Layout LayoutFault A) → IsBounded offset layout → IsBounded offset_in_part (fielded layout)
fielded-bounded layout b = mapped-bounded offset offset_in_part faults.Layout layout (λ e. refl) b

pub range-bounded : (previous : Option (List ℕ)) → IsBounded offset (range previous)
unfolding range
range-bounded previous =
    bytes-bounded fields.RangeLog 32 (is_after previous) >>> λ log.
    number-bounded fields.RangeFrom w64 0 (2 ^ 64 - 1) >>> λ from.
    number-bounded fields.RangeTo w64 from (2 ^ 64 - 1) >>> λ to.
    whole-bounded offset _

pub head-bounded : IsBounded offset head
unfolding head
head-bounded =
    bytes-bounded fields.PartMagic 8 _ >>> λ begin.
    number-bounded fields.PartVersion w8 1 2 >>> λ version.
    number-bounded fields.PartKind w8 0 1 >>> λ kind.
    number-bounded fields.PartEpoch w64 0 (2 ^ 64 - 1) >>> λ epoch.
    bytes-bounded fields.PartParent 32 _ >>> λ parent.
    number-bounded fields.PartRanges w16 0 MAX_RANGES >>> λ count.
    repeated-bounded offset range _ range-bounded count None >>> λ list.
    whole-bounded offset _

plane-bounded : (name : Field) (starts : ℕ) → IsBounded offset (plane name starts)
unfolding plane
plane-bounded name starts =
    bytes-bounded name (8 * words_for starts) (is_padded starts) >>> λ bytes.
    whole-bounded offset _

planes-bounded : (starts_name plane_name : Field) (count : ℕ) → IsBounded offset (planes starts_name plane_name count)
unfolding planes
planes-bounded starts_name plane_name count =
    number-bounded starts_name w32 1 MAX_STARTS >>> λ starts.
    repeated-bounded offset (λ (s : Unit {0}). plane plane_name starts) _ (λ s. plane-bounded plane_name starts) count tt >>> λ list.
    whole-bounded offset _

approx_stage-bounded : (k : ℕ) → IsBounded offset (approx_stage k)
unfolding approx_stage
approx_stage-bounded k =
    number-bounded fields.ApproxSeed w8 0 255 >>> λ seed.
    planes-bounded fields.ApproxStarts fields.ApproxPlane k >>> λ p.
    whole-bounded offset _

approx-bounded : (k : ℕ) → IsBounded offset (approx k)
approx-bounded zero = whole-bounded offset _
approx-bounded (suc n) = approx_stage-bounded (suc n)

exact-bounded : IsBounded offset exact
unfolding exact
exact-bounded =
    number-bounded fields.ExactSeed w8 0 255 >>> λ seed.
    planes-bounded fields.ExactStarts fields.ExactPlane 1 >>> λ p.
    whole-bounded offset _

mixed-bounded : IsBounded offset mixed
unfolding mixed
mixed-bounded =
    number-bounded fields.BlockK w8 0 MAX_PLANES >>> λ k.
    approx-bounded k >>> λ first.
    exact-bounded >>> λ second.
    whole-bounded offset _

leaf-bounded : (n : ℕ) → IsBounded offset (leaf n)
leaf-bounded zero = whole-bounded offset _
leaf-bounded (suc zero) = whole-bounded offset _
leaf-bounded (suc (suc n)) = mixed-bounded >>> λ m. whole-bounded offset _

shard-bounded : IsBounded offset shard
unfolding shard
shard-bounded = number-bounded fields.ShardMode w8 0 2 >>> λ mode. leaf-bounded mode

sharded-bounded : IsBounded offset sharded
unfolding sharded
sharded-bounded =
    number-bounded fields.BlockShift w8 1 MAX_SHIFT >>> λ shift.
    repeated-bounded offset (λ (s : Unit {0}). shard) _ (λ s. shard-bounded) (2 ^ shift) tt >>> λ list.
    whole-bounded offset _

plain-bounded : (n : ℕ) → IsBounded offset (plain n)
plain-bounded n = leaf-bounded n >>> λ l. whole-bounded offset _

body-bounded : (n : ℕ) → IsBounded offset (body_of n)
body-bounded zero = plain-bounded 0
body-bounded (suc zero) = plain-bounded 1
body-bounded (suc (suc zero)) = plain-bounded 2
body-bounded (suc (suc (suc n))) = sharded-bounded >>> λ s. whole-bounded offset _

block-bounded : (version : ℕ) (previous : Option (List ℕ)) → IsBounded offset (block version previous)
unfolding block
block-bounded version previous =
    bytes-bounded fields.BlockIssuer 32 (is_after previous) >>> λ issuer.
    number-bounded fields.BlockMode w8 0 (greatest_mode version) >>> λ mode.
    body-bounded mode >>> λ body.
    whole-bounded offset _

unsealed-bounded : IsBounded offset unsealed
unfolding unsealed
unsealed-bounded =
    head-bounded >>> λ h.
    number-bounded fields.PartIssuers w32 0 MAX_BLOCKS >>> λ count.
    repeated-bounded offset (block h.0) _ (block-bounded h.0) count None >>> λ list.
    bytes-bounded fields.PartSharded 0 _ >>> λ none.
    whole-bounded offset _

pub sealed-bounded : IsBounded offset sealed
unfolding sealed
sealed-bounded =
    unsealed-bounded >>> λ p.
    sum_field-bounded offset _ _ 32 _ (λ at. refl) (λ at. refl) >>> λ trailer.
    whole-bounded offset _

pub part-bounded : IsBounded offset_in_part part
part-bounded = fielded-bounded sealed sealed-bounded

within-err : (bytes : List ℕ) (e : PartFault) (read : Result (SealedFields × ℕ) PartFault) → IsWithin offset_in_part bytes read → read ≡ Err e → offset_in_part e ≤ length bytes
within-err bytes e read h is = subst (IsWithin offset_in_part bytes) is h

fault-within : (e : PartFault) (bytes : List ℕ) → ((e ≡ faults.NoMemory → ⊥) → part bytes 0 ≡ Err e) → offset_in_part e ≤ length bytes
fault-within faults.NoMemory bytes h = omega arith
fault-within (faults.Layout f) bytes h = within-err bytes (faults.Layout f) (part bytes 0) (part-bounded.each bytes 0 (omega arith)) (h (λ e. cc))

-- a fault lies within the bytes
pub at-of : (bytes : List ℕ) (r : Result (SealedFields × ℕ) PartFault) → GivesUnless faults.NoMemory (λ (x : SealedFields × ℕ). x) r (part bytes 0) → IfErr r (λ e. offset_in_part e ≤ length bytes)
at-of bytes (Ok x) h = tt
at-of bytes (Err e) h = fault-within e bytes h
