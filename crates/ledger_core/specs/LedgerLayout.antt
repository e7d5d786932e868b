-- The layout of a ledger, line by line as in docs/FORMATS.md.
use Rattle.std.specs.Prelude.{ℕ, ℤ, ◌+◌, ◌-◌, ◌^◌, List, [], Bool, true, not, ◌||◌, ◌==◌, is_none, if◌then◌else◌, Option, Some, None, codes}
use Rattle.std.specs.Int.{w8, w16, w32, w64, from_be_bytes, cast_signed}
use Rattle.std.specs.Ordering.{is_lt}
use Rattle.octets_core.specs.Linked.{is_after}
use Rattle.octets_core.specs.Layout.{Layout, ◌>>=◌, whole, repeated, within, bytes_field}
use Rattle.octets_core.specs.Reading.{fault_at, number, key, any_key, magic, digest, end}
use Rattle.octets_core.specs.declared.field.Field.{Field}
use Rattle.octets_core.specs.declared.field.Field.TheVariants as fields
use Rattle.octets_core.specs.declared.fault.Why.TheVariants as why
use Rattle.octets_core.specs.declared.fault.LayoutFault.{LayoutFault}
use Rattle.ident_core.specs.declared.bounds.TheConstants.{MAX_SERIAL, MAX_RANGES, MAX_ISSUERS}
use Rattle.ident_core.specs.declared.bounds.TheConstants.{MAX_IDENTITIES, MAX_PARTS}
use Rattle.ident_core.specs.declared.range.Range.{Range}
use Rattle.ident_core.specs.declared.identity.Identity.{Identity}
use Rattle.ident_core.specs.Order.{octets_cmp, identity_cmp}
use Rattle.ident_core.specs.Coverage.{first_outside}
use Rattle.ident_core.specs.RangeLayout.{ranges}
use Rattle.ledger_core.specs.declared.fields.LedgerItem.{LedgerItem}
use Rattle.ledger_core.specs.LedgerFields.{LedgerPartFields, LedgerFields}

-- so many bytes that pass a test
abbrev pub tested : Field → ℕ → (List ℕ → Bool) → Layout LayoutFault (List ℕ)
tested name = bytes_field (fault_at why.Short name) (fault_at why.Value name)

-- greater than the epoch before it, if there is one
abbrev pub least_epoch : Option LedgerPartFields → ℕ
least_epoch None = 0
least_epoch (Some previous) = previous.epoch + 1

-- what the part before it covers, if there is one
abbrev pub coverage_before : Option LedgerPartFields → List Range
coverage_before None = []
coverage_before (Some previous) = previous.ranges

-- no bytes: the ranges of the part before it lie within these
abbrev pub coverage : List Range → List Range → Layout LayoutFault (List ℕ)
coverage old new = tested fields.LedgerCoverage 0 (λ none. is_none (first_outside old new))

-- so many issuers, each greater than the one before it
abbrev pub issuers : ℕ → Layout LayoutFault (List (List ℕ))
issuers count = repeated (λ previous. key fields.LedgerIssuer (is_after previous)) (λ previous issuer. Some issuer) count None

-- behind the part before it, if there is one
unfoldable pub ledger_part : Option LedgerPartFields → Layout LayoutFault LedgerPartFields
ledger_part previous = do
  epoch ← number fields.LedgerEpoch w64 (least_epoch previous) (2 ^ 64 - 1)
  trailer ← key fields.LedgerPartTrailer any_key
  count ← number fields.LedgerRanges w16 0 MAX_RANGES
  list ← ranges count
  covered ← coverage (coverage_before previous) list
  enrolled ← number fields.LedgerIssuers w32 0 MAX_ISSUERS
  keys ← issuers enrolled
  whole (record { epoch = epoch; trailer = trailer; ranges = list; issuers = keys })

-- so many parts
abbrev pub ledger_parts : ℕ → Layout LayoutFault (List LedgerPartFields)
ledger_parts count = repeated ledger_part (λ previous p. Some p) count None

-- not less than the issuer before it, if there is one
abbrev pub is_from : Option Identity → List ℕ → Bool
is_from None issuer = true
is_from (Some previous) issuer = not (is_lt (octets_cmp issuer previous.issuer))

-- greater than the identity before it, if there is one
abbrev pub is_behind : Option Identity → Identity → Bool
is_behind None id = true
is_behind (Some previous) id = is_lt (identity_cmp previous id)

-- 255 for none, or from the birth to below the number of parts
abbrev pub is_last : ℕ → ℕ → ℕ → Bool
is_last parts birth n = n == 255 || within birth (parts - 1) n

abbrev pub last_of : ℕ → Option ℕ
last_of n = if n == 255 then None else Some n

unfoldable pub last_place : ℕ → ℕ → Layout LayoutFault (Option ℕ)
last_place parts birth = do
  byte ← tested fields.IdentityLast 1 (λ b. is_last parts birth (from_be_bytes w8 b))
  whole (last_of (from_be_bytes w8 byte))

-- a number in two's complement
unfoldable pub until_field : Layout LayoutFault ℤ
until_field = do
  bits ← number fields.IdentityUntil w64 0 (2 ^ 64 - 1)
  whole (cast_signed w64 bits)

unfoldable pub some_until : Layout LayoutFault (Option ℤ)
some_until = do
  until ← until_field
  whole (Some until)

-- whether there is a date, and then the date
unfoldable pub date : Layout LayoutFault (Option ℤ)
date = do
  dated ← number fields.IdentityDated w8 0 1
  if dated == 0 then whole None else some_until

-- in version 1 there is none
abbrev pub date_in : ℕ → Layout LayoutFault (Option ℤ)
date_in version = if version == 1 then whole None else date

-- in a ledger of this version, of a chain of so many parts, behind the identity before it, if there is one
unfoldable pub item : ℕ → ℕ → Option Identity → Layout LayoutFault LedgerItem
item version parts previous = do
  issuer ← key fields.IdentityIssuer (is_from previous)
  width ← number fields.IdentityLength w8 1 MAX_SERIAL
  serial ← tested fields.IdentitySerial width (λ serial. is_behind previous (record { issuer = issuer; serial = serial }))
  birth ← number fields.IdentityBirth w8 0 (parts - 1)
  last ← last_place parts birth
  until ← date_in version
  whole (record { id = record { issuer = issuer; serial = serial }; birth = birth; last = last; until = until })

-- so many identities
abbrev pub items : ℕ → ℕ → ℕ → Layout LayoutFault (List LedgerItem)
items version parts count = repeated (item version parts) (λ previous x. Some x.id) count None

-- all but the digest
unfoldable pub body : Layout LayoutFault LedgerFields
body = do
  begin ← magic fields.LedgerMagic (codes "CLUBLEDG")
  version ← number fields.LedgerVersion w8 1 2
  count ← number fields.LedgerParts w8 1 MAX_PARTS
  list ← ledger_parts count
  accepted ← number fields.LedgerIdentities w32 0 MAX_IDENTITIES
  identities ← items version count accepted
  whole (record { parts = list; items = identities })

-- a ledger, whatever follows
unfoldable pub digested : Layout LayoutFault LedgerFields
digested = do
  l ← body
  sum ← digest fields.LedgerDigest
  whole l

-- a whole file
unfoldable pub ledger : Layout LayoutFault LedgerFields
ledger = do
  l ← digested
  rest ← end
  whole l
