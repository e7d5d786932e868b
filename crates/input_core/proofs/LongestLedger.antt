-- How many bytes a ledger has at most: what lies further behind is a fault of `end` at the same place, however much it
-- is.
use Rattle.std.proofs.Common.{◌≡◌, ℕ, ℤ, ◌+◌, ◌-◌, ◌^◌, Bool, true, false, cond, eqb, List, take, Option, None, Result, ap, arith}
use Rattle.std.specs.Int.{w8, w16, w32, w64}
use Rattle.octets_core.specs.Layout.{whole, with_fault}
use Rattle.octets_core.specs.Linked.{is_after}
use Rattle.octets_core.specs.Reading.{value_of, key, digest}
use Rattle.octets_core.specs.declared.field.Field.TheVariants as fields
use Rattle.octets_core.specs.declared.fault.LayoutFault.{LayoutFault}
use Rattle.ident_core.specs.declared.bounds.TheConstants.{MAX_SERIAL, MAX_RANGES, MAX_ISSUERS, MAX_IDENTITIES, MAX_PARTS}
use Rattle.ident_core.specs.declared.range.Range.{Range}
use Rattle.ident_core.specs.declared.identity.Identity.{Identity}
use Rattle.ident_core.specs.RangeLayout.{range}
use Rattle.ledger_core.specs.declared.fault.LedgerFault.TheVariants as faults
use Rattle.ledger_core.specs.declared.fields.LedgerItem.{LedgerItem}
use Rattle.ledger_core.specs.LedgerFields.{LedgerPartFields, LedgerFields}
use Rattle.ledger_core.specs.LedgerLayout.{least_epoch, is_from, ledger_part, last_place, until_field, some_until, date, item, body, digested, ledger}
use Rattle.ledger_core.specs.LedgerReading.{ledger_of_bytes}
use Rattle.input_core.specs.declared.inputs.TheConstants.{LONGEST_LEDGER}
use Rattle.store_core.proofs.Extents.{ReadsAtMost, Any, wider, bytes-at_most, number-at_most, sum_field-at_most, whole-at_most, ◌>>>◌, several, front-same}

range-at_most : (previous : Option (List ℕ)) → ReadsAtMost 48 (Any {A = Range}) (range previous)
unfolding range
range-at_most previous =
    bytes-at_most fields.RangeLog 32 (is_after previous) >>> λ log l.
    number-at_most fields.RangeFrom w64 0 (2 ^ 64 - 1) >>> λ from f.
    number-at_most fields.RangeTo w64 from (2 ^ 64 - 1) >>> λ to t.
    whole-at_most _

issuer-at_most : (previous : Option (List ℕ)) → ReadsAtMost 32 (Any {A = List ℕ}) (key fields.LedgerIssuer (is_after previous))
issuer-at_most previous = bytes-at_most fields.LedgerIssuer 32 (is_after previous)

part-at_most : (previous : Option LedgerPartFields) → ReadsAtMost 2146318 (Any {A = LedgerPartFields}) (ledger_part previous)
unfolding ledger_part
part-at_most previous =
    number-at_most fields.LedgerEpoch w64 (least_epoch previous) (2 ^ 64 - 1) >>> λ epoch e.
    bytes-at_most fields.LedgerPartTrailer 32 _ >>> λ trailer t.
    number-at_most fields.LedgerRanges w16 0 MAX_RANGES >>> λ count few.
    several 48 (Any {A = Range}) range _ range-at_most count MAX_RANGES None few >>> λ list l.
    bytes-at_most fields.LedgerCoverage 0 _ >>> λ covered c.
    number-at_most fields.LedgerIssuers w32 0 MAX_ISSUERS >>> λ enrolled few_too.
    several 32 (Any {A = List ℕ}) (λ (p : Option (List ℕ)). key fields.LedgerIssuer (is_after p)) _ issuer-at_most enrolled MAX_ISSUERS None few_too >>> λ keys k.
    whole-at_most _

last-at_most : (parts birth : ℕ) → ReadsAtMost 1 (Any {A = Option ℕ}) (last_place parts birth)
unfolding last_place
last-at_most parts birth = bytes-at_most fields.IdentityLast 1 _ >>> λ byte b. whole-at_most _

until-at_most : ReadsAtMost 8 (Any {A = ℤ}) until_field
unfolding until_field
until-at_most = number-at_most fields.IdentityUntil w64 0 (2 ^ 64 - 1) >>> λ bits b. whole-at_most _

some_until-at_most : ReadsAtMost 8 (Any {A = Option ℤ}) some_until
unfolding some_until
some_until-at_most = until-at_most >>> λ until u. whole-at_most _

dated-at_most : (b : Bool) → ReadsAtMost 8 (Any {A = Option ℤ}) (cond b (whole None) some_until)
dated-at_most true = wider 0 8 (omega arith) (whole-at_most _)
dated-at_most false = some_until-at_most

date-at_most : ReadsAtMost 9 (Any {A = Option ℤ}) date
unfolding date
date-at_most = number-at_most fields.IdentityDated w8 0 1 >>> λ dated d. dated-at_most (eqb dated 0)

date_in-at_most : (b : Bool) → ReadsAtMost 9 (Any {A = Option ℤ}) (cond b (whole None) date)
date_in-at_most true = wider 0 9 (omega arith) (whole-at_most _)
date_in-at_most false = date-at_most

item-at_most : (version parts : ℕ) (previous : Option Identity) → ReadsAtMost 76 (Any {A = LedgerItem}) (item version parts previous)
unfolding item
item-at_most version parts previous =
    bytes-at_most fields.IdentityIssuer 32 (is_from previous) >>> λ issuer i.
    number-at_most fields.IdentityLength w8 1 MAX_SERIAL >>> λ width few.
    wider width MAX_SERIAL few (bytes-at_most fields.IdentitySerial width _) >>> λ serial s.
    number-at_most fields.IdentityBirth w8 0 (parts - 1) >>> λ birth b.
    last-at_most parts birth >>> λ last l.
    date_in-at_most (eqb version 1) >>> λ until u.
    whole-at_most _

body-at_most : ReadsAtMost 456131470 (Any {A = LedgerFields}) body
unfolding body
body-at_most =
    bytes-at_most fields.LedgerMagic 8 _ >>> λ begin b.
    number-at_most fields.LedgerVersion w8 1 2 >>> λ version v.
    number-at_most fields.LedgerParts w8 1 MAX_PARTS >>> λ count few.
    several 2146318 (Any {A = LedgerPartFields}) ledger_part _ part-at_most count MAX_PARTS None few >>> λ list l.
    number-at_most fields.LedgerIdentities w32 0 MAX_IDENTITIES >>> λ accepted few_too.
    several 76 (Any {A = LedgerItem}) (item version count) _ (item-at_most version count) accepted MAX_IDENTITIES None few_too >>> λ identities i.
    whole-at_most _

digest-at_most : ReadsAtMost 32 (Any {A = List ℕ}) (digest fields.LedgerDigest)
digest-at_most = sum_field-at_most _ _ 32 _

digested-at_most : ReadsAtMost LONGEST_LEDGER (Any {A = LedgerFields}) digested
unfolding digested
digested-at_most = body-at_most >>> λ l x. digest-at_most >>> λ sum s. whole-at_most _

file-same : (file : List ℕ) → ledger (take (LONGEST_LEDGER + 1) file) 0 ≡ ledger file 0
unfolding ledger
file-same file = front-same LONGEST_LEDGER (Any {A = LedgerFields}) digested digested-at_most file

-- a ledger is read by its bytes up to the longest text and one more
pub ledger-same : (file : List ℕ) → ledger_of_bytes (take (LONGEST_LEDGER + 1) file) ≡ ledger_of_bytes file
ledger-same file = ap (λ (r : Result (LedgerFields × ℕ) LayoutFault). value_of (with_fault faults.Layout r)) (file-same file)
