-- A ledger's faults lie within its bytes.
use Rattle.std.proofs.Common.{◌≡◌, ℕ, ◌≤◌, ◌-◌, ◌^◌, Bool, true, false, cond, ltb, eqb, List, length, Option, None, Result, Ok, Err, refl, subst, arith, IfErr}
use Rattle.std.specs.Int.{Width, w8, w16, w32, w64}
use Rattle.octets_core.specs.Layout.{bytes_field, whole}
use Rattle.octets_core.specs.Linked.{is_after}
use Rattle.octets_core.specs.Reading.{fault_at, number, end, value_of, GivesUnless}
use Rattle.octets_core.proofs.Bounds.{IsWithin, IsBounded, bytes_field-bounded, number_field-bounded, sum_field-bounded, whole-bounded, repeated-bounded, mapped-bounded, ◌>>>◌}
use Rattle.octets_core.specs.declared.field.Field.{Field}
use Rattle.octets_core.specs.declared.field.Field.TheVariants as fields
use Rattle.octets_core.specs.declared.fault.Why.TheVariants as why
use Rattle.octets_core.specs.declared.fault.LayoutFault.{LayoutFault}
use Rattle.ident_core.specs.declared.bounds.TheConstants.{MAX_SERIAL, MAX_RANGES, MAX_ISSUERS, MAX_IDENTITIES, MAX_PARTS}
use Rattle.ident_core.specs.declared.identity.Identity.{Identity}
use Rattle.ident_core.specs.RangeLayout.{range}
use Rattle.ledger_core.specs.declared.fault.LedgerFault.{LedgerFault}
use Rattle.ledger_core.specs.declared.fault.LedgerFault.TheVariants as faults
use Rattle.ledger_core.specs.LedgerFields.{LedgerPartFields, LedgerFields}
use Rattle.ledger_core.specs.LedgerLayout.{ledger_part, last_place, until_field, some_until, date, item, body, digested, ledger}
use Rattle.ledger_core.specs.LedgerReading.{fielded, ledger_of_bytes, offset_in_ledger}

abbrev offset : LayoutFault → ℕ
offset f = f.at

number-bounded : (name : Field) (w : Width) (low high : ℕ) → IsBounded offset (number name w low high)
number-bounded name w low high = number_field-bounded offset _ _ w low high (λ at. refl) (λ at. refl)

bytes-bounded : (name : Field) (width : ℕ) (test : List ℕ → _) → IsBounded offset (bytes_field (fault_at why.Short name) (fault_at why.Value name) width test)
bytes-bounded name width test = bytes_field-bounded offset _ _ width test (λ at. refl) (λ at. refl)

range-bounded : (previous : Option (List ℕ)) → IsBounded offset (range previous)
unfolding range
range-bounded previous =
    bytes-bounded fields.RangeLog 32 (is_after previous) >>> λ log.
    number-bounded fields.RangeFrom w64 0 (2 ^ 64 - 1) >>> λ from.
    number-bounded fields.RangeTo w64 from (2 ^ 64 - 1) >>> λ to.
    whole-bounded offset _

part-bounded : (previous : Option LedgerPartFields) → IsBounded offset (ledger_part previous)
unfolding ledger_part
part-bounded previous =
    number-bounded fields.LedgerEpoch w64 _ (2 ^ 64 - 1) >>> λ epoch.
    bytes-bounded fields.LedgerPartTrailer 32 _ >>> λ trailer.
    number-bounded fields.LedgerRanges w16 0 MAX_RANGES >>> λ count.
    repeated-bounded offset range _ range-bounded count None >>> λ list.
    bytes-bounded fields.LedgerCoverage 0 _ >>> λ covered.
    number-bounded fields.LedgerIssuers w32 0 MAX_ISSUERS >>> λ enrolled.
    repeated-bounded offset _ _ (λ previous. bytes-bounded fields.LedgerIssuer 32 (is_after previous)) enrolled None >>> λ keys.
    whole-bounded offset _

last-bounded : (parts birth : ℕ) → IsBounded offset (last_place parts birth)
unfolding last_place
last-bounded parts birth =
    bytes-bounded fields.IdentityLast 1 _ >>> λ byte.
    whole-bounded offset _

until-bounded : IsBounded offset until_field
unfolding until_field
until-bounded =
    number-bounded fields.IdentityUntil w64 0 (2 ^ 64 - 1) >>> λ bits.
    whole-bounded offset _

some_until-bounded : IsBounded offset some_until
unfolding some_until
some_until-bounded =
    until-bounded >>> λ until.
    whole-bounded offset _

dated-bounded : (b : Bool) → IsBounded offset (cond b (whole None) some_until)
dated-bounded true = whole-bounded offset _
dated-bounded false = some_until-bounded

date-bounded : IsBounded offset date
unfolding date
date-bounded =
    number-bounded fields.IdentityDated w8 0 1 >>> λ dated.
    dated-bounded (eqb dated 0)

date_in-by : (b : Bool) → IsBounded offset (cond b (whole None) date)
date_in-by true = whole-bounded offset _
date_in-by false = date-bounded

item-bounded : (version parts : ℕ) (previous : Option Identity) → IsBounded offset (item version parts previous)
unfolding item
item-bounded version parts previous =
    bytes-bounded fields.IdentityIssuer 32 _ >>> λ issuer.
    number-bounded fields.IdentityLength w8 1 MAX_SERIAL >>> λ width.
    bytes-bounded fields.IdentitySerial width _ >>> λ serial.
    number-bounded fields.IdentityBirth w8 0 (parts - 1) >>> λ birth.
    last-bounded parts birth >>> λ last.
    date_in-by (eqb version 1) >>> λ until.
    whole-bounded offset _

body-bounded : IsBounded offset body
unfolding body
body-bounded =
    bytes-bounded fields.LedgerMagic 8 _ >>> λ begin.
    number-bounded fields.LedgerVersion w8 1 2 >>> λ version.
    number-bounded fields.LedgerParts w8 1 MAX_PARTS >>> λ count.
    repeated-bounded offset ledger_part _ part-bounded count None >>> λ parts.
    number-bounded fields.LedgerIdentities w32 0 MAX_IDENTITIES >>> λ accepted.
    repeated-bounded offset (item version count) _ (item-bounded version count) accepted None >>> λ identities.
    whole-bounded offset _

digested-bounded : IsBounded offset digested
unfolding digested
digested-bounded =
    body-bounded >>> λ l.
    sum_field-bounded offset _ _ 32 _ (λ at. refl) (λ at. refl) >>> λ sum.
    whole-bounded offset _

end-within : (b : Bool) (bytes : List ℕ) (at : ℕ) → at ≤ length bytes → IsWithin {A = Unit {0}} offset bytes (cond b (Err (fault_at why.Value fields.End at)) (Ok (tt, at)))
end-within true bytes at le = le
end-within false bytes at le = le

end-bounded : IsBounded offset end
end-bounded = record { each = λ bytes at le. end-within (ltb at (length bytes)) bytes at le }

ledger-bounded : IsBounded offset_in_ledger (fielded ledger)
unfolding ledger
ledger-bounded = mapped-bounded offset offset_in_ledger faults.Layout _ (λ e. refl) (
    digested-bounded >>> λ l.
    end-bounded >>> λ rest.
    whole-bounded offset _)

within-err : (bytes : List ℕ) (f : LayoutFault) (read : Result (LedgerFields × ℕ) LedgerFault) → IsWithin offset_in_ledger bytes read → value_of read ≡ Err (faults.Layout f) → f.at ≤ length bytes
within-err bytes f (Ok x) h is = absurd cc
within-err bytes f (Err e) h is = subst (λ (r : Result LedgerFields LedgerFault). IfErr r (λ e. offset_in_ledger e ≤ length bytes)) is h

fault-within : (e : LedgerFault) (bytes : List ℕ) → ((e ≡ faults.NoMemory → ⊥) → ledger_of_bytes bytes ≡ Err e) → offset_in_ledger e ≤ length bytes
fault-within faults.NoMemory bytes h = omega arith
fault-within (faults.Layout f) bytes h = within-err bytes f (fielded ledger bytes 0) (ledger-bounded.each bytes 0 (omega arith)) (h (λ e. cc))

-- a fault lies within the bytes
pub at-of : (bytes : List ℕ) (r : Result LedgerFields LedgerFault) → GivesUnless faults.NoMemory (λ (l : LedgerFields). l) r (ledger_of_bytes bytes) → IfErr r (λ e. offset_in_ledger e ≤ length bytes)
at-of bytes (Ok l) h = tt
at-of bytes (Err e) h = fault-within e bytes h
