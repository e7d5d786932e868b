-- The faults of a query file lie within its bytes.
use Rattle.std.proofs.Common.{◌≡◌, ℕ, ◌≤◌, ◌-◌, ◌^◌, Bool, true, false, cond, ltb, List, length, Result, Ok, Err, refl, subst, arith, IfErr}
use Rattle.std.specs.Int.{Width, w8, w32, w64}
use Rattle.octets_core.specs.Layout.{Layout, bytes_field}
use Rattle.octets_core.specs.Reading.{fault_at, number, end, value_of, GivesUnless}
use Rattle.octets_core.proofs.Bounds.{IsWithin, IsBounded, bytes_field-bounded, number_field-bounded, whole-bounded, repeated-bounded, mapped-bounded, ◌>>>◌}
use Rattle.octets_core.specs.declared.field.Field.{Field}
use Rattle.octets_core.specs.declared.field.Field.TheVariants as fields
use Rattle.octets_core.specs.declared.fault.Why.TheVariants as why
use Rattle.octets_core.specs.declared.fault.LayoutFault.{LayoutFault}
use Rattle.ident_core.specs.declared.bounds.TheConstants.{MAX_SERIAL}
use Rattle.input_core.specs.declared.query.TheConstants.{MAX_QUERIES, MAX_SIGHTINGS}
use Rattle.input_core.specs.declared.fault.QueriesFault.{QueriesFault}
use Rattle.input_core.specs.declared.fault.QueriesFault.TheVariants as faults
use Rattle.input_core.specs.Queries.{Query}
use Rattle.input_core.specs.QueryLayout.{sighting, identity, query, many, body, query_file}
use Rattle.input_core.specs.QueryReading.{fielded, queries_in, offset_in_queries}

abbrev offset : LayoutFault → ℕ
offset f = f.at

number-bounded : (name : Field) (w : Width) (low high : ℕ) → IsBounded offset (number name w low high)
number-bounded name w low high = number_field-bounded offset _ _ w low high (λ at. refl) (λ at. refl)

bytes-bounded : (name : Field) (width : ℕ) (test : List ℕ → _) → IsBounded offset (bytes_field (fault_at why.Short name) (fault_at why.Value name) width test)
bytes-bounded name width test = bytes_field-bounded offset _ _ width test (λ at. refl) (λ at. refl)

many-bounded : {X : Type 0} (one : Layout LayoutFault X) → IsBounded offset one → (count : ℕ) → IsBounded offset (many one count)
many-bounded one bounded count = repeated-bounded {S = Unit {0}} offset (λ s. one) (λ s x. s) (λ s. bounded) count tt

sighting-bounded : IsBounded offset sighting
unfolding sighting
sighting-bounded =
    bytes-bounded fields.SightingLog 32 _ >>> λ log.
    number-bounded fields.SightingTime w64 0 (2 ^ 64 - 1) >>> λ time.
    whole-bounded offset _

identity-bounded : IsBounded offset identity
unfolding identity
identity-bounded =
    bytes-bounded fields.QueryIssuer 32 _ >>> λ issuer.
    number-bounded fields.QueryLength w8 1 MAX_SERIAL >>> λ width.
    bytes-bounded fields.QuerySerial width _ >>> λ serial.
    whole-bounded offset _

query-bounded : IsBounded offset query
unfolding query
query-bounded =
    identity-bounded >>> λ id.
    number-bounded fields.QuerySightings w8 1 MAX_SIGHTINGS >>> λ count.
    many-bounded sighting sighting-bounded count >>> λ list.
    whole-bounded offset _

body-bounded : IsBounded offset body
unfolding body
body-bounded =
    bytes-bounded fields.QueryMagic 8 _ >>> λ begin.
    number-bounded fields.QueryCount w32 0 MAX_QUERIES >>> λ count.
    many-bounded query query-bounded count

end-within : (b : Bool) (bytes : List ℕ) (at : ℕ) → at ≤ length bytes → IsWithin {A = Unit {0}} offset bytes (cond b (Err (fault_at why.Value fields.End at)) (Ok (tt, at)))
end-within true bytes at le = le
end-within false bytes at le = le

end-bounded : IsBounded offset end
end-bounded = record { each = λ bytes at le. end-within (ltb at (length bytes)) bytes at le }

file-bounded : IsBounded offset_in_queries (fielded query_file)
unfolding query_file
file-bounded = mapped-bounded offset offset_in_queries faults.Layout _ (λ e. refl) (
    body-bounded >>> λ list.
    end-bounded >>> λ rest.
    whole-bounded offset _)

within-err : (bytes : List ℕ) (f : LayoutFault) (read : Result (List Query × ℕ) QueriesFault) → IsWithin offset_in_queries bytes read → value_of read ≡ Err (faults.Layout f) → f.at ≤ length bytes
within-err bytes f (Ok x) h is = absurd cc
within-err bytes f (Err e) h is = subst (λ (r : Result (List Query) QueriesFault). IfErr r (λ e. offset_in_queries e ≤ length bytes)) is h

fault-within : (e : QueriesFault) (bytes : List ℕ) → ((e ≡ faults.NoMemory → ⊥) → queries_in bytes ≡ Err e) → offset_in_queries e ≤ length bytes
fault-within faults.NoMemory bytes h = omega arith
fault-within (faults.Layout f) bytes h = within-err bytes f (fielded query_file bytes 0) (file-bounded.each bytes 0 (omega arith)) (h (λ e. cc))

-- a fault lies within the bytes
pub at-of : {X : Type 0} (view : X → List Query) (bytes : List ℕ) (r : Result X QueriesFault) → GivesUnless faults.NoMemory view r (queries_in bytes)
    → IfErr r (λ e. offset_in_queries e ≤ length bytes)
at-of view bytes (Ok x) h = tt
at-of view bytes (Err e) h = fault-within e bytes h
