-- How many bytes a query file has at most: what lies further behind is a fault of `end` at the same place, however much
-- it is.
use Rattle.std.proofs.Common.{◌≡◌, ℕ, ◌+◌, ◌-◌, ◌^◌, List, take, Result, ap}
use Rattle.std.specs.Int.{w8, w32, w64}
use Rattle.octets_core.specs.Reading.{value_of}
use Rattle.octets_core.specs.declared.field.Field.TheVariants as fields
use Rattle.octets_core.specs.declared.fault.LayoutFault.{LayoutFault}
use Rattle.ident_core.specs.declared.bounds.TheConstants.{MAX_SERIAL}
use Rattle.ident_core.specs.declared.range.Sighting.{Sighting}
use Rattle.ident_core.specs.declared.identity.Identity.{Identity}
use Rattle.input_core.specs.declared.query.TheConstants.{MAX_QUERIES, MAX_SIGHTINGS}
use Rattle.input_core.specs.declared.fault.QueriesFault.TheVariants as faults
use Rattle.input_core.specs.Queries.{Query}
use Rattle.input_core.specs.QueryLayout.{sighting, identity, query, body, query_file}
use Rattle.input_core.specs.QueryReading.{queries_in}
use Rattle.octets_core.specs.Layout.{with_fault}
use Rattle.input_core.specs.declared.inputs.TheConstants.{LONGEST_QUERIES}
use Rattle.store_core.proofs.Extents.{ReadsAtMost, Any, wider, bytes-at_most, number-at_most, whole-at_most, ◌>>>◌, several, front-same}

sighting-at_most : ReadsAtMost 40 (Any {A = Sighting}) sighting
unfolding sighting
sighting-at_most =
    bytes-at_most fields.SightingLog 32 _ >>> λ log l.
    number-at_most fields.SightingTime w64 0 (2 ^ 64 - 1) >>> λ time t.
    whole-at_most _

identity-at_most : ReadsAtMost 65 (Any {A = Identity}) identity
unfolding identity
identity-at_most =
    bytes-at_most fields.QueryIssuer 32 _ >>> λ issuer i.
    number-at_most fields.QueryLength w8 1 MAX_SERIAL >>> λ width few.
    wider width MAX_SERIAL few (bytes-at_most fields.QuerySerial width _) >>> λ serial s.
    whole-at_most _

query-at_most : ReadsAtMost 2626 (Any {A = Query}) query
unfolding query
query-at_most =
    identity-at_most >>> λ id i.
    number-at_most fields.QuerySightings w8 1 MAX_SIGHTINGS >>> λ count few.
    several 40 (Any {A = Sighting}) (λ (s : Unit {0}). sighting) _ (λ s. sighting-at_most) count MAX_SIGHTINGS tt few >>> λ list l.
    whole-at_most _

body-at_most : ReadsAtMost LONGEST_QUERIES (Any {A = List Query}) body
unfolding body
body-at_most =
    bytes-at_most fields.QueryMagic 8 _ >>> λ begin b.
    number-at_most fields.QueryCount w32 0 MAX_QUERIES >>> λ count few.
    several 2626 (Any {A = Query}) (λ (s : Unit {0}). query) _ (λ s. query-at_most) count MAX_QUERIES tt few

file-same : (file : List ℕ) → query_file (take (LONGEST_QUERIES + 1) file) 0 ≡ query_file file 0
unfolding query_file
file-same file = front-same LONGEST_QUERIES (Any {A = List Query}) body body-at_most file

-- a query file is read by its bytes up to the longest text and one more
pub queries-same : (file : List ℕ) → queries_in (take (LONGEST_QUERIES + 1) file) ≡ queries_in file
queries-same file = ap (λ (r : Result (List Query × ℕ) LayoutFault). value_of (with_fault faults.Layout r)) (file-same file)
