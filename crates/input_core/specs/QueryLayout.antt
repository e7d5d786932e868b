-- The layout of a query file, field by field.
use Rattle.std.specs.Prelude.{ℕ, ◌-◌, ◌^◌, List, codes}
use Rattle.std.specs.Int.{w8, w32, w64}
use Rattle.octets_core.specs.Layout.{Layout, ◌>>=◌, whole, repeated}
use Rattle.octets_core.specs.Reading.{number, octets, key, any_key, magic, end}
use Rattle.octets_core.specs.declared.field.Field.TheVariants as fields
use Rattle.octets_core.specs.declared.fault.LayoutFault.{LayoutFault}
use Rattle.ident_core.specs.declared.bounds.TheConstants.{MAX_SERIAL}
use Rattle.ident_core.specs.declared.identity.Identity.{Identity}
use Rattle.ident_core.specs.declared.range.Sighting.{Sighting}
use Rattle.input_core.specs.declared.query.TheConstants.{MAX_QUERIES, MAX_SIGHTINGS}
use Rattle.input_core.specs.Queries.{Query}

unfoldable pub sighting : Layout LayoutFault Sighting
sighting = do
  log ← key fields.SightingLog any_key
  time ← number fields.SightingTime w64 0 (2 ^ 64 - 1)
  whole (record { log = log; time = time })

-- so many of one kind, none of which depends on those before it
abbrev pub many : {X : Type 0} → Layout LayoutFault X → ℕ → Layout LayoutFault (List X)
many one count = repeated {S = Unit {0}} (λ s. one) (λ s x. s) count tt

abbrev pub sightings : ℕ → Layout LayoutFault (List Sighting)
sightings count = many sighting count

unfoldable pub identity : Layout LayoutFault Identity
identity = do
  issuer ← key fields.QueryIssuer any_key
  width ← number fields.QueryLength w8 1 MAX_SERIAL
  serial ← octets fields.QuerySerial width
  whole (record { issuer = issuer; serial = serial })

unfoldable pub query : Layout LayoutFault Query
query = do
  id ← identity
  count ← number fields.QuerySightings w8 1 MAX_SIGHTINGS
  list ← sightings count
  whole (record { identity = id; sightings = list })

abbrev pub queries : ℕ → Layout LayoutFault (List Query)
queries count = many query count

-- all queries, whatever follows
unfoldable pub body : Layout LayoutFault (List Query)
body = do
  begin ← magic fields.QueryMagic (codes "CLUBQRY1")
  count ← number fields.QueryCount w32 0 MAX_QUERIES
  queries count

-- a whole file
unfoldable pub query_file : Layout LayoutFault (List Query)
query_file = do
  list ← body
  rest ← end
  whole list
