-- What a query file asks: certificates, each with the sightings that it was seen at; and the queries that have a text.
use Rattle.std.specs.Prelude.{◌≡◌, ◌<◌, ◌≤◌, ◌^◌, List, length, All}
use Rattle.ident_core.specs.declared.bounds.TheConstants.{MAX_SERIAL}
use Rattle.ident_core.specs.declared.identity.Identity.{Identity}
use Rattle.ident_core.specs.declared.range.Sighting.{Sighting}
use Rattle.input_core.specs.declared.query.TheConstants.{MAX_QUERIES, MAX_SIGHTINGS}
use Rattle.input_core.specs.declared.query.Asked.{Asked}
use Rattle.input_core.specs.declared.query.Sightings.{Sightings}
use Rattle.input_core.specs.declared.query.Sightings.TheVariants as several

pub record Query : Type 0 where
  pub identity : Identity
  pub sightings : List Sighting

-- the sightings that the code holds in place or in a vector
abbrev pub sightings_in : Sightings → List Sighting
sightings_in (several.One s) = s
sightings_in (several.Several v) = v.items

-- the same of the type of the code
abbrev pub as_query : Asked → Query
as_query a = record { identity = a.identity; sightings = sightings_in a.sightings }

pub record IdentityFits (id : Identity) : Type 0 where
  pub issuer : length id.issuer ≡ 32
  pub some_octets : 1 ≤ length id.serial
  pub few_octets : length id.serial ≤ MAX_SERIAL

pub record SightingFits (s : Sighting) : Type 0 where
  pub log : length s.log ≡ 32
  pub time : s.time < 2 ^ 64

-- a certificate with 1 to 64 sightings
pub record QueryFits (q : Query) : Type 0 where
  pub identity : IdentityFits q.identity
  pub some_sightings : 1 ≤ length q.sightings
  pub few_sightings : length q.sightings ≤ MAX_SIGHTINGS
  pub sightings : All SightingFits q.sightings

-- at most 65,536 of them
pub record QueriesFit (qs : List Query) : Type 0 where
  pub few : length qs ≤ MAX_QUERIES
  pub each : All QueryFits qs
