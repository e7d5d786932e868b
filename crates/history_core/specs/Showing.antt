-- What a reader of parts is told: the answers of the parts that cover a sighting, and when parts show the releases.
use Rattle.std.specs.Prelude.{◌≡◌, List, [], ◌∷◌, filter, filter_map, Bool, true, false, Option, Some, None}
use Rattle.std.specs.List.{list_any}
use Rattle.ident_core.specs.declared.identity.Identity.{Identity}
use Rattle.ident_core.specs.declared.range.Sighting.{Sighting}
use Rattle.ident_core.specs.declared.range.Range.{Range}
use Rattle.ident_core.specs.Coverage.{covers}
use Rattle.ident_core.specs.Sets.{has, has_key}
use Rattle.universe_core.specs.History.{Release}

-- What a part is to its reader: what it covers, and what its block of a certificate's issuer says, if it has one.
pub record PartView : Type 0 where
  pub ranges : List Range
  pub consulted : Identity → Option Bool

-- whether a part covers one of the sightings
abbrev pub covers_some : List Sighting → PartView → Bool
covers_some ss part = list_any (covers part.ranges) ss

-- what the parts that cover one of the sightings say of a certificate
unfoldable pub answers_of : Identity → List Sighting → List PartView → List Bool
answers_of x ss parts = filter_map (λ part. part.consulted x) (filter (covers_some ss) parts)

-- what such answers say together: nothing if there is none, else whether one is positive
abbrev pub said : List Bool → Option Bool
said [] = None
said (a ∷ others) = Some (list_any (λ b. b) (a ∷ others))

-- A part shows its release: its block of an enrolled issuer is exact on the accepted identities, and there is none of
-- another issuer.
pub record Shows (p : PartView) (r : Release) : Type 0 where
  pub ranges : p.ranges ≡ r.ranges
  pub other : (x : Identity) → has_key r.issuers x.issuer ≡ false → p.consulted x ≡ None
  pub some : (x : Identity) → has_key r.issuers x.issuer ≡ true
      → (b : Bool) × (p.consulted x ≡ Some b) × (has r.accepted x ≡ true → b ≡ has r.revoked x)
