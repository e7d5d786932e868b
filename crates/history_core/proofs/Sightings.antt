-- The sightings of an identity.
use Rattle.std.specs.List.{filter}
use Rattle.std.proofs.Common.{◌≡◌, List}
use Rattle.ident_core.specs.declared.identity.Identity.{Identity}
use Rattle.ident_core.specs.declared.range.Sighting.{Sighting}
use Rattle.ident_core.specs.Order.{is_same}
use Rattle.ident_core.specs.Among.{Among}
use Rattle.ident_core.proofs.Elements.{Among-filter, Among-map}
use Rattle.ident_core.proofs.Sets.{same_is}
use Rattle.universe_core.specs.Jobs.{Entry}
use Rattle.universe_core.specs.History.{sightings}

pub Among-sightings : (x : Identity) (es : List Entry) (s : Sighting) → Among (sightings x es) s → (e : Entry) × Among es e × (x ≡ e.id) × (e.sighting ≡ s)
unfolding sightings
Among-sightings x es s h =
    let m = Among-map (λ e. e.sighting) (filter (λ e. is_same x e.id) es) s h in
    let f = Among-filter (λ e. is_same x e.id) es m.0 m.1 in
    (m.0, f.0, same_is x m.0.id f.1, m.2)
