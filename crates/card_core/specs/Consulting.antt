-- What a part's blocks say of a certificate.
use Rattle.std.specs.Prelude.{◌≡◌, ◌<◌, ℕ, List, Bool, length, slice_index_or, Option, Some, None, find}
use Rattle.std.specs.List.{list_any}
use Rattle.std.specs.Option.{option_map}
use Rattle.std.specs.Str.{bytes_eq}
use Rattle.ident_core.specs.Coverage.{covers}
use Rattle.ident_core.specs.declared.identity.Identity.{Identity}
use Rattle.ident_core.specs.declared.range.Sighting.{Sighting}
use Rattle.equation_core.specs.Rows.{Rows}
use Rattle.card_core.specs.declared.block.Block.{Block}
use Rattle.card_core.specs.Filter.{is_positive}
use Rattle.card_core.specs.PartFields.{PartFields}

-- the block of an issuer
abbrev pub block_of : List ℕ → List Block → Option Block
block_of issuer blocks = find (λ b. bytes_eq b.issuer issuer) blocks

-- what the block of the certificate's issuer says, if there is one
abbrev pub consulted : Rows → Identity → List Block → Option Bool
consulted rows x blocks = option_map (λ b. is_positive rows x b.body) (block_of x.issuer blocks)

-- where the block of an issuer stands
abbrev pub IsPlaceOf : List ℕ → List Block → Option ℕ → Type 0
IsPlaceOf issuer blocks None = block_of issuer blocks ≡ None
IsPlaceOf issuer blocks (Some i) = (i < length blocks) × ((d : Block) → block_of issuer blocks ≡ Some (slice_index_or blocks i d))

-- whether a part covers one of the sightings
abbrev pub covers_some : List Sighting → PartFields → Bool
covers_some sightings part = list_any (covers part.head.ranges) sightings
