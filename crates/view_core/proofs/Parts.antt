-- What a part says that stands in bytes.
use Rattle.std.proofs.Common.{◌≡◌, ℕ, ◌+◌, ◌*◌, ◌^◌, ◌≤◌, Bool, true, List, [], ◌∷◌, length, get_or, Some, refl, arith}
use Rattle.equation_core.specs.Rows.{sha256_row}
use Rattle.ident_core.specs.declared.identity.Identity.{Identity}
use Rattle.ident_core.specs.declared.range.Sighting.{Sighting}
use Rattle.card_core.specs.declared.block.Block.{Block}
use Rattle.card_core.specs.declared.block.Body.TheVariants as bodies
use Rattle.card_core.specs.Consulting.{IsPlaceOf, covers_some}
use Rattle.card_core.specs.Filter.{is_positive}
use Rattle.card_core.specs.PartFields.{PartFields}
use Rattle.card_core.specs.Verdict.{verdict, by_answers, covering, AreProbes}
use Rattle.part_text.specs.Fitting.{BlockFits}
use Rattle.part_text.specs.PartText.{block_text}
use Rattle.view_core.specs.Parts.{IsPartAt}
use Rattle.view_core.specs.Standing.{HoldShards}
use Rattle.view_core.specs.Texts.{Stands}
use Rattle.view_core.specs.declared.part.PartAt.{PartAt}
use Rattle.view_core.proofs.PlaceSearch.{as_many, stands_block}

-- the probes of one part that covers a sighting
pub probes_of_one : (sightings : List Sighting) (p : PartFields) (taken n : ℕ) → covers_some sightings p ≡ true → n ≡ length p.blocks → 2 ^ taken ≤ 2 * n + 1
    → AreProbes (covering sightings (p ∷ [])) taken
probes_of_one sightings p taken n covered many few =
    let z : taken ≡ taken + 0 = omega arith in
    let few_of : 2 ^ taken ≤ 2 * length p.blocks + 1 = rw (← many) few in
    rw covered (taken, 0, z, few_of, refl)

-- what one says that covers a sighting and has this block of the issuer
one_says : (p : PartFields) (x : Identity) (sightings : List Sighting) (i : ℕ) (d : Block) (answer : Bool) → covers_some sightings p ≡ true → IsPlaceOf x.issuer p.blocks (Some i)
    → answer ≡ is_positive sha256_row x (get_or p.blocks i d).body → by_answers (answer ∷ []) ≡ verdict (p ∷ []) x sightings
one_says p x sightings i d answer covered place says = rw (covered, place.1 d, ← says) refl

pub part_says_so : (bytes shards : List ℕ) (at : PartAt) (p : PartFields) (x : Identity) (sightings : List Sighting) (i : ℕ) (answer : Bool)
    → IsPartAt bytes shards at p → covers_some sightings p ≡ true → IsPlaceOf x.issuer p.blocks (Some i)
    → ((b : Block) → BlockFits b → Stands bytes (get_or at.blocks.now i 0) (block_text b) → HoldShards shards (get_or at.blocks.now i 0) b
    → answer ≡ is_positive sha256_row x b.body)
    → by_answers (answer ∷ []) ≡ verdict (p ∷ []) x sightings
part_says_so bytes shards at p x sightings i answer is covered place says =
    let d : Block = record { issuer = []; body = bodies.Clean } in
    let b : Block = get_or p.blocks i d in
    let there = stands_block bytes is.blocks_begin at.blocks.now p.blocks i d is.blocks (omega (arith, place.0, as_many bytes is.blocks_begin at.blocks.now p.blocks is.blocks)) in
    one_says p x sightings i d answer covered place (says b there.0 there.1 (is.shards_are i d place.0))
