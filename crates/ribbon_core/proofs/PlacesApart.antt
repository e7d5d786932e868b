-- The places of words: each of the planes' words has one of its own among them.
use Rattle.std.proofs.Common.{◌≡◌, ℕ, ◌+◌, ◌*◌, ◌/◌, ◌<◌, ◌≤◌, ◌≢◌, ◌⊎◌, inl, inr, arith}
use Rattle.std.proofs.lemmas.Nat.{rows, same_from_place}
use Rattle.equation_core.specs.Sizes.{words_for}
use Rattle.ribbon_core.specs.PlaneWords.{kept_length, place}

pub place_inside : (planes width plane i : ℕ) → plane < planes → i < width → place planes plane i < planes * width
place_inside planes width plane i lt below =
    let e : i * planes + planes ≤ width * planes = grind (arith, rows) in omega (arith, e, lt)

-- words of two planes, or two words of a plane, stand at two places
pub places_apart : (planes q k plane i : ℕ) → q < planes → plane < planes → (q ≢ plane) ⊎ (k ≢ i) → place planes q k ≢ place planes plane i
places_apart planes q k plane i lt lt' (inl ne) e = ne (same_from_place k q i plane planes lt lt' e).1
places_apart planes q k plane i lt lt' (inr ne) e = ne (same_from_place k q i plane planes lt lt' e).0

-- the last run of words that a row meets can be loaded as whole lanes
pub lanes_room : (planes starts start n : ℕ) → planes ≤ 16 → start < starts → n ≡ kept_length planes (words_for starts)
    → (start + 127) / 64 * planes + 16 ≤ n
lanes_room planes starts start n few lt e =
    let last : (start + 127) / 64 < words_for starts = omega arith in
    let room : (start + 127) / 64 * planes + planes ≤ words_for starts * planes = grind (arith, rows) in
    omega (arith, e, room, few)
