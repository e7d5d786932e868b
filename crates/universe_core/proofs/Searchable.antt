-- The parts of a ledger can be searched.
use Rattle.std.proofs.Common.{◌≡◌, ℕ, zero, suc, ◌<◌, Bool, true, List, [], ◌∷◌, map, length, take, min, All, Option, Some, ap, ◌∙◌, arith}
use Rattle.std.specs.List.{slice_get}
use Rattle.std.specs.Option.{option_map}
use Rattle.octets_core.specs.Linked.{Linked}
use Rattle.ledger_core.specs.declared.fields.LedgerPart.{LedgerPart}
use Rattle.ledger_core.specs.LedgerFields.{LedgerPartFields, IsPartAfter, part_fields}
use Rattle.universe_core.specs.Judging.{IsSearchable}

at_each : (p : LedgerPart) (ps : List LedgerPart) → IsSearchable p → All IsSearchable ps → All IsSearchable (p ∷ ps)
at_each p ps one rest zero d lt = one
at_each p ps one rest (suc k) d lt = rest k d (omega arith)

pub parts_searchable : (previous : Option LedgerPartFields) (parts : List LedgerPart) → Linked IsPartAfter (λ before p. Some p) previous (map part_fields parts) → All IsSearchable parts
parts_searchable previous [] linked = λ k d lt. absurd (omega arith)
parts_searchable previous (p ∷ ps) linked =
    at_each p ps (record { issuers = linked.0.issuers_ascend; ranges = linked.0.ranges.ascending }) (parts_searchable (Some (part_fields p)) ps linked.1)

pub first_few : {A : Type 0} (n : ℕ) (xs : List A) → take (min n (length xs)) xs ≡ take n xs
first_few zero [] = let e : min 0 0 ≡ 0 = omega arith in ap (λ m. take m []) e
first_few zero (x ∷ xs) = let e : min 0 (length (x ∷ xs)) ≡ 0 = omega arith in ap (λ m. take m (x ∷ xs)) e
first_few (suc n) [] = let e : min (suc n) 0 ≡ 0 = omega arith in ap (λ m. take m []) e
first_few (suc n) (x ∷ xs) =
    let e : min (suc n) (length (x ∷ xs)) ≡ suc (min n (length xs)) = omega arith in
    ap (λ m. take m (x ∷ xs)) e ∙ ap (λ ys. x ∷ ys) (first_few n xs)

-- a place where an element passes a test lies within
pub place_within : {A : Type 0} (p : A → Bool) (xs : List A) (i : ℕ) → option_map p (slice_get xs i) ≡ Some true → i < length xs
place_within p [] i h = absurd cc
place_within p (x ∷ xs) zero h = omega arith
place_within p (x ∷ xs) (suc i) h = let l = place_within p xs i h in omega arith
