-- A list of timestamps, one after the other.
use Rattle.std.proofs.Common.{◌≡◌, ℕ, ◌<◌, ◌≤◌, List, [], ◌∷◌, ◌++◌, length, Bool, true, false, nat_lt, nat_eq, Option, Some, None}
use Rattle.std.proofs.Common.{Result, Ok, Err, refl, sym, ap, ◌∙◌, arith, append-nil, if◌then◌else◌, lit<}
use Rattle.std.proofs.lemmas.List.{append_assoc, length-append}
use Rattle.std.proofs.lemmas.Bool.Decides.{nat_tests}
use Rattle.octets_core.specs.Walk.{and_more, all_of}
use Rattle.octets_core.specs.Vectors.{some_vector}
use Rattle.octets_core.proofs.Filling.{Shrinks, some_vector-shrinks, all_of-more, all_of-none, all_of-ends}
use Rattle.der_core.proofs.ItemLaws.{same_number}
use Rattle.der_core.proofs.WalkLaws.{step, given-step}
use Rattle.ident_core.specs.declared.range.Sighting.{Sighting}
use Rattle.sct_core.specs.declared.fault.CertFault.{CertFault}
use Rattle.sct_core.specs.declared.fault.CertFault.TheVariants as fault
use Rattle.sct_core.specs.declared.bounds.TheConstants.{MAX_SCTS}
use Rattle.sct_core.specs.Timestamps.{timestamp_in, timestamp, sightings_among}
use Rattle.sct_core.specs.Outcome.{of_sightings}

-- what comes of the sightings so far, and of the timestamps that follow
abbrev pub continued : List Sighting → Bool → Option (List (Option Sighting)) → Result (List Sighting) CertFault
continued have many None = Err fault.BadScts
continued have many (Some xs) = if many then Err fault.TooManyScts else of_sightings (have ++ sightings_among xs)

other : (have : List Sighting) (many : Bool) (r : Option (List (Option Sighting))) → continued have many (and_more (Some None) r) ≡ continued have many r
other have many None = refl
other have many (Some xs) = refl

put : (have : List Sighting) (many : Bool) (s : Sighting) (r : Option (List (Option Sighting))) → continued have many (and_more (Some (Some s)) r) ≡ continued (have ++ s ∷ []) many r
put have many s None = refl
put have true s (Some xs) = refl
put have false s (Some xs) = ap of_sightings (sym (append_assoc have (s ∷ []) (sightings_among xs)))

lt_true : (a b : ℕ) → a < b → nat_lt a b ≡ true
lt_true a b h = grind (arith, nat_tests)

pub lt_false : (a b : ℕ) → b ≤ a → nat_lt a b ≡ false
lt_false a b h = grind (arith, nat_tests)

long : (xs : List Sighting) → MAX_SCTS < length xs → of_sightings xs ≡ Err fault.TooManyScts
long [] h = absurd (omega arith)
long (x ∷ xs) h = rw (lt_true MAX_SCTS (length (x ∷ xs)) h) refl

pub few : (xs : List Sighting) → 1 ≤ length xs → length xs ≤ MAX_SCTS → of_sightings xs ≡ Ok xs
few [] some h = absurd (omega arith)
few (x ∷ xs) some h = rw (lt_false MAX_SCTS (length (x ∷ xs)) h) refl

none : (xs : List Sighting) → length xs ≡ 0 → of_sightings xs ≡ Err fault.NoScts
none [] h = refl
none (x ∷ xs) h = absurd (omega (arith, h))

full-many : (have : List Sighting) (many : Bool) (s : Sighting) (r : Option (List (Option Sighting))) → length have ≡ MAX_SCTS
    → continued have many (and_more (Some (Some s)) r) ≡ continued have true r
full-many have many s None h = refl
full-many have true s (Some xs) h = refl
full-many have false s (Some xs) h = long (have ++ s ∷ sightings_among xs) (omega (arith, length-append have (s ∷ sightings_among xs), h))

some_number : (a : ℕ) → nat_eq a 0 ≡ false → 1 ≤ a
some_number a h = grind (arith, nat_tests)

pub shrinks : Shrinks timestamp
unfolding timestamp
shrinks bytes x h =
    let y = step (some_vector 2 bytes) _ x h in
    let less = some_vector-shrinks 2 (lit< tt) bytes y.0 y.1 in
    let g = given-step (timestamp_in y.0.0) y.0.1 x y.2 in
    let same = ap length g.1 in
    omega (arith, less, same)

-- one timestamp more was read
pub more : (bytes rest : List ℕ) (found next : Option Sighting) → Some (found, rest) ≡ timestamp bytes → found ≡ next → all_of timestamp bytes ≡ and_more (Some next) (all_of timestamp rest)
more bytes rest found next h same =
    all_of-more timestamp shrinks bytes (found, rest) (sym h)
    ∙ ap (λ (f : Option Sighting). and_more (Some f) (all_of timestamp rest)) same

pub shorter : (bytes rest : List ℕ) (found : Option Sighting) → Some (found, rest) ≡ timestamp bytes → length rest < length bytes
shorter bytes rest found h = let less = shrinks bytes (found, rest) (sym h) in less

pub bad : (have : List Sighting) (many : Bool) (bytes : List ℕ) → 0 < length bytes → None ≡ timestamp bytes → Err fault.BadScts ≡ continued have many (all_of timestamp bytes)
bad have many bytes some h = ap (continued have many) (sym (all_of-none timestamp bytes some (sym h)))

pub passes : (have : List Sighting) (many : Bool) (bytes rest : List ℕ) (found : Option Sighting) → Some (found, rest) ≡ timestamp bytes → found ≡ None
    → continued have many (all_of timestamp rest) ≡ continued have many (all_of timestamp bytes)
passes have many bytes rest found h same = sym (ap (continued have many) (more bytes rest found None h same) ∙ other have many (all_of timestamp rest))

pub puts : (have : List Sighting) (many : Bool) (bytes rest : List ℕ) (found : Option Sighting) (s : Sighting) → Some (found, rest) ≡ timestamp bytes → found ≡ Some s
    → continued (have ++ s ∷ []) many (all_of timestamp rest) ≡ continued have many (all_of timestamp bytes)
puts have many bytes rest found s h same = sym (ap (continued have many) (more bytes rest found (Some s) h same) ∙ put have many s (all_of timestamp rest))

pub overflows : (have : List Sighting) (many : Bool) (bytes rest : List ℕ) (found : Option Sighting) (s : Sighting) → Some (found, rest) ≡ timestamp bytes → found ≡ Some s
    → nat_eq (length have) MAX_SCTS ≡ true → continued have true (all_of timestamp rest) ≡ continued have many (all_of timestamp bytes)
overflows have many bytes rest found s h same all =
    sym (ap (continued have many) (more bytes rest found (Some s) h same) ∙ full-many have many s (all_of timestamp rest) (same_number (length have) MAX_SCTS all))

ended : (have : List Sighting) (many : Bool) (bytes : List ℕ) → length bytes ≡ 0 → continued have many (Some []) ≡ continued have many (all_of timestamp bytes)
ended have many bytes h = ap (continued have many) (sym (all_of-ends timestamp bytes h))

pub end-many : (have : List Sighting) (many : Bool) (bytes : List ℕ) → length bytes ≡ 0 → many ≡ true → Err fault.TooManyScts ≡ continued have many (all_of timestamp bytes)
end-many have true bytes h m = ended have true bytes h
end-many have false bytes h m = cc

end-of_sightings : (have : List Sighting) (many : Bool) (bytes : List ℕ) → length bytes ≡ 0 → many ≡ false → of_sightings have ≡ continued have many (all_of timestamp bytes)
end-of_sightings have false bytes h m = ap of_sightings (sym (append-nil have)) ∙ ended have false bytes h
end-of_sightings have true bytes h m = cc

pub end-none : (have : List Sighting) (many : Bool) (bytes : List ℕ) → length bytes ≡ 0 → many ≡ false → nat_eq (length have) 0 ≡ true → Err fault.NoScts ≡ continued have many (all_of timestamp bytes)
end-none have many bytes h m empty = sym (none have (same_number (length have) 0 empty)) ∙ end-of_sightings have many bytes h m

pub end-some : (have returned : List Sighting) (many : Bool) (bytes : List ℕ) → returned ≡ have → length bytes ≡ 0 → many ≡ false → nat_eq (length have) 0 ≡ false
    → length have ≤ MAX_SCTS → Ok returned ≡ continued have many (all_of timestamp bytes)
end-some have returned many bytes same h m empty room =
    ap (λ (xs : List Sighting). Ok xs) same
    ∙ sym (few have (some_number (length have) empty) room)
    ∙ end-of_sightings have many bytes h m
