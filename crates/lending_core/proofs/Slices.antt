-- The query's own of all sightings, in the layout of C and as the values that they stand for.
use Rattle.std.proofs.Common.{◌≡◌, ℕ, ◌+◌, Bool, true, false, nat_lt, List, length, map, take, drop, Result, Ok, Err, refl, sym, ap, ◌∙◌, arith}
use Rattle.std.specs.Prelude.{if◌then◌else◌, IfOk, IfErr}
use Rattle.std.proofs.lemmas.List.{length-map, take-map, drop-map}
use Rattle.ident_core.specs.declared.range.Sighting.{Sighting}
use Rattle.lending_core.specs.declared.fault.LentFault.{LentFault}
use Rattle.lending_core.specs.declared.fault.LentFault.TheVariants as faults
use Rattle.lending_core.specs.declared.lent.LentQuery.{LentQuery}
use Rattle.lending_core.specs.declared.lent.LentSighting.{LentSighting}
use Rattle.lending_core.specs.Lent.{sighting_of, slice_in}

abbrev each_stands : Result (List LentSighting) LentFault → Result (List Sighting) LentFault
each_stands (Ok own) = Ok (map sighting_of own)
each_stands (Err e) = Err e

by_test : (short : Bool) (own : List LentSighting) → (if short then Err faults.BadSightings else Ok (map sighting_of own)) ≡ each_stands (if short then Err faults.BadSightings else Ok own)
by_test true own = refl
by_test false own = refl

stands : (q : LentQuery) (all : List LentSighting) → slice_in q (map sighting_of all) ≡ each_stands (slice_in q all)
stands q all =
    let n : ℕ = q.first_sighting + q.sightings in
    let own : take q.sightings (drop q.first_sighting (map sighting_of all)) ≡ map sighting_of (take q.sightings (drop q.first_sighting all))
    = ap (take q.sightings) (drop-map sighting_of q.first_sighting all) ∙ take-map sighting_of q.sightings (drop q.first_sighting all) in
    ap (λ (k : ℕ). if nat_lt k n then Err faults.BadSightings else Ok (take q.sightings (drop q.first_sighting (map sighting_of all)))) (length-map all sighting_of)
    ∙ ap (λ (l : List Sighting). if nat_lt (length all) n then Err faults.BadSightings else Ok l) own
    ∙ by_test (nat_lt (length all) n) (take q.sightings (drop q.first_sighting all))

pub own_stands : (q : LentQuery) (all own : List LentSighting) → slice_in q all ≡ Ok own → slice_in q (map sighting_of all) ≡ Ok (map sighting_of own)
own_stands q all own is = stands q all ∙ ap each_stands is

pub fault_stands : (q : LentQuery) (all : List LentSighting) (e : LentFault) → slice_in q all ≡ Err e → slice_in q (map sighting_of all) ≡ Err e
fault_stands q all e is = stands q all ∙ ap each_stands is
