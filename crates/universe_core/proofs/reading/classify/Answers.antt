use Rattle.std.proofs.Common.{◌∙◌, Some, refl, sym, ap, arith}
use Rattle.std.specs.Int.{w64}
use Rattle.std.specs.Prelude.{is_some}
use Rattle.std.proofs.lemmas.Int.{to_z-of_z, ints}
use Rattle.std.proofs.lemmas.Option.{slice_get_within}
use Rattle.ident_core.specs.Coverage.{is_within}
use Rattle.ident_core.proofs.Elements.{Among-from_place}
use Rattle.ident_core.proofs.Sets.{has_key-from_Among}
use Rattle.universe_core.proofs.Classes.{class_uncovered, class_unenrolled, class_accepted, date_again, entry_is, read_is, not_covered, not_enrolled}
use Rattle.universe_core.proofs.Searchable.{place_within}
use Rattle.universe_core.proofs.reading.classify.Goals as goal

pub returns-in_default-place_covering-clause-class : goal.returns-in_default-place_covering-clause-class
returns-in_default-place_covering-clause-class c =
    rw c.in-Some.is (class_uncovered c.args.ranges.now c.args.issuers.now c.in-Some.entry (sym c.place_covering.ensures.covers ∙ ap is_some c.in_default-place_covering.is))

pub returns-in_default-place_covering-clause-entry : goal.returns-in_default-place_covering-clause-entry
returns-in_default-place_covering-clause-entry c =
    rw c.in-Some.is (not_covered c.args.ranges.now c.args.issuers.now c.in-Some.entry (sym c.place_covering.ensures.covers ∙ ap is_some c.in_default-place_covering.is))

pub returns-in_default-place_of_key-clause-class : goal.returns-in_default-place_of_key-clause-class
returns-in_default-place_of_key-clause-class c =
    rw c.in-Some.is (class_unenrolled c.args.ranges.now c.args.issuers.now c.in-Some.entry (sym c.in-Some-place_covering.ensures.covers) (c.in_default-place_of_key.ensures.none refl))

pub returns-in_default-place_of_key-clause-entry : goal.returns-in_default-place_of_key-clause-entry
returns-in_default-place_of_key-clause-entry c =
    rw c.in-Some.is (not_enrolled c.args.ranges.now c.args.issuers.now c.in-Some.entry (c.in_default-place_of_key.ensures.none refl))

pub overflow_cast-one : goal.overflow_cast-one
overflow_cast-one c =
    let within = slice_get_within c.args.issuers.now c.in-Some-place_of_key.place c.in-Some.entry.id.issuer c.in-Some-place_of_key.ensures.some in
    let few = c.requires.few in
    omega arith

pub overflow_cast-one-2 : goal.overflow_cast-one-2
overflow_cast-one-2 c =
    let within = place_within (is_within c.in-Some.entry.sighting) c.args.ranges.now c.in-Some-place_covering.near c.in-Some-place_covering.ensures.some in
    let few = c.requires.ranges.few in
    omega arith

pub returns-clause-class : goal.returns-clause-class
returns-clause-class c =
    rw c.in-Some.is (class_accepted c.args.ranges.now c.args.issuers.now c.in-Some.entry (sym c.in-Some-place_covering.ensures.covers)
    (has_key-from_Among c.args.issuers.now c.in-Some.entry.id.issuer (Among-from_place c.args.issuers.now c.in-Some-place_of_key.place c.in-Some.entry.id.issuer c.in-Some-place_of_key.ensures.some)))

pub returns-clause-entry : goal.returns-clause-entry
returns-clause-entry c =
    let within = c.unwrap_or.type_inv in
    let number = to_z-of_z w64 c.unwrap_or.result (omega (arith, ints)) ∙ c.unwrap_or.ensures in
    ap Some
    (entry_is c.args.ranges.now c.args.issuers.now c.in-Some.entry c.in-Some-place_covering.near c.in-Some-place_of_key.place _ _ c.in-Some-place_covering.ensures.some c.in-Some-place_of_key.ensures.some
    (date_again c.in-Some.entry.until number c.is_some.ensures))
    ∙ rw c.in-Some.is (read_is c.args.ranges.now c.args.issuers.now c.in-Some.entry (sym c.in-Some-place_covering.ensures.covers)
    (has_key-from_Among c.args.issuers.now c.in-Some.entry.id.issuer (Among-from_place c.args.issuers.now c.in-Some-place_of_key.place c.in-Some.entry.id.issuer c.in-Some-place_of_key.ensures.some)))

pub returns-clause-placed : goal.returns-clause-placed
returns-clause-placed c = record {
  issuer = slice_get_within c.args.issuers.now c.in-Some-place_of_key.place c.in-Some.entry.id.issuer c.in-Some-place_of_key.ensures.some;
  range = place_within (is_within c.in-Some.entry.sighting) c.args.ranges.now c.in-Some-place_covering.near c.in-Some-place_covering.ensures.some;
}
