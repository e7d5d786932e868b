-- One sighting, read where so many of them are wanted.
use Rattle.std.proofs.Common.{◌≡◌, ℕ, List, [], ◌∷◌, Ok, Err, ap, refl}
use Rattle.octets_core.specs.Layout.{Layout, repeated, with_fault}
use Rattle.octets_core.specs.declared.fault.LayoutFault.{LayoutFault}
use Rattle.ident_core.specs.declared.range.Sighting.{Sighting}
use Rattle.input_core.specs.QueryLayout.{many, sighting, sightings}
use Rattle.input_core.specs.QueryReading.{fielded}
use Rattle.input_core.specs.declared.fault.QueriesFault.TheVariants as faults

many-one : {X : Type 0} (one : Layout LayoutFault X) (bytes : List ℕ) (at : ℕ) (x : X) (end : ℕ) → one bytes at ≡ Ok (x, end) → many one 1 bytes at ≡ Ok (x ∷ [], end)
unfolding repeated
many-one one bytes at x end h = rw h refl

many-none : {X : Type 0} (one : Layout LayoutFault X) (bytes : List ℕ) (at : ℕ) (f : LayoutFault) → one bytes at ≡ Err f → many one 1 bytes at ≡ Err f
unfolding repeated
many-none one bytes at f h = rw h refl

pub one-read : (count : ℕ) (bytes : List ℕ) (at : ℕ) (x : Sighting) (end : ℕ) → count ≡ 1 → sighting bytes at ≡ Ok (x, end) → fielded (sightings count) bytes at ≡ Ok (x ∷ [], end)
one-read count bytes at x end is h = rw is (ap (with_fault faults.Layout) (many-one sighting bytes at x end h))

pub one-fault : (count : ℕ) (bytes : List ℕ) (at : ℕ) (f : LayoutFault) → count ≡ 1 → sighting bytes at ≡ Err f → fielded (sightings count) bytes at ≡ Err (faults.Layout f)
one-fault count bytes at f is h = rw is (ap (with_fault faults.Layout) (many-none sighting bytes at f h))
