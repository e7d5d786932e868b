-- The first of the vectors that fill some bytes.
use Rattle.std.proofs.Common.{◌≡◌, ℕ, List, [], ◌∷◌, length, Option, Some, None, true, false, refl, ap, lit<}
use Rattle.octets_core.specs.Walk.{Walk, and_more, all_more, all_within, all_of}
use Rattle.octets_core.specs.Vectors.{some_vector}
use Rattle.octets_core.proofs.Filling.{Shrinks, some_vector-shrinks}
use Rattle.log_core.specs.Entries.{is_cut, first_in}

pub is_cut-more : {A : Type 0} (x : A) (more : Option (List A)) → is_cut (and_more (Some x) more) ≡ is_cut more
is_cut-more x None = refl
is_cut-more x (Some xs) = refl

pub first_in-cut : {A : Type 0} (x : A) (more : Option (List A)) → is_cut more ≡ true → first_in (and_more (Some x) more) ≡ Some x
first_in-cut x None h = cc
first_in-cut x (Some xs) h = refl

pub first_in-not : {A : Type 0} (x : A) (more : Option (List A)) → is_cut more ≡ false → first_in (and_more (Some x) more) ≡ None
first_in-not x None h = refl
first_in-not x (Some xs) h = cc

pub shrinks : Shrinks (some_vector 3)
shrinks = some_vector-shrinks 3 (lit< tt)

pub first_in-none : {A : Type 0} (walk : Walk A) (bytes : List ℕ) → walk bytes ≡ None → first_in (all_of walk bytes) ≡ None
unfolding all_of
first_in-none walk [] e = refl
first_in-none {A} walk (b ∷ bytes) e = ap (λ (r : Option (A × List ℕ)). first_in (all_more (all_within walk (length bytes)) r)) e
