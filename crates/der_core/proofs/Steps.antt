-- What a walk of several steps gave, step by step. Each law hands what it found to what follows.
use Rattle.std.proofs.Common.{◌≡◌, ℕ, List, Option, Some, None, refl, ap}
use Rattle.octets_core.specs.Walk.{Walk, and_then, given, value_of}
use Rattle.der_core.proofs.WalkLaws.{value-step}

pub then : {A B : Type 0} (P : Type 0) (r : Option (A × List ℕ)) (next : A → Walk B) (x : B × List ℕ) → and_then r next ≡ Some x
    → ((y : A × List ℕ) → r ≡ Some y → next y.0 y.1 ≡ Some x → P) → P
then P None next x h more = cc
then P (Some y) next x h more = more y refl h

pub value-then : {A : Type 0} (P : Type 0) (r : Option (A × List ℕ)) (x : A) → value_of r ≡ Some x → ((rest : List ℕ) → r ≡ Some (x, rest) → P) → P
value-then P r x h more = let found = value-step r x h in more found.0 found.1

pub given-then : {A B : Type 0} (P : Type 0) (r : Option A) (bytes : List ℕ) (next : A → Walk B) (x : B × List ℕ) → and_then (given r bytes) next ≡ Some x
    → ((y : A) → r ≡ Some y → next y bytes ≡ Some x → P) → P
given-then P None bytes next x h more = cc
given-then P (Some y) bytes next x h more = more y refl h

-- the last step of a walk, and what it makes of the values before
pub whole-is : {A : Type 0} (made : A) (bytes : List ℕ) (x : A × List ℕ) → Some (made, bytes) ≡ Some x → made ≡ x.0
whole-is {A} made bytes x h =
    let pair : A × List ℕ = (made, bytes) in
    let same : pair ≡ x = cc in
    ap (λ (p : A × List ℕ). p.0) same

pub rest-is : {A : Type 0} (made : A) (bytes : List ℕ) (x : A × List ℕ) → Some (made, bytes) ≡ Some x → bytes ≡ x.1
rest-is {A} made bytes x h =
    let pair : A × List ℕ = (made, bytes) in
    let same : pair ≡ x = cc in
    ap (λ (p : A × List ℕ). p.1) same
