-- Walks, and vectors, that fill some bytes.
use Rattle.std.proofs.Common.{◌≡◌, ℕ, zero, suc, ◌+◌, ◌<◌, ◌≤◌, List, [], ◌∷◌, length, drop, take, Bool, true, false, cond, nat_lt, Option, Some, None, refl, ap, ◌∙◌, arith, length-drop}
use Rattle.std.proofs.lemmas.Bool.{ltb-false}
use Rattle.octets_core.specs.Walk.{Walk, and_then, and_more, given, all_more, all_within, all_of}
use Rattle.octets_core.specs.Vectors.{bytes_field, number_field, vector, some_vector, some_bytes}

-- a walk that takes a byte or more
abbrev pub Shrinks : {A : Type 0} → Walk A → Type 0
Shrinks {A} walk = (bytes : List ℕ) (x : A × List ℕ) → walk bytes ≡ Some x → length x.1 < length bytes

same_more : {A : Type 0} (more others : List ℕ → Option (List A)) (r : Option (A × List ℕ))
    → ((x : A × List ℕ) → r ≡ Some x → more x.1 ≡ others x.1) → all_more more r ≡ all_more others r
same_more more others None same = refl
same_more more others (Some x) same = ap (and_more (Some x.0)) (same x refl)

enough : {A : Type 0} (walk : Walk A) → Shrinks walk → (n m : ℕ) (bytes : List ℕ) → length bytes ≤ n → length bytes ≤ m → all_within walk n bytes ≡ all_within walk m bytes
enough walk s zero zero bytes h k = refl
enough walk s zero (suc m) [] h k = refl
enough walk s zero (suc m) (b ∷ bytes) h k = absurd (omega arith)
enough walk s (suc n) zero [] h k = refl
enough walk s (suc n) zero (b ∷ bytes) h k = absurd (omega arith)
enough walk s (suc n) (suc m) [] h k = refl
enough walk s (suc n) (suc m) (b ∷ bytes) h k =
    same_more (all_within walk n) (all_within walk m) (walk (b ∷ bytes)) (λ x e.
    let less = s (b ∷ bytes) x e in enough walk s n m x.1 (omega arith) (omega arith))

pub all_of-more : {A : Type 0} (walk : Walk A) → Shrinks walk → (bytes : List ℕ) (x : A × List ℕ) → walk bytes ≡ Some x → all_of walk bytes ≡ and_more (Some x.0) (all_of walk x.1)
unfolding all_of
all_of-more walk s [] x e = let less = s [] x e in absurd (omega arith)
all_of-more walk s (b ∷ bytes) x e =
    let less = s (b ∷ bytes) x e in
    ap (all_more (all_within walk (length bytes))) e
    ∙ ap (and_more (Some x.0)) (enough walk s (length bytes) (length x.1) x.1 (omega arith) (omega arith))

pub all_of-none : {A : Type 0} (walk : Walk A) (bytes : List ℕ) → 0 < length bytes → walk bytes ≡ None → all_of walk bytes ≡ None
unfolding all_of
all_of-none walk [] some e = absurd (omega arith)
all_of-none walk (b ∷ bytes) some e = ap (all_more (all_within walk (length bytes))) e

pub all_of-ends : {A : Type 0} (walk : Walk A) (bytes : List ℕ) → length bytes ≡ 0 → all_of walk bytes ≡ Some []
unfolding all_of
all_of-ends walk [] h = refl
all_of-ends walk (b ∷ bytes) h = absurd (omega arith)

read_some : {A : Type 0} (b : Bool) (y x : A) → cond b None (Some y) ≡ Some x → (b ≡ false) × (y ≡ x)
read_some true y x h = cc
read_some false y x h = (refl, cc)

bytes-left : (n : ℕ) (bytes : List ℕ) (x : List ℕ × List ℕ) → bytes_field n bytes ≡ Some x → length x.1 + n ≡ length bytes
unfolding bytes_field
bytes-left n bytes x h =
    let pair : List ℕ × List ℕ = (take n bytes, drop n bytes) in
    let r = read_some (nat_lt (length bytes) n) pair x h in
    let room : n ≤ length bytes = ltb-false _ _ r.0 in
    let rest : drop n bytes ≡ x.1 = ap (λ (p : List ℕ × List ℕ). p.1) r.1 in
    omega (arith, length-drop n bytes, ap length rest)

-- what a vector takes is no less than the bytes of its length
field-left : {A B : Type 0} (r : Option (A × List ℕ)) (next : A → Walk B) (x : B × List ℕ) → and_then r next ≡ Some x → (y : A × List ℕ) × (r ≡ Some y) × (next y.0 y.1 ≡ Some x)
field-left None next x h = cc
field-left (Some y) next x h = (y, refl, h)

number-left : (width : ℕ) (bytes : List ℕ) (x : ℕ × List ℕ) → number_field width bytes ≡ Some x → length x.1 + width ≡ length bytes
unfolding number_field
number-left width bytes x h =
    let y = field-left (bytes_field width bytes) _ x h in
    let left = bytes-left width bytes y.0 y.1 in
    let rest : y.0.1 ≡ x.1 = cc (y.2) in
    omega (arith, ap length rest, left)

vector-left : (width : ℕ) (bytes : List ℕ) (x : List ℕ × List ℕ) → vector width bytes ≡ Some x → length x.1 + width ≤ length bytes
unfolding vector
vector-left width bytes x h =
    let y = field-left (number_field width bytes) _ x h in
    let first = number-left width bytes y.0 y.1 in
    let second = bytes-left y.0.0 y.0.1 x y.2 in
    omega (arith, first, second)

given-left : (r : Option (List ℕ)) (bytes : List ℕ) (x : List ℕ × List ℕ) → given r bytes ≡ Some x → bytes ≡ x.1
given-left None bytes x h = cc
given-left (Some y) bytes x h = let pair : List ℕ × List ℕ = (y, bytes) in let same : pair ≡ x = cc in ap (λ (p : List ℕ × List ℕ). p.1) same

pub some_vector-shrinks : (width : ℕ) → 0 < width → Shrinks (some_vector width)
unfolding some_vector
some_vector-shrinks width some bytes x h =
    let y = field-left (vector width bytes) _ x h in
    let left = vector-left width bytes y.0 y.1 in
    let rest : y.0.1 ≡ x.1 = given-left (some_bytes y.0.0) y.0.1 x y.2 in
    omega (arith, ap length rest, left)
