-- What the readers of numbers and vectors take is what stands in the bytes.
use Rattle.std.proofs.Common.{◌≡◌, ℕ, ◌<◌, ◌≤◌, List, [], ◌∷◌, ◌++◌, length, take, drop, Bool, true, false, cond, nat_lt, Option, Some, None, refl, sym, ap, ◌∙◌, subst, arith}
use Rattle.std.proofs.lemmas.Bool.{ltb-false}
use Rattle.std.proofs.lemmas.Bool.Decides.{nat_tests}
use Rattle.std.proofs.lemmas.List.{take-append-drop, append_assoc, length-append, length-take-le}
use Rattle.std.proofs.Math.Seq.{take-append_seam, drop-append_seam}
use Rattle.octets_core.specs.Numbers.{number}
use Rattle.octets_core.specs.Walk.{Walk, given, and_more, all_of}
use Rattle.octets_core.specs.Vectors.{bytes_field, number_field, vector, some_vector, some_bytes}
use Rattle.octets_core.proofs.Filling.{some_vector-shrinks, all_of-more, all_of-none, all_of-ends}
use Rattle.der_core.proofs.WalkLaws.{step, given-step}
use Rattle.log_core.specs.VectorGrammar.{IsNumber, IsVector, IsSomeVector, AreVectors}

-- Some bytes that are so stand before the rest.
pub record Front (P : List ℕ → Type 0) (bytes rest : List ℕ) : Type 0 where
  pub front : List ℕ
  pub is : P front
  pub same : bytes ≡ front ++ rest

-- what stands there, once more is known of the rest
pub join : (bytes front rest more : List ℕ) → bytes ≡ front ++ rest → rest ≡ more → bytes ≡ front ++ more
join bytes front rest more h k = h ∙ ap (λ (r : List ℕ). front ++ r) k

lt_self : (a n : ℕ) → n ≤ a → nat_lt a n ≡ false
lt_self a n h = grind (arith, nat_tests)

read_some : {A : Type 0} (b : Bool) (y x : A) → cond b None (Some y) ≡ Some x → (b ≡ false) × (y ≡ x)
read_some true y x h = cc
read_some false y x h = (refl, cc)

pub bytes-read : (front rest : List ℕ) → bytes_field (length front) (front ++ rest) ≡ Some (front, rest)
unfolding bytes_field
bytes-read front rest =
    let long : nat_lt (length (front ++ rest)) (length front) ≡ false = lt_self _ _ (omega (arith, length-append front rest)) in
    let first : take (length front) (front ++ rest) ≡ front = take-append_seam front rest in
    let back : drop (length front) (front ++ rest) ≡ rest = drop-append_seam front rest in
    rw (long, first, back) refl

pub bytes-taken : (n : ℕ) (bytes : List ℕ) (x : List ℕ × List ℕ) → bytes_field n bytes ≡ Some x → Front (λ front. (front ≡ x.0) × (length front ≡ n)) bytes x.1
unfolding bytes_field
bytes-taken n bytes x h =
    let pair : List ℕ × List ℕ = (take n bytes, drop n bytes) in
    let r = read_some (nat_lt (length bytes) n) pair x h in
    let room : n ≤ length bytes = ltb-false _ _ r.0 in
    let whole : bytes ≡ take n bytes ++ drop n bytes = sym (take-append-drop n bytes) in
    record {
      front = take n bytes;
      is = (ap (λ (p : List ℕ × List ℕ). p.0) r.1, length-take-le n bytes room);
      same = join bytes (take n bytes) (drop n bytes) x.1 whole (ap (λ (p : List ℕ × List ℕ). p.1) r.1);
    }

pub number-read : (width n : ℕ) (front rest : List ℕ) → IsNumber width n front → number_field width (front ++ rest) ≡ Some (n, rest)
unfolding number_field
number-read width n front rest h =
    let P : ℕ → Type 0 = λ w. bytes_field w (front ++ rest) ≡ Some (front, rest) in
    let bytes : bytes_field width (front ++ rest) ≡ Some (front, rest) = subst P h.size (bytes-read front rest) in
    rw (bytes, h.value) refl

pub number-taken : (width : ℕ) (bytes : List ℕ) (x : ℕ × List ℕ) → number_field width bytes ≡ Some x → Front (IsNumber width x.0) bytes x.1
unfolding number_field
number-taken width bytes x h =
    let y = step (bytes_field width bytes) _ x h in
    let f = bytes-taken width bytes y.0 y.1 in
    let made : ℕ × List ℕ = (number y.0.0, y.0.1) in
    let same : made ≡ x = cc (y.2) in
    let value : number f.front ≡ x.0 = ap number f.is.0 ∙ ap (λ (p : ℕ × List ℕ). p.0) same in
    record {
      front = f.front;
      is = record { size = f.is.1; value = value };
      same = join bytes f.front y.0.1 x.1 f.same (ap (λ (p : ℕ × List ℕ). p.1) same);
    }

pub vector-read : (width : ℕ) (x front rest : List ℕ) → IsVector width x front → vector width (front ++ rest) ≡ Some (x, rest)
unfolding vector
vector-read width x front rest h =
    let whole : front ++ rest ≡ h.size ++ (x ++ rest) = ap (λ (f : List ℕ). f ++ rest) h.same ∙ append_assoc h.size x rest in
    rw (whole, number-read width (length x) h.size (x ++ rest) h.is_size) (bytes-read x rest)

pub vector-taken : (width : ℕ) (bytes : List ℕ) (x : List ℕ × List ℕ) → vector width bytes ≡ Some x → Front (IsVector width x.0) bytes x.1
unfolding vector
vector-taken width bytes x h =
    let n = step (number_field width bytes) _ x h in
    let size = number-taken width bytes n.0 n.1 in
    let body = bytes-taken n.0.0 n.0.1 x n.2 in
    let length_is : n.0.0 ≡ length x.0 = sym body.is.1 ∙ ap length body.is.0 in
    let P : ℕ → Type 0 = λ m. IsNumber width m size.front in
    let inner : n.0.1 ≡ x.0 ++ x.1 = body.same ∙ ap (λ (f : List ℕ). f ++ x.1) body.is.0 in
    record {
      front = size.front ++ x.0;
      is = record { size = size.front; is_size = subst P length_is size.is; same = refl };
      same = join bytes size.front n.0.1 (x.0 ++ x.1) size.same inner ∙ sym (append_assoc size.front x.0 x.1);
    }

some-read : (x bytes : List ℕ) → 1 ≤ length x → given (some_bytes x) bytes ≡ Some (x, bytes)
some-read [] bytes h = absurd (omega arith)
some-read (b ∷ x) bytes h = refl

some-taken : (y x : List ℕ) → some_bytes y ≡ Some x → (y ≡ x) × (1 ≤ length x)
some-taken [] x h = cc
some-taken (b ∷ y) x h =
    let same : (b ∷ y) ≡ x = cc in
    let long : length (b ∷ y) ≡ length x = ap length same in
    (same, omega (arith, long))

pub some_vector-read : (width : ℕ) (x front rest : List ℕ) → IsSomeVector width x front → some_vector width (front ++ rest) ≡ Some (x, rest)
unfolding some_vector
some_vector-read width x front rest h = rw (vector-read width x front rest h.is) (some-read x rest h.some)

pub some_vector-taken : (width : ℕ) (bytes : List ℕ) (x : List ℕ × List ℕ) → some_vector width bytes ≡ Some x → Front (IsSomeVector width x.0) bytes x.1
unfolding some_vector
some_vector-taken width bytes x h =
    let y = step (vector width bytes) _ x h in
    let f = vector-taken width bytes y.0 y.1 in
    let g = given-step (some_bytes y.0.0) y.0.1 x y.2 in
    let s = some-taken y.0.0 x.0 g.0 in
    let P : List ℕ → Type 0 = λ v. IsVector width v f.front in
    record {
      front = f.front;
      is = record { is = subst P s.0 f.is; some = s.1 };
      same = join bytes f.front y.0.1 x.1 f.same g.1;
    }

pub vectors-read : (width : ℕ) → 0 < width → (xs : List (List ℕ)) (bytes : List ℕ) → AreVectors width xs bytes → all_of (some_vector width) bytes ≡ Some xs
vectors-read width wide [] bytes h = all_of-ends (some_vector width) bytes (ap length h)
vectors-read width wide (x ∷ xs) bytes h =
    let P : List ℕ → Type 0 = λ bs. some_vector width bs ≡ Some (x, h.1) in
    let first : some_vector width bytes ≡ Some (x, h.1) = subst P (sym h.3) (some_vector-read width x h.0 h.1 h.2) in
    all_of-more (some_vector width) (some_vector-shrinks width wide) bytes (x, h.1) first
    ∙ ap (and_more (Some x)) (vectors-read width wide xs h.1 h.4)

more-taken : {A : Type 0} (x : A) (r : Option (List A)) (y : A) (ys : List A) → and_more (Some x) r ≡ Some (y ∷ ys) → (x ≡ y) × (r ≡ Some ys)
more-taken x None y ys h = cc
more-taken x (Some xs) y ys h = let same : (x ∷ xs) ≡ (y ∷ ys) = cc in (cc, cc)

-- a walk that fills some bytes takes the first of them
first-taken : {A : Type 0} (walk : Walk A) (bytes : List ℕ) (r : Option (A × List ℕ)) (x : A) (xs : List A) → walk bytes ≡ r → all_of walk bytes ≡ Some (x ∷ xs)
    → (y : A × List ℕ) × (walk bytes ≡ Some y)
unfolding all_of
first-taken walk [] r x xs e h = cc
first-taken walk (b ∷ bytes) None x xs e h = let none = all_of-none walk (b ∷ bytes) (omega arith) e in cc
first-taken walk (b ∷ bytes) (Some y) x xs e h = (y, e)

none-more : {A : Type 0} (x : A) (r : Option (List A)) → and_more (Some x) r ≡ Some [] → ⊥
none-more x None h = cc
none-more x (Some xs) h = cc

no-vectors : (width : ℕ) → 0 < width → (bytes : List ℕ) (r : Option (List ℕ × List ℕ)) → some_vector width bytes ≡ r → all_of (some_vector width) bytes ≡ Some [] → bytes ≡ []
no-vectors width wide [] r e h = refl
no-vectors width wide (b ∷ bytes) None e h = let none = all_of-none (some_vector width) (b ∷ bytes) (omega arith) e in cc
no-vectors width wide (b ∷ bytes) (Some y) e h =
    let more = all_of-more (some_vector width) (some_vector-shrinks width wide) (b ∷ bytes) y e in
    absurd (none-more y.0 (all_of (some_vector width) y.1) (sym more ∙ h))

pub vectors-taken : (width : ℕ) → 0 < width → (xs : List (List ℕ)) (bytes : List ℕ) → all_of (some_vector width) bytes ≡ Some xs → AreVectors width xs bytes
vectors-taken width wide [] bytes h = no-vectors width wide bytes (some_vector width bytes) refl h
vectors-taken width wide (x ∷ xs) bytes h =
    let y = first-taken (some_vector width) bytes (some_vector width bytes) x xs refl h in
    let more = all_of-more (some_vector width) (some_vector-shrinks width wide) bytes y.0 y.1 in
    let parts = more-taken y.0.0 (all_of (some_vector width) y.0.1) x xs (sym more ∙ h) in
    let f = some_vector-taken width bytes y.0 y.1 in
    let P : List ℕ → Type 0 = λ v. IsSomeVector width v f.front in
    (f.front, y.0.1, subst P parts.0 f.is, f.same, vectors-taken width wide xs y.0.1 parts.1)
