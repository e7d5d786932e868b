-- Laws of the elements of some bytes.
use Rattle.std.proofs.Common.{◌≡◌, ◌≢◌, ℕ, zero, suc, ◌+◌, ◌-◌, ◌<◌, ◌≤◌, List, [], ◌∷◌, length, take, drop, Bool, true, false, cond, nat_lt, nat_eq, Result}
use Rattle.std.proofs.Common.{Ok, Err, refl, ap, ◌∙◌, arith, length-drop}
use Rattle.std.specs.Prelude.{bit_and}
use Rattle.std.proofs.lemmas.Bool.Decides.{nat_tests}
use Rattle.std.proofs.lemmas.List.{take_all}
use Rattle.der_core.specs.Elements.{Der, Read, Item, contents_at, length_at, element_at, first_and, items_within, items}
use Rattle.der_core.specs.declared.types.DerFault.{DerFault}

pub same_number : (a b : ℕ) → nat_eq a b ≡ true → a ≡ b
same_number a b h = grind (arith, nat_tests)

pub other_number : (a b : ℕ) → nat_eq a b ≡ false → a ≢ b
other_number a b h e = grind (arith, nat_tests)

-- where a test didn't refuse, the test failed
pub passed : {A E : Type 0} (e : E) (b : Bool) (r : Result A E) (y : A) → cond b (Err e) r ≡ Ok y → (b ≡ false) × (r ≡ Ok y)
passed e true r y h = cc
passed e false r y h = (refl, h)

pub record Spans (n len : ℕ) : Type 0 where
  pub some : 0 < n
  pub within : n ≤ len

contents_spans : (tag : ℕ) (bytes : List ℕ) (r : Read ℕ) (x : Der × ℕ) → contents_at tag bytes r ≡ Ok x → Spans x.1 (1 + length bytes)
contents_spans tag bytes (Err f) x e = cc
contents_spans tag bytes (Ok y) x e =
    let p = passed _ (nat_lt (length bytes) (y.1 + y.0)) _ x e in
    let same : 1 + (y.1 + y.0) ≡ x.1 = cc in
    record { some = omega arith; within = grind (arith, nat_tests) }

pub element_spans : (bytes : List ℕ) (x : Der × ℕ) → element_at bytes ≡ Ok x → Spans x.1 (length bytes)
unfolding element_at
element_spans [] x e = cc
element_spans (tag ∷ bytes) x e =
    let p = passed _ (nat_eq (bit_and tag 31) 31) _ x e in
    let s : Spans x.1 (1 + length bytes) = contents_spans tag bytes (length_at bytes) x p.1 in
    record { some = s.some; within = omega arith }

same_first : (more others : List ℕ → List Item) (bytes : List ℕ) (r : Read Der)
    → ((x : Der × ℕ) → r ≡ Ok x → more (drop x.1 bytes) ≡ others (drop x.1 bytes)) → first_and more bytes r ≡ first_and others bytes r
same_first more others bytes (Err f) same = refl
same_first more others bytes (Ok x) same = ap (λ (rest : List Item). Ok x.0 ∷ rest) (same x refl)

-- more steps than bytes change nothing
pub enough : (n m : ℕ) (bytes : List ℕ) → length bytes ≤ n → length bytes ≤ m → items_within n bytes ≡ items_within m bytes
enough zero zero bytes h k = refl
enough zero (suc m) [] h k = refl
enough zero (suc m) (b ∷ bytes) h k = absurd (omega arith)
enough (suc n) zero [] h k = refl
enough (suc n) zero (b ∷ bytes) h k = absurd (omega arith)
enough (suc n) (suc m) [] h k = refl
enough (suc n) (suc m) (b ∷ bytes) h k =
    same_first (items_within n) (items_within m) (b ∷ bytes) (element_at (b ∷ bytes)) (λ x e.
    let s = element_spans (b ∷ bytes) x e in
    enough n m (drop x.1 (b ∷ bytes)) (omega (arith, length-drop x.1 (b ∷ bytes), s.some)) (omega (arith, length-drop x.1 (b ∷ bytes), s.some)))

-- the items of bytes that begin with an element
pub items-ok : (bytes : List ℕ) (x : Der × ℕ) → element_at bytes ≡ Ok x → items bytes ≡ Ok x.0 ∷ items (drop x.1 bytes)
unfolding items element_at
items-ok [] x e = cc
items-ok (b ∷ bytes) x e =
    let s = element_spans (b ∷ bytes) x e in
    ap (first_and (items_within (length bytes)) (b ∷ bytes)) e
    ∙ ap (λ (rest : List Item). Ok x.0 ∷ rest) (enough (length bytes) (length (drop x.1 (b ∷ bytes))) (drop x.1 (b ∷ bytes)) (omega (arith, length-drop x.1 (b ∷ bytes), s.some)) (omega arith))

-- the items of bytes that don't, of which there are some
pub items-err : (bytes : List ℕ) (f : DerFault) → 0 < length bytes → element_at bytes ≡ Err f → items bytes ≡ Err f ∷ []
unfolding items
items-err [] f some e = absurd (omega arith)
items-err (b ∷ bytes) f some e = ap (first_and (items_within (length bytes)) (b ∷ bytes)) e

pub items-none : (bytes : List ℕ) → length bytes ≡ 0 → items bytes ≡ []
unfolding items
items-none [] h = refl
items-none (b ∷ bytes) h = absurd (omega arith)

take_rest : (bytes : List ℕ) (n : ℕ) → take (length bytes - n) (drop n bytes) ≡ drop n bytes
take_rest bytes n = take_all (length bytes - n) (drop n bytes) (omega (arith, length-drop n bytes))

-- the same, as a slice's rest is written
pub items-rest : (bytes : List ℕ) (e : Der) (n : ℕ) → element_at bytes ≡ Ok (e, n) → items bytes ≡ Ok e ∷ items (take (length bytes - n) (drop n bytes))
items-rest bytes e n h = rw (take_rest bytes n) (items-ok bytes (e, n) h)
