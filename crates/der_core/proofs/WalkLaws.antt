-- What a walk takes is what stands in the bytes.
use Rattle.std.proofs.Common.{◌≡◌, ℕ, List, [], ◌∷◌, ◌++◌, length, take, drop, Bool, true, false, cond, nat_eq, Option, Some, None, Ok, Err, refl, sym, ap, ◌∙◌, subst, arith, append-nil}
use Rattle.std.proofs.lemmas.Bool.Decides.{nat_tests}
use Rattle.std.proofs.lemmas.List.{take-append-drop}
use Rattle.std.specs.Prelude.{IfSome, IfNone}
use Rattle.std.specs.Borrow.{Bor}
use Rattle.std.proofs.Math.Seq.{take-append_seam, drop-append_seam}
use Rattle.der_core.specs.Elements.{Der, Read, element_at}
use Rattle.der_core.specs.Grammar.{IsElement, StandsBefore, StandsOrNot}
use Rattle.octets_core.specs.Walk.{Walk, Walks, and_then, given, ends, value_of}
use Rattle.der_core.specs.Walk.{passing, has_tag, field, passing_or_not, contents_in, optional, alone, element_where, whole_field}
use Rattle.der_core.proofs.ItemLaws.{same_number}
use Rattle.der_core.proofs.GrammarLaws.{element-taken, element-read}

eq_self : (a : ℕ) → nat_eq a a ≡ true
eq_self a = grind (arith, nat_tests)

pub chosen_some : {A : Type 0} (b : Bool) (y x : A) → cond b (Some y) None ≡ Some x → (b ≡ true) × (y ≡ x)
chosen_some true y x h = (refl, cc)
chosen_some false y x h = cc

taken : (tag : ℕ) (bytes : List ℕ) (r : Read Der) (x : List ℕ × List ℕ) → element_at bytes ≡ r → passing (has_tag tag) (λ y. y.0.contents) bytes r ≡ Some x → StandsBefore tag x.0 bytes x.1
taken tag bytes (Err f) x read h = cc
taken tag bytes (Ok y) x read h =
    let pair : List ℕ × List ℕ = (y.0.contents, drop y.1 bytes) in
    let c = chosen_some (nat_eq y.0.tag tag) pair x h in
    let is : IsElement y.0 (take y.1 bytes) = element-taken bytes y read in
    let P : ℕ → Type 0 = λ t. StandsBefore t y.0.contents bytes (drop y.1 bytes) in
    let Q : List ℕ × List ℕ → Type 0 = λ p. StandsBefore tag p.0 bytes p.1 in
    subst Q c.1 (subst P (same_number y.0.tag tag c.0) (take y.1 bytes, is, sym (take-append-drop y.1 bytes)))

-- what a field takes stands there
pub field-taken : (tag : ℕ) (bytes : List ℕ) (x : List ℕ × List ℕ) → field tag bytes ≡ Some x → StandsBefore tag x.0 bytes x.1
unfolding field
field-taken tag bytes x h = taken tag bytes (element_at bytes) x refl h

-- and what stands there a field takes
pub field-read : (tag : ℕ) (contents bytes rest : List ℕ) → StandsBefore tag contents bytes rest → field tag bytes ≡ Some (contents, rest)
unfolding field
field-read tag contents bytes rest h =
    let read = element-read (record { tag = tag; contents = contents }) h.0 rest h.1 in
    let back : drop (length h.0) (h.0 ++ rest) ≡ rest = drop-append_seam h.0 rest in
    rw (h.2, read, eq_self tag, back) refl

pub walks-found : (tag : ℕ) (old new : List ℕ) (r : Option (Bor (List ℕ))) → Walks (λ x. x.now) (field tag) old new r → IfSome r (λ x. StandsBefore tag x.now old new)
walks-found tag old new None h = tt
walks-found tag old new (Some x) h = field-taken tag old (x.now, new) h

pub walks-none : (tag : ℕ) (old new : List ℕ) (r : Option (Bor (List ℕ))) → Walks (λ x. x.now) (field tag) old new r → IfNone r ((contents rest : List ℕ) → StandsBefore tag contents old rest → ⊥)
walks-none tag old new (Some x) h = tt
walks-none tag old new None h = λ contents rest s. let read = field-read tag contents old rest s in cc

by_test : (tag : ℕ) (bytes : List ℕ) (y : Der × ℕ) (x : Option (List ℕ) × List ℕ) (b : Bool) → nat_eq y.0.tag tag ≡ b → element_at bytes ≡ Ok y
    → contents_in (cond b (Some (Some y.0, drop y.1 bytes)) (Some (None, bytes))) ≡ Some x → StandsOrNot tag x.0 bytes x.1
by_test tag bytes y x false t read h =
    let pair : Option (List ℕ) × List ℕ = (None, bytes) in
    let same : pair ≡ x = cc in
    let Q : Option (List ℕ) × List ℕ → Type 0 = λ p. StandsOrNot tag p.0 bytes p.1 in
    subst Q same refl
by_test tag bytes y x true t read h =
    let pair : Option (List ℕ) × List ℕ = (Some y.0.contents, drop y.1 bytes) in
    let same : pair ≡ x = cc in
    let Q : Option (List ℕ) × List ℕ → Type 0 = λ p. StandsOrNot tag p.0 bytes p.1 in
    let P : ℕ → Type 0 = λ t. StandsBefore t y.0.contents bytes (drop y.1 bytes) in
    let is : IsElement y.0 (take y.1 bytes) = element-taken bytes y read in
    subst Q same (subst P (same_number y.0.tag tag t) (take y.1 bytes, is, sym (take-append-drop y.1 bytes)))

taken_or_not : (tag : ℕ) (bytes : List ℕ) (r : Read Der) (x : Option (List ℕ) × List ℕ) → element_at bytes ≡ r
    → contents_in (passing_or_not (has_tag tag) bytes r) ≡ Some x → StandsOrNot tag x.0 bytes x.1
taken_or_not tag bytes (Err f) x read h =
    let pair : Option (List ℕ) × List ℕ = (None, bytes) in
    let same : pair ≡ x = cc in
    let Q : Option (List ℕ) × List ℕ → Type 0 = λ p. StandsOrNot tag p.0 bytes p.1 in
    subst Q same refl
taken_or_not tag bytes (Ok y) x read h = by_test tag bytes y x (nat_eq y.0.tag tag) refl read h

-- what an optional field takes stands there
pub optional-taken : (tag : ℕ) (bytes : List ℕ) (x : Option (List ℕ) × List ℕ) → optional tag bytes ≡ Some x → StandsOrNot tag x.0 bytes x.1
unfolding optional
optional-taken tag bytes x h = taken_or_not tag bytes (element_at bytes) x refl h

-- what stands there is taken
pub optional-read : (tag : ℕ) (contents bytes rest : List ℕ) → StandsBefore tag contents bytes rest → optional tag bytes ≡ Some (Some contents, rest)
unfolding optional
optional-read tag contents bytes rest h =
    let read = element-read (record { tag = tag; contents = contents }) h.0 rest h.1 in
    let back : drop (length h.0) (h.0 ++ rest) ≡ rest = drop-append_seam h.0 rest in
    rw (h.2, read, eq_self tag, back) refl

-- and an element of another tag isn't
pub optional-other : (tag other : ℕ) (contents bytes rest : List ℕ) → nat_eq other tag ≡ false → StandsBefore other contents bytes rest → optional tag bytes ≡ Some (None, bytes)
unfolding optional
optional-other tag other contents bytes rest t h =
    let read = element-read (record { tag = other; contents = contents }) h.0 rest h.1 in
    rw (h.2, read, t) refl

-- a walk and then another: what the first gave
pub step : {A B : Type 0} (r : Option (A × List ℕ)) (next : A → Walk B) (x : B × List ℕ) → and_then r next ≡ Some x → (y : A × List ℕ) × (r ≡ Some y) × (next y.0 y.1 ≡ Some x)
step None next x h = cc
step (Some y) next x h = (y, refl, h)

pub given-step : {A : Type 0} (r : Option A) (bytes : List ℕ) (y : A × List ℕ) → given r bytes ≡ Some y → (r ≡ Some y.0) × (bytes ≡ y.1)
given-step None bytes y h = cc
given-step {A} (Some z) bytes y h =
    let pair : A × List ℕ = (z, bytes) in
    let same : pair ≡ y = cc in
    (ap (λ (p : A × List ℕ). Some p.0) same, ap (λ (p : A × List ℕ). p.1) same)

pub ends-step : (bytes : List ℕ) (y : Unit {0} × List ℕ) → ends bytes ≡ Some y → (bytes ≡ []) × (y.1 ≡ [])
unfolding ends
ends-step [] y h =
    let pair : Unit {0} × List ℕ = (tt, []) in
    let same : pair ≡ y = cc in
    (refl, ap (λ (p : Unit {0} × List ℕ). p.1) (sym same))
ends-step (b ∷ bytes) y h = cc

pub ends-read : ends [] ≡ Some (tt, [])
unfolding ends
ends-read = refl

-- the value of a walk, whatever it left
pub value-step : {A : Type 0} (r : Option (A × List ℕ)) (x : A) → value_of r ≡ Some x → (rest : List ℕ) × (r ≡ Some (x, rest))
value-step None x h = cc
value-step {A} (Some y) x h =
    let same : y.0 ≡ x = cc in
    (y.1, ap (λ (z : A). Some (z, y.1)) same)

-- the only element of the bytes is read,
pub alone-read : (tag : ℕ) (contents bytes : List ℕ) → IsElement (record { tag = tag; contents = contents }) bytes → alone tag bytes ≡ Some (contents, [])
unfolding alone
alone-read tag contents bytes h = rw (field-read tag contents bytes [] (bytes, h, sym (append-nil bytes)), ends-read) refl

-- and what is read is the only element.
pub alone-taken : (tag : ℕ) (bytes : List ℕ) (contents : List ℕ) → value_of (alone tag bytes) ≡ Some contents → IsElement (record { tag = tag; contents = contents }) bytes
unfolding alone
alone-taken tag bytes contents h =
    let all = value-step (alone tag bytes) contents h in
    let first = step (field tag bytes) _ (contents, all.0) all.1 in
    let end = step (ends first.0.1) _ (contents, all.0) first.2 in
    let pair : List ℕ × List ℕ = (contents, all.0) in
    let made : List ℕ × List ℕ = (first.0.0, end.0.1) in
    let same : made ≡ pair = cc (end.2) in
    let value : first.0.0 ≡ contents = ap (λ (p : List ℕ × List ℕ). p.0) same in
    let none = ends-step first.0.1 end.0 end.1 in
    let stands = field-taken tag bytes first.0 first.1 in
    let whole : bytes ≡ stands.0 = stands.2 ∙ ap (λ (rest : List ℕ). stands.0 ++ rest) none.0 ∙ append-nil stands.0 in
    let P : List ℕ → Type 0 = λ c. IsElement (record { tag = tag; contents = c }) stands.0 in
    let Q : List ℕ → Type 0 = λ bs. IsElement (record { tag = tag; contents = contents }) bs in
    subst Q (sym whole) (subst P value stands.1)

-- an element that passes is read, whatever follows,
pub element_where-read : (test : Der → Bool) (e : Der) (front bytes rest : List ℕ) → test e ≡ true → IsElement e front → bytes ≡ front ++ rest → element_where test bytes ≡ Some (e, rest)
unfolding element_where
element_where-read test e front bytes rest t is same =
    let read : element_at (front ++ rest) ≡ Ok (e, length front) = element-read e front rest is in
    let back : drop (length front) (front ++ rest) ≡ rest = drop-append_seam front rest in
    rw (same, read, t, back) refl

-- also with its tag and its length,
pub whole_field-read : (tag : ℕ) (contents front bytes rest : List ℕ) → IsElement (record { tag = tag; contents = contents }) front → bytes ≡ front ++ rest → whole_field tag bytes ≡ Some (front, rest)
unfolding whole_field
whole_field-read tag contents front bytes rest is same =
    let read = element-read (record { tag = tag; contents = contents }) front rest is in
    let back : drop (length front) (front ++ rest) ≡ rest = drop-append_seam front rest in
    let whole : take (length front) (front ++ rest) ≡ front = take-append_seam front rest in
    rw (same, read, eq_self tag, back, whole) refl

-- What a walk took is an element, whose bytes stand before the rest.
pub record StandsWhole (tag : ℕ) (front bytes rest : List ℕ) : Type 0 where
  pub contents : List ℕ
  pub is : IsElement (record { tag = tag; contents = contents }) front
  pub same : bytes ≡ front ++ rest

whole-taken : (tag : ℕ) (bytes : List ℕ) (r : Read Der) (x : List ℕ × List ℕ) → element_at bytes ≡ r → passing (has_tag tag) (λ y. take y.1 bytes) bytes r ≡ Some x → StandsWhole tag x.0 bytes x.1
whole-taken tag bytes (Err f) x read h = cc
whole-taken tag bytes (Ok y) x read h =
    let pair : List ℕ × List ℕ = (take y.1 bytes, drop y.1 bytes) in
    let c = chosen_some (nat_eq y.0.tag tag) pair x h in
    let is : IsElement y.0 (take y.1 bytes) = element-taken bytes y read in
    let P : ℕ → Type 0 = λ t. IsElement (record { tag = t; contents = y.0.contents }) (take y.1 bytes) in
    let Q : List ℕ × List ℕ → Type 0 = λ p. StandsWhole tag p.0 bytes p.1 in
    subst Q c.1 (record { contents = y.0.contents; is = subst P (same_number y.0.tag tag c.0) is; same = sym (take-append-drop y.1 bytes) })

pub whole_field-taken : (tag : ℕ) (bytes : List ℕ) (x : List ℕ × List ℕ) → whole_field tag bytes ≡ Some x → StandsWhole tag x.0 bytes x.1
unfolding whole_field
whole_field-taken tag bytes x h = whole-taken tag bytes (element_at bytes) x refl h

-- The same of an element that passes.
pub record StandsWhere (test : Der → Bool) (e : Der) (bytes rest : List ℕ) : Type 0 where
  pub passes : test e ≡ true
  pub front : List ℕ
  pub is : IsElement e front
  pub same : bytes ≡ front ++ rest

where-taken : (test : Der → Bool) (bytes : List ℕ) (r : Read Der) (x : Der × List ℕ) → element_at bytes ≡ r → passing test (λ y. y.0) bytes r ≡ Some x → StandsWhere test x.0 bytes x.1
where-taken test bytes (Err f) x read h = cc
where-taken test bytes (Ok y) x read h =
    let pair : Der × List ℕ = (y.0, drop y.1 bytes) in
    let c = chosen_some (test y.0) pair x h in
    let Q : Der × List ℕ → Type 0 = λ p. StandsWhere test p.0 bytes p.1 in
    subst Q c.1 (record { passes = c.0; front = take y.1 bytes; is = element-taken bytes y read; same = sym (take-append-drop y.1 bytes) })

pub element_where-taken : (test : Der → Bool) (bytes : List ℕ) (x : Der × List ℕ) → element_where test bytes ≡ Some x → StandsWhere test x.0 bytes x.1
unfolding element_where
element_where-taken test bytes x h = where-taken test bytes (element_at bytes) x refl h
