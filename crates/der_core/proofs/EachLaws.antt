-- A loop over elements that keeps a tally.
use Rattle.std.proofs.Common.{◌≡◌, ℕ, List, [], ◌∷◌, map, Option, Some, None, Ok, Err, refl, sym, ap, ◌∙◌, subst}
use Rattle.std.specs.Option.{option_map}
use Rattle.der_core.specs.Elements.{Der, Item, items}
use Rattle.der_core.specs.Grammar.{EachIs, AreEach}
use Rattle.der_core.proofs.GrammarLaws.{items-read, items-taken}
use Rattle.octets_core.specs.Walk.{and_more}
use Rattle.der_core.specs.Walk.{each}

-- The tally f stands for the elements that were passed, and `after f xs` is what comes of it once xs have followed.
pub goes_on : {A F R : Type 0} (after : F → List A → R) (grow : F → A → F) → ((f : F) (x : A) (xs : List A) → after f (x ∷ xs) ≡ after (grow f x) xs)
    → (f : F) (x : A) (more : Option (List A)) → option_map (after f) (and_more (Some x) more) ≡ option_map (after (grow f x)) more
goes_on after grow law f x None = refl
goes_on {R = R} after grow law f x (Some xs) = ap (λ (r : R). Some r) (law f x xs)

pub each_goes_on : {A F R : Type 0} (read : Der → Option A) (after : F → List A → R) (grow : F → A → F) → ((f : F) (x : A) (xs : List A) → after f (x ∷ xs) ≡ after (grow f x) xs)
    → (old new : List Item) (e : Der) (x : A) (f : F) → old ≡ Ok e ∷ new → read e ≡ Some x
    → option_map (after f) (each read old) ≡ option_map (after (grow f x)) (each read new)
each_goes_on read after grow law old new e x f front here =
    ap (λ items. option_map (after f) (each read items)) front
    ∙ ap (λ y. option_map (after f) (and_more y (each read new))) here
    ∙ goes_on after grow law f x (each read new)

-- what an option holds that a function made of another
pub from_map : {A B : Type 0} (f : A → B) (r : Option A) (y : B) → option_map f r ≡ Some y → (x : A) × (r ≡ Some x) × (y ≡ f x)
from_map f None y h = cc
from_map f (Some x) y h = (x, refl, cc)

-- the same step, where the loop knows only what the tally takes of the element
pub each_adds : {A B F R : Type 0} (read : Der → Option A) (part : A → B) (after : F → List A → R) (grow : F → B → F)
    → ((f : F) (x : A) (xs : List A) → after f (x ∷ xs) ≡ after (grow f (part x)) xs)
    → (old new : List Item) (e : Der) (y : B) (f : F) → old ≡ Ok e ∷ new → option_map part (read e) ≡ Some y
    → option_map (after f) (each read old) ≡ option_map (after (grow f y)) (each read new)
each_adds read part after grow law old new e y f front here =
    let x = from_map part (read e) y here in
    each_goes_on read after (λ f x. grow f (part x)) law old new e x.0 f front x.1
    ∙ ap (λ y. option_map (after (grow f y)) (each read new)) (sym x.2)

-- A reader of one element gives each value that the element is, and no other.
pub record Reads {A : Type 0} (read : Der → Option A) (R : A → Der → Type 0) : Type 0 where
  pub gives : (x : A) (e : Der) → R x e → read e ≡ Some x
  pub only : (x : A) (e : Der) → read e ≡ Some x → R x e

each-gives : {A : Type 0} (read : Der → Option A) (R : A → Der → Type 0) → Reads read R → (xs : List A) (es : List Der) → EachIs R xs es → each read (map (λ e. Ok e) es) ≡ Some xs
each-gives read R reads [] [] h = refl
each-gives read R reads (x ∷ xs) (e ∷ es) h = rw (reads.gives x e h.0, each-gives read R reads xs es h.1) refl
each-gives read R reads [] (e ∷ es) h = absurd h
each-gives read R reads (x ∷ xs) [] h = absurd h

record TakenEach {A : Type 0} (R : A → Der → Type 0) (xs : List A) (list : List Item) : Type 0 where
  pub es : List Der
  pub is : list ≡ map (λ e. Ok e) es
  pub are : EachIs R xs es

taken-more : {A : Type 0} (R : A → Der → Type 0) (e : Der) (list : List Item) (y : Option A) (more : Option (List A)) (xs : List A)
    → ((x : A) → y ≡ Some x → R x e) → ((ys : List A) → more ≡ Some ys → TakenEach R ys list) → and_more y more ≡ Some xs → TakenEach R xs (Ok e ∷ list)
taken-more R e list None more xs one all h = cc
taken-more R e list (Some x) None xs one all h = cc
taken-more {A} R e list (Some x) (Some ys) xs one all h =
    let rest = all ys refl in
    let same : (x ∷ ys) ≡ xs = cc in
    let P : List A → Type 0 = λ zs. TakenEach R zs (Ok e ∷ list) in
    subst P same (record { es = e ∷ rest.es; is = ap (λ (items : List Item). Ok e ∷ items) rest.is; are = (one x refl, rest.are) })

each-only : {A : Type 0} (read : Der → Option A) (R : A → Der → Type 0) → Reads read R → (list : List Item) (xs : List A) → each read list ≡ Some xs → TakenEach R xs list
each-only {A} read R reads [] xs h =
    let same : [] ≡ xs = cc in
    let P : List A → Type 0 = λ zs. TakenEach R zs [] in
    subst P same (record { es = []; is = refl; are = tt })
each-only read R reads (Err f ∷ list) xs h = cc
each-only read R reads (Ok e ∷ list) xs h =
    taken-more R e list (read e) (each read list) xs (λ x is. reads.only x e is) (λ ys is. each-only read R reads list ys is) h

-- What each of the elements of some contents is, a reader of them gives, and no other.
pub each-read : {A : Type 0} (read : Der → Option A) (R : A → Der → Type 0) → Reads read R → (xs : List A) (contents : List ℕ) → AreEach R xs contents → each read (items contents) ≡ Some xs
each-read read R reads xs contents h = rw (items-read h.each contents h.elements) (each-gives read R reads xs h.each h.are)

pub each-taken : {A : Type 0} (read : Der → Option A) (R : A → Der → Type 0) → Reads read R → (xs : List A) (contents : List ℕ) → each read (items contents) ≡ Some xs → AreEach R xs contents
each-taken read R reads xs contents h =
    let taken = each-only read R reads (items contents) xs h in
    record { each = taken.es; elements = items-taken taken.es contents taken.is; are = taken.are }
