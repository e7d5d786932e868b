-- Places of lists.
use Rattle.std.specs.List.{slice_get, filter_map, cons_option, count_by}
use Rattle.std.specs.Prelude.{is_some}
use Rattle.std.proofs.Common.{◌≡◌, ℕ, zero, suc, ◌+◌, ◌<◌, ◌≤◌, inl, inr, List, [], ◌∷◌, ◌++◌, length, take, drop, cond, Option, Some, None, refl, sym, ap, ◌∙◌, Bool, arith}
use Rattle.std.proofs.lemmas.List.Recursion.{is_count_by}
use Rattle.std.proofs.lemmas.List.Sums.{sum_by-cons}
use Rattle.ident_core.proofs.Elements.{some_item}
use Rattle.ident_core.specs.Among.{Among}

-- a place of a list has an element
pub at_place : {A : Type 0} (xs : List A) (j : ℕ) → j < length xs → (x : A) × (slice_get xs j ≡ Some x)
at_place [] j lt = absurd (omega arith)
at_place (x ∷ xs) zero lt = (x, refl)
at_place (x ∷ xs) (suc j) lt = at_place xs j (omega arith)

-- an element of a list has a place
pub place_of : {A : Type 0} (xs : List A) (x : A) → Among xs x → (j : ℕ) × (slice_get xs j ≡ Some x)
place_of [] x a = absurd a
place_of (y ∷ xs) x (inl e) = (0, ap (λ z. Some z) e)
place_of (y ∷ xs) x (inr a) = let p = place_of xs x a in (suc p.0, p.1)

-- a list is cut at a place
pub cut_at : {A : Type 0} (xs : List A) (j : ℕ) (x : A) → slice_get xs j ≡ Some x → xs ≡ take j xs ++ x ∷ drop (suc j) xs
cut_at [] j x h = absurd cc
cut_at (y ∷ xs) zero x h = ap (λ z. z ∷ xs) (some_item y x h)
cut_at (y ∷ xs) (suc j) x h = ap (λ l. y ∷ l) (cut_at xs j x h)

pub take_at : {A : Type 0} (xs : List A) (j : ℕ) (x : A) → slice_get xs j ≡ Some x → take (j + 1) xs ≡ take j xs ++ x ∷ []
take_at [] j x h = absurd cc
take_at (y ∷ xs) zero x h = ap (λ z. z ∷ []) (some_item y x h)
take_at (y ∷ xs) (suc j) x h =
    let e : suc j + 1 ≡ suc (j + 1) = omega arith in
    ap (λ n. take n (y ∷ xs)) e ∙ ap (λ l. y ∷ l) (take_at xs j x h)

-- as many are left as give something
given : {A B : Type 0} (f : A → Option B) (xs : List A) (o : Option B) → length (cons_option o (filter_map f xs)) ≡ cond (is_some o) (1 + length (filter_map f xs)) (length (filter_map f xs))
given f xs None = refl
given f xs (Some y) = omega arith

pub length-filter_map : {A B : Type 0} (f : A → Option B) (xs : List A) → length (filter_map f xs) ≡ count_by (λ x. is_some (f x)) xs
length-filter_map f xs = is_count_by (λ l. length (filter_map f l)) (λ x. is_some (f x)) refl (λ x l. given f l (f x)) xs

pub count_agree : {A : Type 0} (p q : A → Bool) (xs : List A) → ((x : A) → Among xs x → p x ≡ q x) → count_by p xs ≡ count_by q xs
count_agree p q [] h = refl
count_agree p q (x ∷ xs) h =
    sum_by-cons (λ y. cond (p y) 1 0) x xs ∙ ap (λ b. cond b 1 0 + count_by p xs) (h x (inl refl))
    ∙ ap (λ n. cond (q x) 1 0 + n) (count_agree p q xs (λ y a. h y (inr a))) ∙ sym (sum_by-cons (λ y. cond (q y) 1 0) x xs)
