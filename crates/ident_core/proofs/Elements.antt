-- Elements of lists.
use Rattle.std.specs.List.{list_any, list_all, filter, filter_map, cons_option, slice_get, AllZip}
use Rattle.std.proofs.Common.{◌≡◌, ℕ, zero, suc, ◌⊎◌, inl, inr, ⊎_elim, List, [], ◌∷◌, ◌++◌, map, Bool, true, false, cond, Option, Some, None, refl, sym, ap, ◌∙◌, subst}
use Rattle.std.proofs.lemmas.Bool.{or_cases, or_left, or_right, and_parts, and_from, false≢true}
use Rattle.ident_core.specs.Among.{Among}

pub Among-left : {A : Type 0} (xs ys : List A) (x : A) → Among xs x → Among (xs ++ ys) x
Among-left [] ys x h = absurd h
Among-left (z ∷ xs) ys x (inl e) = inl e
Among-left (z ∷ xs) ys x (inr h) = inr (Among-left xs ys x h)

pub Among-right : {A : Type 0} (xs ys : List A) (x : A) → Among ys x → Among (xs ++ ys) x
Among-right [] ys x h = h
Among-right (z ∷ xs) ys x h = inr (Among-right xs ys x h)

pub Among-push : {A : Type 0} (xs : List A) (x : A) → Among (xs ++ x ∷ []) x
Among-push xs x = Among-right xs (x ∷ []) x (inl refl)

pub Among-cases : {A : Type 0} (xs ys : List A) (x : A) → Among (xs ++ ys) x → Among xs x ⊎ Among ys x
Among-cases [] ys x h = inr h
Among-cases (z ∷ xs) ys x (inl e) = inl (inl e)
Among-cases (z ∷ xs) ys x (inr h) = ⊎_elim (λ a. inl (inr a)) (λ b. inr b) (Among-cases xs ys x h)

pub Among-push_cases : {A : Type 0} (xs : List A) (y x : A) → Among (xs ++ y ∷ []) x → Among xs x ⊎ (y ≡ x)
Among-push_cases xs y x h = ⊎_elim (λ a. inl a) (λ b. ⊎_elim (λ e. inr e) (λ n. absurd n) b) (Among-cases xs (y ∷ []) x h)

among_step : {A : Type 0} (p : A → Bool) (y : A) (xs : List A) (x : A) (b : Bool) → p y ≡ b → (Among (filter p xs) x → Among xs x × (p x ≡ true))
    → Among (cond b (y ∷ filter p xs) (filter p xs)) x → Among (y ∷ xs) x × (p x ≡ true)
among_step p y xs x true e next (inl i) = (inl i, subst (λ z. p z ≡ true) i e)
among_step p y xs x true e next (inr h) = let n = next h in (inr n.0, n.1)
among_step p y xs x false e next h = let n = next h in (inr n.0, n.1)

pub Among-filter : {A : Type 0} (p : A → Bool) (xs : List A) (x : A) → Among (filter p xs) x → Among xs x × (p x ≡ true)
Among-filter p [] x h = absurd h
Among-filter p (y ∷ xs) x h = among_step p y xs x (p y) refl (Among-filter p xs x) h

pub Among-in_filter : {A : Type 0} (p : A → Bool) (xs : List A) (x : A) → Among xs x → p x ≡ true → Among (filter p xs) x
Among-in_filter p [] x h e = absurd h
Among-in_filter p (y ∷ xs) x (inl i) e = rw (i, e) (inl refl)
Among-in_filter p (y ∷ xs) x (inr h) e = elim (p y) as (λ b. Among (cond b (y ∷ filter p xs) (filter p xs)) x) [ true ↦ inr (Among-in_filter p xs x h e) | false ↦ Among-in_filter p xs x h e ]

pub Among-map : {A B : Type 0} (f : A → B) (xs : List A) (y : B) → Among (map f xs) y → (x : A) × Among xs x × (f x ≡ y)
Among-map f [] y h = absurd h
Among-map f (x ∷ xs) y (inl e) = (x, inl refl, e)
Among-map f (x ∷ xs) y (inr h) = let n = Among-map f xs y h in (n.0, inr n.1, n.2)

pub Among-in_map : {A B : Type 0} (f : A → B) (xs : List A) (x : A) → Among xs x → Among (map f xs) (f x)
Among-in_map f [] x h = absurd h
Among-in_map f (y ∷ xs) x (inl e) = inl (ap f e)
Among-in_map f (y ∷ xs) x (inr h) = inr (Among-in_map f xs x h)

pub found : {A : Type 0} (p : A → Bool) (xs : List A) → list_any p xs ≡ true → (x : A) × Among xs x × (p x ≡ true)
found p [] h = absurd (false≢true h)
found p (x ∷ xs) h = ⊎_elim (λ e. (x, inl refl, e)) (λ e. let n = found p xs e in (n.0, inr n.1, n.2)) (or_cases (p x) (list_any p xs) h)

pub any_at : {A : Type 0} (p : A → Bool) (xs : List A) (x : A) → Among xs x → p x ≡ true → list_any p xs ≡ true
any_at p [] x h e = absurd h
any_at p (y ∷ xs) x (inl i) e = or_left (p y) (list_any p xs) (ap p i ∙ e)
any_at p (y ∷ xs) x (inr h) e = or_right (p y) (list_any p xs) (any_at p xs x h e)

pub all_at : {A : Type 0} (p : A → Bool) (xs : List A) (x : A) → list_all p xs ≡ true → Among xs x → p x ≡ true
all_at p [] x all h = absurd h
all_at p (y ∷ xs) x all (inl i) = ap p (sym i) ∙ (and_parts (p y) (list_all p xs) all).0
all_at p (y ∷ xs) x all (inr h) = all_at p xs x (and_parts (p y) (list_all p xs) all).1 h

pub all_from : {A : Type 0} (p : A → Bool) (xs : List A) → ((x : A) → Among xs x → p x ≡ true) → list_all p xs ≡ true
all_from p [] h = refl
all_from p (x ∷ xs) h = and_from (p x) (list_all p xs) (h x (inl refl)) (all_from p xs (λ y i. h y (inr i)))

-- two tests that are true of the same things are equal
pub bool_same : (a b : Bool) → (a ≡ true → b ≡ true) → (b ≡ true → a ≡ true) → a ≡ b
bool_same true true f g = refl
bool_same true false f g = sym (f refl)
bool_same false true f g = g refl
bool_same false false f g = refl

cons_cases : {A B : Type 0} (h : A → Option B) (x : A) (xs : List A) (y : B) (o : Option B) → h x ≡ o → (Among (filter_map h xs) y → (z : A) × Among xs z × (h z ≡ Some y))
    → Among (cons_option o (filter_map h xs)) y → (z : A) × Among (x ∷ xs) z × (h z ≡ Some y)
cons_cases h x xs y None e next a = let n = next a in (n.0, inr n.1, n.2)
cons_cases h x xs y (Some w) e next (inl i) = (x, inl refl, e ∙ ap Some i)
cons_cases h x xs y (Some w) e next (inr a) = let n = next a in (n.0, inr n.1, n.2)

pub Among-filter_map : {A B : Type 0} (h : A → Option B) (xs : List A) (y : B) → Among (filter_map h xs) y → (x : A) × Among xs x × (h x ≡ Some y)
Among-filter_map h [] y a = absurd a
Among-filter_map h (x ∷ xs) y a = cons_cases h x xs y (h x) refl (Among-filter_map h xs y) a

pub Among-in_filter_map : {A B : Type 0} (h : A → Option B) (xs : List A) (x : A) (y : B) → Among xs x → h x ≡ Some y → Among (filter_map h xs) y
Among-in_filter_map h [] x y a e = absurd a
Among-in_filter_map h (z ∷ xs) x y (inl i) e = rw (i, e) (inl refl)
Among-in_filter_map h (z ∷ xs) x y (inr a) e = elim (h z) as (λ o. Among (cons_option o (filter_map h xs)) y)
    [ None ↦ Among-in_filter_map h xs x y a e | Some w ↦ inr (Among-in_filter_map h xs x y a e) ]

pub zip_left : {A B : Type 0} (R : A → B → Type 0) (xs : List A) (ys : List B) (x : A) → AllZip R xs ys → Among xs x → (y : B) × Among ys y × R x y
zip_left R [] ys x z a = absurd a
zip_left R (w ∷ xs) [] x z a = absurd z
zip_left R (w ∷ xs) (y ∷ ys) x z (inl e) = (y, inl refl, subst (λ v. R v y) e z.0)
zip_left R (w ∷ xs) (y ∷ ys) x z (inr a) = let n = zip_left R xs ys x z.1 a in (n.0, inr n.1, n.2)

pub zip_right : {A B : Type 0} (R : A → B → Type 0) (xs : List A) (ys : List B) (y : B) → AllZip R xs ys → Among ys y → (x : A) × Among xs x × R x y
zip_right R xs [] y z a = absurd a
zip_right R [] (w ∷ ys) y z a = absurd z
zip_right R (x ∷ xs) (w ∷ ys) y z (inl e) = (x, inl refl, subst (λ v. R x v) e z.0)
zip_right R (x ∷ xs) (w ∷ ys) y z (inr a) = let n = zip_right R xs ys y z.1 a in (n.0, inr n.1, n.2)

pub map_agree : {A B : Type 0} (f g : A → B) (xs : List A) → ((x : A) → Among xs x → f x ≡ g x) → map f xs ≡ map g xs
map_agree f g [] h = refl
map_agree f g (x ∷ xs) h = rw (h x (inl refl), map_agree f g xs (λ y a. h y (inr a))) refl

pub map_back : {A B : Type 0} (f : A → B) (g : B → A) (xs : List A) → ((x : A) → g (f x) ≡ x) → map g (map f xs) ≡ xs
map_back f g [] h = refl
map_back f g (x ∷ xs) h = rw (h x, map_back f g xs h) refl

-- ---- the element at a place

pub some_item : {A : Type 0} (x y : A) → ◌≡◌ {A = Option A} (Some x) (Some y) → x ≡ y
some_item x y h = cc

pub Among-from_place : {A : Type 0} (xs : List A) (k : ℕ) (x : A) → slice_get xs k ≡ Some x → Among xs x
Among-from_place [] k x h = absurd cc
Among-from_place (y ∷ xs) zero x h = inl (some_item y x h)
Among-from_place (y ∷ xs) (suc k) x h = inr (Among-from_place xs k x h)
