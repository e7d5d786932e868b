-- What filters leave of what lists are made of.
use Rattle.std.specs.List.{filter, filter_map, cons_option, list_any, position_or_len, AllZip}
use Rattle.std.proofs.Common.{◌≡◌, ◌+◌, List, [], ◌∷◌, Bool, true}
use Rattle.std.proofs.Common.{false, cond, not, ◌&&◌, ◌||◌, Option, Some, None, refl, sym, ap, ◌∙◌}
use Rattle.std.proofs.lemmas.List.Elements.{filter_agree}

-- ---- a filter after another

both_step : {A : Type 0} (k : A → Bool) (a : A) (xs ys : List A) (b c : Bool) → k a ≡ c → xs ≡ filter k ys
    → cond (b && c) (a ∷ xs) xs ≡ filter k (cond b (a ∷ ys) ys)
both_step {A} k a xs ys true true e next = rw e (ap (λ (l : List A). a ∷ l) next)
both_step {A} k a xs ys true false e next = rw e next
both_step {A} k a xs ys false c e next = next

pub filter_both : {A : Type 0} (p k : A → Bool) (xs : List A) → filter (λ a. p a && k a) xs ≡ filter k (filter p xs)
filter_both p k [] = refl
filter_both p k (a ∷ xs) = both_step k a (filter (λ a. p a && k a) xs) (filter p xs) (p a) (k a) refl (filter_both p k xs)

changed_over : (k p q : Bool) → (k ≡ true → q ≡ p) → (k && q) ≡ (p && k)
changed_over true true q same = same refl
changed_over true false q same = same refl
changed_over false true q same = refl
changed_over false false q same = refl

-- where the tests agree on what is kept
pub filter_kept : {A : Type 0} (keeps p q : A → Bool) → ((a : A) → keeps a ≡ true → q a ≡ p a) → (xs : List A)
    → filter q (filter keeps xs) ≡ filter keeps (filter p xs)
filter_kept keeps p q same xs =
    sym (filter_both keeps q xs)
    ∙ filter_agree (λ a. keeps a && q a) (λ a. p a && keeps a) (λ a. changed_over (keeps a) (p a) (q a) (same a)) xs
    ∙ filter_both p keeps xs

left_out : (p test : Bool) → (test ≡ true → p ≡ true) → (p && test) ≡ test
left_out true test within = refl
left_out false true within = within refl
left_out false false within = refl

-- after one that keeps all that it keeps
pub filter_within : {A : Type 0} (test p : A → Bool) → ((a : A) → test a ≡ true → p a ≡ true) → (xs : List A)
    → filter test (filter p xs) ≡ filter test xs
filter_within test p within xs =
    sym (filter_both p test xs) ∙ filter_agree (λ a. p a && test a) test (λ a. left_out (p a) (test a) (within a)) xs

pub filter_all : {A : Type 0} (xs : List A) → filter (λ a. true) xs ≡ xs
filter_all [] = refl
filter_all {A} (a ∷ xs) = ap (λ (l : List A). a ∷ l) (filter_all xs)

-- ---- what is made of the elements

module _ {A B : Type 0} (f g : A → Option B) (keeps : A → Bool) (k : B → Bool)
    (same : (a : A) → keeps a ≡ true → g a ≡ f a) (kept : (a : A) (b : B) → f a ≡ Some b → k b ≡ keeps a) where
  map_step : (a : A) (xs : List A) (ys : List B) (c : Bool) (o : Option B) → keeps a ≡ c → f a ≡ o → filter_map g xs ≡ filter k ys
      → filter_map g (cond c (a ∷ xs) xs) ≡ filter k (cons_option o ys)
  map_step a xs ys true None e i next = rw (same a e ∙ i) next
  map_step a xs ys true (Some b) e i next = rw (same a e ∙ i, kept a b i ∙ e) (ap (λ (l : List B). b ∷ l) next)
  map_step a xs ys false None e i next = next
  map_step a xs ys false (Some b) e i next = rw (kept a b i ∙ e) next

  pub filter_map_kept : (xs : List A) → filter_map g (filter keeps xs) ≡ filter k (filter_map f xs)
  filter_map_kept [] = refl
  filter_map_kept (a ∷ xs) = map_step a (filter keeps xs) (filter_map f xs) (keeps a) (f a) refl refl (filter_map_kept xs)

-- ---- lists side by side

module _ {A B : Type 0} (R : A → B → Type 0) where
  pub any_beside : (p : A → Bool) (q : B → Bool) → ((a : A) (b : B) → R a b → q b ≡ p a) → (xs : List A) (ys : List B) → AllZip R xs ys
      → list_any q ys ≡ list_any p xs
  any_beside p q h [] [] z = refl
  any_beside p q h [] (y ∷ ys) z = absurd z
  any_beside p q h (x ∷ xs) [] z = absurd z
  any_beside p q h (x ∷ xs) (y ∷ ys) z = ap (λ b. b || list_any q ys) (h x y z.0) ∙ ap (λ b. p x || b) (any_beside p q h xs ys z.1)

  pub position_beside : (p : A → Bool) (q : B → Bool) → ((a : A) (b : B) → R a b → q b ≡ p a) → (xs : List A) (ys : List B) → AllZip R xs ys
      → position_or_len q ys ≡ position_or_len p xs
  position_beside p q h [] [] z = refl
  position_beside p q h [] (y ∷ ys) z = absurd z
  position_beside p q h (x ∷ xs) [] z = absurd z
  position_beside p q h (x ∷ xs) (y ∷ ys) z =
      ap (λ n. cond (not (q y)) (1 + n) 0) (position_beside p q h xs ys z.1)
      ∙ ap (λ b. cond (not b) (1 + position_or_len p xs) 0) (h x y z.0)
