-- A sort without repeats is the set.
use Rattle.std.specs.Prelude.{Contains}
use Rattle.std.specs.declared.cmp.Ordering.{Ordering}
use Rattle.std.specs.declared.cmp.Ordering.TheVariants.{Less, Equal, Greater}
use Rattle.std.specs.Ordering.{is_eq}
use Rattle.std.specs.List.{AllByRecursion}
use Rattle.std.specs.List.Sorted.{IsStrictlySortedBy}
use Rattle.std.proofs.Common.{◌≡◌, ℕ, ◌<◌, inl, inr, List, [], ◌∷◌, length, get_or, zero, suc, true, refl, arith}
use Rattle.ident_core.specs.Among.{Among}

pub equal_from_is_eq : (o : Ordering) → is_eq o ≡ true → o ≡ Equal
equal_from_is_eq Less e = cc
equal_from_is_eq Equal e = refl
equal_from_is_eq Greater e = cc

pub Among-from_at : {A : Type 0} (xs : List A) (x : A) (k : ℕ) → k < length xs → get_or xs k x ≡ x → Among xs x
Among-from_at [] x k h e = absurd (omega arith)
Among-from_at (y ∷ xs) x zero h e = inl e
Among-from_at (y ∷ xs) x (suc k) h e = inr (Among-from_at xs x k (omega arith) e)

pub Among-from_Contains : {A : Type 0} (xs : List A) (x : A) → Contains xs x → Among xs x
Among-from_Contains xs x c = Among-from_at xs x c.0 c.1 c.2

pub Contains-from_Among : {A : Type 0} (xs : List A) (x : A) → Among xs x → Contains xs x
Contains-from_Among [] x a = absurd a
Contains-from_Among (y ∷ xs) x (inl e) = (0, omega arith, e)
Contains-from_Among (y ∷ xs) x (inr a) = let n = Contains-from_Among xs x a in (suc n.0, omega arith, n.2)

pub all_from : {K : Type 0} (P : K → Type 0) (xs : List K) → ((x : K) → Among xs x → P x) → AllByRecursion P xs
all_from P [] f = tt
all_from P (y ∷ xs) f = (f y (inl refl), all_from P xs (λ x a. f x (inr a)))

pub sorted_cons : {K : Type 0} (cmp : K → K → Ordering) (y : K) (ys : List K) → ((z : K) → Among ys z → cmp y z ≡ Less) → IsStrictlySortedBy cmp ys → IsStrictlySortedBy cmp (y ∷ ys)
unfolding IsStrictlySortedBy
sorted_cons cmp y ys f s = (all_from (λ z. cmp y z ≡ Less) ys f, s)
