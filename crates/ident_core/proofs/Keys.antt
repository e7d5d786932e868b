-- The order of keys and identities, as the code has it.
use Rattle.std.specs.Prelude.{IsSorted, IsNone, IfSome}
use Rattle.std.specs.List.{list_any, slice_get}
use Rattle.std.specs.Result.{result_ok}
use Rattle.std.specs.Str.{bytes_eq}
use Rattle.std.specs.declared.cmp.Ordering.{Ordering}
use Rattle.std.specs.declared.cmp.Ordering.TheVariants.{Less, Equal, Greater}
use Rattle.std.specs.Ordering.{nat_cmp, ordering_then, is_lt, ordering_reverse}
use Rattle.std.specs.List.Sorted.{IsBinarySearchResult, IsSearchInRange, IsStrictlySortedBy}
use Rattle.std.specs.Cmp.{IsTotalOrder}
use Rattle.std.specs.Cmp.Lexicographic.{slice_cmp}
use Rattle.std.proofs.Common.{◌≡◌, ℕ, ◌<◌, ◌+◌, ◌-◌, ◌||◌, zero, suc, List, [], ◌∷◌, ◌++◌, length, get_or, take, replicate, map, Bool, true, false, Result, Ok}
use Rattle.std.proofs.Common.{Err, Some, refl, sym, ap, ◌∙◌, subst, arith, inl, inr}
use Rattle.std.proofs.lemmas.Cmp.{tied_itself}
use Rattle.std.proofs.lemmas.List.Sorted.{searchable_from_sorted}
use Rattle.std.proofs.lemmas.List.{take_more}
use Rattle.std.proofs.lemmas.Bool.{cases_lt, false_from_ne_true, true≢false}
use Rattle.ident_core.specs.declared.identity.Identity.{Identity}
use Rattle.ident_core.specs.Order.{is_same, identity_cmp}
use Rattle.ident_core.proofs.Serials.{serial_cmp}
use Rattle.ident_core.specs.Among.{Among}
use Rattle.ident_core.specs.Sets.{has, has_key}
use Rattle.ident_core.proofs.Sets.{same_is, identity_exact, identity_total, Among-from_has, has-from_Among}
use Rattle.ident_core.proofs.Order.{sorted_head, sorted_tail, not_below_itself}
use Rattle.ident_core.proofs.Canonical.{Contains-from_Among}

-- what the derived order of identities computes to
abbrev pub code_cmp : Identity → Identity → Ordering
code_cmp x y =
    ordering_then (slice_cmp nat_cmp x.issuer y.issuer)
    (ordering_then (nat_cmp (length x.serial) (length y.serial)) (slice_cmp nat_cmp (x.serial ++ replicate (32 - length x.serial) 0) (y.serial ++ replicate (32 - length y.serial) 0)))

pub code_cmp_at : (x y : Identity) → code_cmp x y ≡ identity_cmp x y
code_cmp_at x y = ap (ordering_then (slice_cmp nat_cmp x.issuer y.issuer)) (serial_cmp x.serial y.serial)

pub code_cmp_is : code_cmp ≡ identity_cmp
code_cmp_is = λ i. λ x y. code_cmp_at x y i

pub code_exact : (x y : Identity) → code_cmp x y ≡ Equal → x ≡ y
code_exact x y h = identity_exact x y (sym (code_cmp_at x y) ∙ h)

pub code_total : IsTotalOrder code_cmp
code_total = subst (λ (f : Identity → Identity → Ordering). IsTotalOrder f) (sym code_cmp_is) identity_total

pub not_less : {A : Type 0} (o : Ordering) → o ≡ Equal → o ≡ Less → A
not_less o e l = let bad : Equal ≡ Less = sym e ∙ l in cc

pub not_greater : {A : Type 0} (o : Ordering) → o ≡ Equal → o ≡ Greater → A
not_greater o e l = let bad : Equal ≡ Greater = sym e ∙ l in cc

-- ---- binary search in an ascending list

module _ {K : Type 0} (cmp : K → K → Ordering) (total : IsTotalOrder cmp) (exact : (x y : K) → cmp x y ≡ Equal → x ≡ y) where
  pub among_get : (xs : List K) (k : ℕ) (d : K) → k < length xs → Among xs (get_or xs k d)
  among_get [] k d h = absurd (omega arith)
  among_get (x ∷ xs) zero d h = inl refl
  among_get (x ∷ xs) (suc k) d h = inr (among_get xs k d (omega arith))

  pub below_later : (xs : List K) → IsStrictlySortedBy cmp xs → (i j : ℕ) (d : K) → i < j → j < length xs → cmp (get_or xs i d) (get_or xs j d) ≡ Less
  below_later [] s i j d h l = absurd (omega arith)
  below_later (x ∷ xs) s zero zero d h l = absurd (omega arith)
  below_later (x ∷ xs) s zero (suc j) d h l = sorted_head cmp x xs (get_or xs j d) s (among_get xs j d (omega arith))
  below_later (x ∷ xs) s (suc i) zero d h l = absurd (omega arith)
  below_later (x ∷ xs) s (suc i) (suc j) d h l = below_later xs (sorted_tail cmp x xs s) i j d (omega arith) (omega arith)

  pub not_lt_back : (a b : K) → cmp a b ≡ Less → is_lt (cmp b a) ≡ false
  not_lt_back a b h = ap is_lt (total.antisymm b a ∙ ap ordering_reverse h)

  pub sorted_from_strictly : (xs : List K) → IsStrictlySortedBy cmp xs → IsSorted cmp xs
  sorted_from_strictly xs s k d low h = not_lt_back (get_or xs k d) (get_or xs (k + 1) d) (below_later xs s k (k + 1) d (omega arith) h)

  pub found_at : (xs : List K) (x : K) (i : ℕ) → i < length xs → get_or xs i x ≡ x → slice_get xs i ≡ Some x
  found_at [] x i h e = absurd (omega arith)
  found_at (y ∷ xs) x zero h e = ap Some e
  found_at (y ∷ xs) x (suc i) h e = found_at xs x i (omega arith) e

  pub searched_ok : (xs : List K) (x : K) (i : ℕ) → i < length xs → cmp (get_or xs i x) x ≡ Equal → slice_get xs i ≡ Some x
  searched_ok xs x i b h = found_at xs x i b (exact (get_or xs i x) x h)

  pub searched_err : (xs : List K) (x : K) (i : ℕ) → IsStrictlySortedBy cmp xs → IsBinarySearchResult (λ y. cmp y x) xs (Err i) → Among xs x → ⊥
  searched_err xs x i s h a =
      let k = Contains-from_Among xs x a in
      let p = h (searchable_from_sorted total (λ y. y) xs x (sorted_from_strictly xs s)) in
      let tie : cmp (get_or xs k.0 x) x ≡ Equal = ap (λ y. cmp y x) k.2 ∙ tied_itself total x in
      elim (cases_lt k.0 i) [
        | inl below ↦ not_less _ tie (p.0 k.0 x (omega arith) below)
        | inr above ↦ not_greater _ tie (p.1 k.0 x above k.1)
      ]

  pub searched_some : (xs : List K) (x : K) (r : Result ℕ ℕ) → IsSearchInRange r (length xs) → IsBinarySearchResult (λ y. cmp y x) xs r
      → IfSome (result_ok r) (λ i. slice_get xs i ≡ Some x)
  searched_some xs x (Ok i) w h = searched_ok xs x i w (h x)
  searched_some xs x (Err i) w h = tt

  pub searched_none : (xs : List K) (x : K) (r : Result ℕ ℕ) → IsStrictlySortedBy cmp xs → IsBinarySearchResult (λ y. cmp y x) xs r
      → IsNone (result_ok r) → Among xs x → ⊥
  searched_none xs x (Ok i) s h none = absurd cc
  searched_none xs x (Err i) s h none = searched_err xs x i s h

-- ---- tests over lists

pub or_none : (b : Bool) → (b || false) ≡ (false || b)
or_none true = refl
or_none false = refl

pub or_assoc : (a b c : Bool) → (a || (b || c)) ≡ ((a || b) || c)
or_assoc true b c = refl
or_assoc false b c = refl

pub list_any_push : {A : Type 0} (p : A → Bool) (xs : List A) (y : A) → list_any p (xs ++ y ∷ []) ≡ (list_any p xs || p y)
list_any_push p [] y = or_none (p y)
list_any_push p (x ∷ xs) y = ap (λ b. p x || b) (list_any_push p xs y) ∙ or_assoc (p x) (list_any p xs) (p y)

pub has_key_push : (ks : List (List ℕ)) (k x : List ℕ) → has_key (ks ++ k ∷ []) x ≡ (has_key ks x || bytes_eq x k)
has_key_push ks k x = list_any_push (bytes_eq x) ks k

pub same_other : (x y : Identity) → (x ≡ y → ⊥) → is_same x y ≡ false
same_other x y h = false_from_ne_true (is_same x y) (λ e. h (same_is x y e))

pub less_other : (x y : Identity) → identity_cmp x y ≡ Less → x ≡ y → ⊥
less_other x y h e = not_below_itself identity_cmp identity_total x y h e

-- what is not in the list is none of its elements
pub not_has : (xs : List Identity) (y : Identity) → has xs y ≡ false → (x : Identity) → Among xs x → is_same x y ≡ false
not_has xs y h x a = same_other x y (λ e. absurd (true≢false (sym (has-from_Among xs y (subst (λ z. Among xs z) e a)) ∙ h)))

pub has_none : (xs : List Identity) (y : Identity) → (Among xs y → ⊥) → has xs y ≡ false
has_none xs y f = false_from_ne_true (has xs y) (λ h. f (Among-from_has xs y h))

pub map_same : {A B : Type 0} (f g : A → B) (xs : List A) → ((x : A) → f x ≡ g x) → map f xs ≡ map g xs
map_same f g xs h = ap (λ t. map t xs) (λ i. λ x. h x i)

pub take_is : {A : Type 0} (xs : List A) (i : ℕ) (x : A) → i < length xs → x ≡ get_or xs i x → take (i + 1) xs ≡ take i xs ++ x ∷ []
take_is xs i x h e = take_more xs i x h ∙ ap (λ z. take i xs ++ z ∷ []) (sym e)
