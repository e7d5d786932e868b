-- The group of an issuer, cut from an ascending list.
use Rattle.std.specs.List.{AllZip}
use Rattle.std.specs.List.Sorted.{IsStrictlySortedBy, IsPartitionedBy}
use Rattle.std.specs.Prelude.{IfOk, MatchResult, Ok, Err}
use Rattle.std.specs.declared.result.Result.{Result}
use Rattle.std.specs.declared.cmp.Ordering.TheVariants.{Less, Equal}
use Rattle.std.specs.Ordering.{nat_cmp, is_lt, ordering_then}
use Rattle.std.proofs.Common.{◌≡◌, ℕ, zero, suc, ◌+◌, ◌-◌, ◌≤◌, ◌<◌, ◌⊎◌, inl, inr, ⊎_elim, List, [], ◌∷◌, ◌++◌, map, length, get_or, take, drop, Bool, true}
use Rattle.std.proofs.Common.{refl, sym, ap, ◌∙◌, subst, arith}
use Rattle.std.proofs.lemmas.Cmp.{nat_list_cmp_total}
use Rattle.std.proofs.lemmas.List.{take_all, length-drop, length-map, map-append}
use Rattle.std.proofs.lemmas.Map.Lookups.{exact_bytes}
use Rattle.ident_core.specs.declared.identity.Identity.{Identity}
use Rattle.ident_core.specs.Order.{octets_cmp, identity_cmp}
use Rattle.ident_core.proofs.Sets.{identity_total, identity_exact}
use Rattle.ident_core.proofs.Keys.{below_later, take_is}
use Rattle.ident_core.proofs.Runs.{then_less}
use Rattle.ident_core.proofs.Order.{lt_less}
use Rattle.universe_core.specs.Groups.{GroupFields, members_of}
use Rattle.universe_core.specs.Members.{group_with}
use Rattle.ident_core.proofs.Keyed.{get_map}

abbrev pub is_below : List ℕ → Identity → Bool
is_below k x = is_lt (octets_cmp x.issuer k)

pub earlier : (k : List ℕ) (x y : Identity) → identity_cmp x y ≡ Less → is_below k y ≡ true → is_below k x ≡ true
earlier k x y l b =
    let m : octets_cmp y.issuer k ≡ Less = lt_less (octets_cmp y.issuer k) b in
    ⊎_elim (λ (o : octets_cmp x.issuer y.issuer ≡ Less). ap is_lt (nat_list_cmp_total.trans x.issuer y.issuer k o m))
    (λ (o : octets_cmp x.issuer y.issuer ≡ Equal). subst (λ (z : List ℕ). is_lt (octets_cmp z k) ≡ true) (sym (exact_bytes x.issuer y.issuer o)) b)
    (then_less (octets_cmp x.issuer y.issuer) (ordering_then (nat_cmp (length x.serial) (length y.serial)) (octets_cmp x.serial y.serial)) l)

pub place_cases : (i j : ℕ) → i ≤ j → (i ≡ j) ⊎ (i < j)
place_cases zero zero h = inl refl
place_cases zero (suc j) h = inr (omega arith)
place_cases (suc i) zero h = absurd (omega arith)
place_cases (suc i) (suc j) h = ⊎_elim (λ (e : i ≡ j). inl (ap suc e)) (λ l. inr (omega arith)) (place_cases i j (omega arith))

-- a test that holds of each identity below one that it holds of
partitioned : (p : Identity → Bool) → ((x y : Identity) → identity_cmp x y ≡ Less → p y ≡ true → p x ≡ true) → (xs : List Identity) → IsStrictlySortedBy identity_cmp xs → IsPartitionedBy p xs
partitioned p below xs s i j d le lt h =
    ⊎_elim (λ (e : i ≡ j). subst (λ n. p (get_or xs n d) ≡ true) (sym e) h)
    (λ (l : i < j). below (get_or xs i d) (get_or xs j d) (below_later identity_cmp identity_total identity_exact xs s i j d l lt) h)
    (place_cases i j le)

pub keyed_partitioned : {A : Type 0} (key : A → Identity) (p : Identity → Bool) → ((x y : Identity) → identity_cmp x y ≡ Less → p y ≡ true → p x ≡ true)
    → (xs : List A) → IsStrictlySortedBy identity_cmp (map key xs) → IsPartitionedBy (λ (x : A). p (key x)) xs
keyed_partitioned key p below xs s i j d le lt h =
    let n = length-map xs key in
    subst (λ y. p y ≡ true) (get_map key xs i d)
    (partitioned p below (map key xs) s i j (key d) le (omega arith) (subst (λ y. p y ≡ true) (sym (get_map key xs j d)) h))

-- ---- the group

pub group_from : (h : Identity → Bool) (k : List ℕ) (xs universe : List Identity) (flags : List Bool) → universe ≡ members_of k xs → flags ≡ map h (members_of k xs)
    → ◌≡◌ {A = GroupFields} (record { issuer = k; universe = universe; revoked = flags }) (group_with h xs k)
group_from h k xs universe flags u f = λ i. record { issuer = k; universe = u i; revoked = f i }

-- ---- as slices cut them

pub rest_is : {A : Type 0} (xs : List A) (start : ℕ) → take (length xs - start) (drop start xs) ≡ drop start xs
rest_is xs start = take_all (length xs - start) (drop start xs) (omega (arith, length-drop start xs))

-- one more of what is made of each
pub made_more : {A B C : Type 0} (g : A → C) (f : B → C) (xs : List A) (i : ℕ) (x : A) (old new : List B) (y : B) → i < length xs → x ≡ get_or xs i x
    → map f old ≡ map g (take i xs) → f y ≡ g x → new ≡ old ++ y ∷ [] → map f new ≡ map g (take (i + 1) xs)
made_more g f xs i x old new y l e a b n =
    ap (map f) n ∙ map-append f old (y ∷ []) ∙ ap (λ z. z ++ f y ∷ []) a ∙ ap (λ z. map g (take i xs) ++ z ∷ []) b ∙ sym (ap (map g) (take_is xs i x l e) ∙ map-append g (take i xs) (x ∷ []))

pub made_all : {A C : Type 0} (g : A → C) (xs : List A) (i : ℕ) → length xs ≤ i → map g (take i xs) ≡ map g xs
made_all g xs i l = ap (map g) (take_all i xs l)

-- ---- what is made of each, where nothing failed

made_ok : {A B C : Type 0} (E : Type 0) (g : A → C) (f : B → C) (xs : List A) (ys : List B) → AllZip (λ x (r : Result B E). IfOk r (λ y. f y ≡ g x)) xs (map Ok ys)
    → map f ys ≡ map g xs
made_ok E g f [] [] h = refl
made_ok E g f [] (y ∷ ys) h = absurd h
made_ok E g f (x ∷ xs) [] h = absurd h
made_ok E g f (x ∷ xs) (y ∷ ys) h = ap (λ z. z ∷ map f ys) h.0 ∙ ap (λ zs. g x ∷ zs) (made_ok E g f xs ys h.1)

pub collected_ok : {A B C E V : Type 0} (g : A → C) (f : B → C) (items : V → List B) (xs : List A) (rs : List (Result B E)) (r : Result V E) (bad : E → Type 0)
    → MatchResult r (λ v. (ys : List B) × (rs ≡ map Ok ys) × (items v ≡ ys)) bad
    → AllZip (λ x (s : Result B E). IfOk s (λ y. f y ≡ g x)) xs rs → IfOk r (λ v. map f (items v) ≡ map g xs)
collected_ok {E = E} g f items xs rs (Ok v) bad m a =
    ap (map f) m.2 ∙ made_ok E g f xs m.0 (subst (λ zs. AllZip (λ x (s : Result _ E). IfOk s (λ y. f y ≡ g x)) xs zs) m.1 a)
collected_ok g f items xs rs (Err e) bad m a = tt
