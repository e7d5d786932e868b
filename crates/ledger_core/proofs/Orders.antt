-- Ascending keys and identities, in the layout's tests: each behind the one before it.
use Rattle.std.proofs.Common.{◌≡◌, ℕ, Bool, true, not, List, [], ◌∷◌, Option, Some, None, map, refl, sym, ap, ◌∙◌, subst}
use Rattle.std.specs.List.{AllByRecursion}
use Rattle.std.specs.List.Sorted.{IsStrictlySortedBy}
use Rattle.std.specs.declared.cmp.Ordering.{Ordering}
use Rattle.std.specs.declared.cmp.Ordering.TheVariants.{Less, Equal, Greater}
use Rattle.std.specs.Ordering.{is_lt, ordering_then, ordering_reverse}
use Rattle.std.proofs.lemmas.Cmp.{nat_list_cmp_total}
use Rattle.std.proofs.lemmas.List.{map-id}
use Rattle.octets_core.specs.Linked.{Linked, is_after}
use Rattle.ident_core.specs.declared.identity.Identity.{Identity}
use Rattle.ident_core.specs.Order.{octets_cmp, serial_cmp, identity_cmp}
use Rattle.ledger_core.specs.declared.fields.LedgerItem.{LedgerItem}
use Rattle.ledger_core.specs.LedgerFields.{ids}
use Rattle.ledger_core.specs.LedgerLayout.{is_from, is_behind}

less-lt : (o : Ordering) → o ≡ Less → is_lt o ≡ true
less-lt o e = ap is_lt e

pub lt-less : (o : Ordering) → is_lt o ≡ true → o ≡ Less
lt-less Less h = refl
lt-less Equal h = absurd cc
lt-less Greater h = absurd cc

-- the test of the first, if there is one
abbrev FirstIs : {K X : Type 0} → (X → K) → (Option K → K → Bool) → Option K → List X → Type 0
FirstIs key after previous [] = Unit {0}
FirstIs key after previous (x ∷ xs) = after previous (key x) ≡ true

next-is : {K X : Type 0} (key : X → K) (cmp : K → K → Ordering) (after : Option K → K → Bool) → ((x y : K) → cmp x y ≡ Less → after (Some x) y ≡ true)
    → (x : K) (xs : List X) → AllByRecursion (λ y. cmp x y ≡ Less) (map key xs) → FirstIs key after (Some x) xs
next-is key cmp after less x [] all = tt
next-is key cmp after less x (y ∷ xs) all = less x (key y) all.0

sorted-linked : {K X : Type 0} (key : X → K) (cmp : K → K → Ordering) (after : Option K → K → Bool) → ((x y : K) → cmp x y ≡ Less → after (Some x) y ≡ true)
    → (previous : Option K) (xs : List X) → FirstIs key after previous xs → IsStrictlySortedBy cmp (map key xs)
    → Linked (λ previous x. after previous (key x) ≡ true) (λ previous x. Some (key x)) previous xs
unfolding IsStrictlySortedBy
sorted-linked key cmp after less previous [] first sorted = tt
sorted-linked key cmp after less previous (x ∷ xs) first sorted =
    (first, sorted-linked key cmp after less (Some (key x)) xs (next-is key cmp after less (key x) xs sorted.0) sorted.1)

first-key : (ks : List (List ℕ)) → FirstIs (λ k. k) is_after None ks
first-key [] = tt
first-key (k ∷ ks) = refl

pub keys-linked : (ks : List (List ℕ)) → IsStrictlySortedBy octets_cmp ks → Linked (λ previous k. is_after previous k ≡ true) (λ previous k. Some k) None ks
keys-linked ks sorted =
    sorted-linked (λ k. k) octets_cmp is_after (λ x y e. less-lt (octets_cmp x y) e) None ks (first-key ks) (subst (IsStrictlySortedBy octets_cmp) (sym (map-id ks)) sorted)

first-id : (xs : List LedgerItem) → FirstIs (λ x. x.id) is_behind None xs
first-id [] = tt
first-id (x ∷ xs) = refl

pub ids-linked : (xs : List LedgerItem) → IsStrictlySortedBy identity_cmp (ids xs) → Linked (λ previous x. is_behind previous x.id ≡ true) (λ previous x. Some x.id) None xs
ids-linked xs sorted = sorted-linked (λ x. x.id) identity_cmp is_behind (λ x y e. less-lt (identity_cmp x y) e) None xs (first-id xs) sorted

not-below : (o r : Ordering) → ordering_then o r ≡ Less → not (is_lt (ordering_reverse o)) ≡ true
not-below Less r e = refl
not-below Equal r e = refl
not-below Greater r e = absurd cc

-- an identity behind another has no lesser issuer
pub behind-from : (previous : Option Identity) (id : Identity) → is_behind previous id ≡ true → is_from previous id.issuer ≡ true
behind-from None id h = refl
behind-from (Some p) id h =
    ap (λ o. not (is_lt o)) (nat_list_cmp_total.antisymm id.issuer p.issuer)
    ∙ not-below (octets_cmp p.issuer id.issuer) (serial_cmp p.serial id.serial) (lt-less (identity_cmp p id) h)
