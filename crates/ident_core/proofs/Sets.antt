-- Elements of sets of identities and of keys.
use Rattle.std.specs.Str.{bytes_eq}
use Rattle.std.specs.declared.cmp.Ordering.{Ordering}
use Rattle.std.specs.declared.cmp.Ordering.TheVariants.{Less, Equal, Greater}
use Rattle.std.specs.Ordering.{nat_cmp, ordering_then, match_ordering}
use Rattle.std.specs.Cmp.{IsTotalOrder}
use Rattle.std.specs.List.{filter, slice_get}
use Rattle.std.specs.Prelude.{IfSome, IsNone, is_some}
use Rattle.std.specs.List.Sorted.{IsStrictlySortedBy}
use Rattle.std.specs.BTreeSet.{insert_key}
use Rattle.std.proofs.Common.{◌≡◌, ℕ, ◌≤◌, suc, ◌⊎◌, ◌↔◌, inl, inr, ⊎_elim, List, [], ◌∷◌, ◌++◌, length, Bool, true, false, Option, Some, None, refl, sym, ◌∙◌, subst, arith, rules}
use Rattle.std.proofs.lemmas.Slice.Eq.{bytes_eq-Decides}
use Rattle.std.proofs.lemmas.Bool.{and_parts, and_from}
use Rattle.std.proofs.lemmas.Map.Lookups.{CmpEqualImpliesEq, exact_bytes}
use Rattle.std.proofs.lemmas.Cmp.{nat_cmp_total, nat_list_cmp_total, on_total, then_total}
use Rattle.std.proofs.lemmas.List.Kept.{IsStrictlySortedBy-filter}
use Rattle.ident_core.specs.declared.identity.Identity.{Identity}
use Rattle.ident_core.specs.Order.{is_same, octets_cmp, identity_cmp}
use Rattle.ident_core.specs.Among.{Among, IsSetOf}
use Rattle.ident_core.specs.Sets.{has, has_key, set_with, identity_set, key_set}
use Rattle.ident_core.proofs.Elements.{found, any_at, bool_same, Among-left, Among-right, Among-cases, Among-filter, Among-in_filter, Among-from_place}
use Rattle.ident_core.proofs.Order.{sorted_none, sorted_insert, sorted_unique}

pub bytes_same : (a b : List ℕ) → bytes_eq a b ≡ true → a ≡ b
bytes_same a b h = search (rules, bytes_eq-Decides)

pub bytes_refl : (a : List ℕ) → bytes_eq a a ≡ true
bytes_refl a = search (rules, bytes_eq-Decides)

pub same_is : (x y : Identity) → is_same x y ≡ true → x ≡ y
same_is x y h =
    let p = and_parts (bytes_eq x.issuer y.issuer) (bytes_eq x.serial y.serial) h in
    let i : x.issuer ≡ y.issuer = bytes_same x.issuer y.issuer p.0 in
    let s : x.serial ≡ y.serial = bytes_same x.serial y.serial p.1 in
    λ k. record { issuer = i k; serial = s k }

pub same_refl : (x : Identity) → is_same x x ≡ true
same_refl x = and_from (bytes_eq x.issuer x.issuer) (bytes_eq x.serial x.serial) (bytes_refl x.issuer) (bytes_refl x.serial)

pub Among-from_has : (xs : List Identity) (x : Identity) → has xs x ≡ true → Among xs x
Among-from_has xs x h = let f = found (is_same x) xs h in subst (λ y. Among xs y) (sym (same_is x f.0 f.2)) f.1

pub has-from_Among : (xs : List Identity) (x : Identity) → Among xs x → has xs x ≡ true
has-from_Among xs x h = any_at (is_same x) xs x h (same_refl x)

-- ---- sets

module _ {K : Type 0} (cmp : K → K → Ordering) (exact : CmpEqualImpliesEq cmp) where
  placed : (o : Ordering) (x y z : K) (ys more : List K) → cmp x y ≡ o → (Among more z → (x ≡ z) ⊎ Among ys z)
      → Among (match_ordering o (x ∷ y ∷ ys) (y ∷ ys) (y ∷ more)) z → (x ≡ z) ⊎ Among (y ∷ ys) z
  placed Less x y z ys more e next h = h
  placed Equal x y z ys more e next h = inr h
  placed Greater x y z ys more e next (inl i) = inr (inl i)
  placed Greater x y z ys more e next (inr h) = ⊎_elim (λ i. inl i) (λ a. inr (inr a)) (next h)

  pub Among-insert : (x z : K) (ys : List K) → Among (insert_key cmp ys x) z → (x ≡ z) ⊎ Among ys z
  Among-insert x z [] h = h
  Among-insert x z (y ∷ ys) h = placed (cmp x y) x y z ys (insert_key cmp ys x) refl (Among-insert x z ys) h

  placed_in : (o : Ordering) (x y z : K) (ys more : List K) → cmp x y ≡ o → ((x ≡ z) ⊎ Among ys z → Among more z)
      → (x ≡ z) ⊎ Among (y ∷ ys) z → Among (match_ordering o (x ∷ y ∷ ys) (y ∷ ys) (y ∷ more)) z
  placed_in Less x y z ys more e next h = h
  placed_in Equal x y z ys more e next (inl i) = inl (sym (exact x y e) ∙ i)
  placed_in Equal x y z ys more e next (inr h) = h
  placed_in Greater x y z ys more e next (inl i) = inr (next (inl i))
  placed_in Greater x y z ys more e next (inr h) = ⊎_elim (λ i. inl i) (λ a. inr (next (inr a))) h

  pub Among-in_insert : (x z : K) (ys : List K) → (x ≡ z) ⊎ Among ys z → Among (insert_key cmp ys x) z
  Among-in_insert x z [] h = h
  Among-in_insert x z (y ∷ ys) h = placed_in (cmp x y) x y z ys (insert_key cmp ys x) refl (Among-in_insert x z ys) h

module _ {K : Type 0} (cmp : K → K → Ordering) (total : IsTotalOrder cmp) (exact : CmpEqualImpliesEq cmp) where
  pub set_of : (xs : List K) → IsSetOf cmp xs (set_with cmp xs)
  unfolding set_with
  set_of [] = record { ascends = sorted_none cmp total; holds = λ z. (λ a. a, λ a. a) }
  set_of (x ∷ xs) =
      let s = set_of xs in
      record {
        ascends = sorted_insert cmp total x (set_with cmp xs) s.ascends;
        holds = λ z. (
          λ a. ⊎_elim (λ e. inl e) (λ b. inr ((s.holds z).0 b)) (Among-insert cmp exact x z (set_with cmp xs) a),
          λ a. Among-in_insert cmp exact x z (set_with cmp xs) (⊎_elim (λ e. inl e) (λ b. inr ((s.holds z).1 b)) a),
        );
      }

  -- a list has one set
  pub set_is : (xs s : List K) → IsSetOf cmp xs s → s ≡ set_with cmp xs
  set_is xs s a =
      let b = set_of xs in
      sorted_unique cmp total s (set_with cmp xs) a.ascends b.ascends (λ z m. (b.holds z).1 ((a.holds z).0 m)) (λ z m. (a.holds z).1 ((b.holds z).0 m))

  pub set_exactly : (xs s : List K) → IsSetOf cmp xs s ↔ (s ≡ set_with cmp xs)
  set_exactly xs s = (λ a. set_is xs s a, λ e. subst (IsSetOf cmp xs) (sym e) (set_of xs))

  -- the set of the elements that pass a test
  pub set_kept : (keeps : K → Bool) (xs : List K) → set_with cmp (filter keeps xs) ≡ filter keeps (set_with cmp xs)
  set_kept keeps xs =
      let s = set_of xs in
      sym (set_is (filter keeps xs) (filter keeps (set_with cmp xs)) (record {
        ascends = IsStrictlySortedBy-filter cmp keeps (set_with cmp xs) s.ascends;
        holds = λ z. (
          λ m. let f = Among-filter keeps (set_with cmp xs) z m in Among-in_filter keeps xs z ((s.holds z).0 f.0) f.1,
          λ m. let f = Among-filter keeps xs z m in Among-in_filter keeps (set_with cmp xs) z ((s.holds z).1 f.0) f.1,
        );
      }))

insert_few : {K : Type 0} (cmp : K → K → Ordering) (x : K) (ys : List K) → length (insert_key cmp ys x) ≤ suc (length ys)
insert_few cmp x [] = omega arith
insert_few cmp x (y ∷ ys) =
    let n = insert_few cmp x ys in
    elim (cmp x y) as (λ o. length (match_ordering o (x ∷ y ∷ ys) (y ∷ ys) (y ∷ insert_key cmp ys x)) ≤ suc (length (y ∷ ys))) [ Less ↦ omega arith | Equal ↦ omega arith | Greater ↦ omega arith ]

pub set_few : {K : Type 0} (cmp : K → K → Ordering) (xs : List K) → length (set_with cmp xs) ≤ length xs
unfolding set_with
set_few cmp [] = omega arith
set_few cmp (x ∷ xs) = let n = set_few cmp xs in let m = insert_few cmp x (set_with cmp xs) in omega arith

-- ---- identities

pub then_equal : (o p : Ordering) → ordering_then o p ≡ Equal → (o ≡ Equal) × (p ≡ Equal)
then_equal Less p h = absurd cc
then_equal Equal p h = (refl, h)
then_equal Greater p h = absurd cc

pub identity_exact : CmpEqualImpliesEq identity_cmp
identity_exact x y h =
    let a = then_equal (octets_cmp x.issuer y.issuer) (ordering_then (nat_cmp (length x.serial) (length y.serial)) (octets_cmp x.serial y.serial)) h in
    let b = then_equal (nat_cmp (length x.serial) (length y.serial)) (octets_cmp x.serial y.serial) a.1 in
    let i : x.issuer ≡ y.issuer = exact_bytes x.issuer y.issuer a.0 in
    let s : x.serial ≡ y.serial = exact_bytes x.serial y.serial b.1 in
    λ k. record { issuer = i k; serial = s k }

pub identity_total : IsTotalOrder identity_cmp
identity_total =
    then_total (on_total (λ (x : Identity). x.issuer) nat_list_cmp_total)
    (on_total (λ (x : Identity). x.serial) (then_total (on_total (λ (s : List ℕ). length s) nat_cmp_total) nat_list_cmp_total))

pub identities_are : (xs : List Identity) → IsSetOf identity_cmp xs (identity_set xs)
identities_are xs = set_of identity_cmp identity_total identity_exact xs

pub Among-union : (xs ys : List Identity) (z : Identity) → Among (identity_set (xs ++ ys)) z → Among xs z ⊎ Among ys z
Among-union xs ys z h = Among-cases xs ys z (((identities_are (xs ++ ys)).holds z).0 h)

pub Among-in_union : (xs ys : List Identity) (z : Identity) → Among xs z ⊎ Among ys z → Among (identity_set (xs ++ ys)) z
Among-in_union xs ys z h = ((identities_are (xs ++ ys)).holds z).1 (⊎_elim (λ a. Among-left xs ys z a) (λ b. Among-right xs ys z b) h)

-- ---- keys

pub keys_are : (ks : List (List ℕ)) → IsSetOf octets_cmp ks (key_set ks)
keys_are ks = set_of octets_cmp nat_list_cmp_total exact_bytes ks

pub key_set_ascends : (ks : List (List ℕ)) → IsStrictlySortedBy octets_cmp (key_set ks)
key_set_ascends ks = (keys_are ks).ascends

pub Among-from_has_key : (ks : List (List ℕ)) (k : List ℕ) → has_key ks k ≡ true → Among ks k
Among-from_has_key ks k h = let f = found (bytes_eq k) ks h in subst (λ y. Among ks y) (sym (bytes_same k f.0 f.2)) f.1

pub has_key-from_Among : (ks : List (List ℕ)) (k : List ℕ) → Among ks k → has_key ks k ≡ true
has_key-from_Among ks k h = any_at (bytes_eq k) ks k h (bytes_refl k)

-- a search that gives a key's place, or none where there is none, tells whether it is there
pub has_key-from_place : (ks : List (List ℕ)) (k : List ℕ) (o : Option ℕ) → IfSome o (λ i. slice_get ks i ≡ Some k) → (IsNone o → has_key ks k ≡ false) → is_some o ≡ has_key ks k
has_key-from_place ks k (Some i) some none = sym (has_key-from_Among ks k (Among-from_place ks i k some))
has_key-from_place ks k None some none = sym (none refl)

pub Among-key_set : (ks : List (List ℕ)) (k : List ℕ) → Among ks k → Among (key_set ks) k
Among-key_set ks k h = ((keys_are ks).holds k).1 h

pub Among-from_key_set : (ks : List (List ℕ)) (k : List ℕ) → Among (key_set ks) k → Among ks k
Among-from_key_set ks k h = ((keys_are ks).holds k).0 h

pub has_key_set : (ks : List (List ℕ)) (k : List ℕ) → has_key (key_set ks) k ≡ has_key ks k
has_key_set ks k =
    bool_same (has_key (key_set ks) k) (has_key ks k)
    (λ h. has_key-from_Among ks k (Among-from_key_set ks k (Among-from_has_key (key_set ks) k h)))
    (λ h. has_key-from_Among (key_set ks) k (Among-key_set ks k (Among-from_has_key ks k h)))

pub key_set_kept : (keeps : List ℕ → Bool) (ks : List (List ℕ)) → key_set (filter keeps ks) ≡ filter keeps (key_set ks)
key_set_kept keeps ks = set_kept octets_cmp nat_list_cmp_total exact_bytes keeps ks
