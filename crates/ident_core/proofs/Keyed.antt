-- A binary search among what has keys.
use Rattle.std.specs.List.{slice_get}
use Rattle.std.specs.List.Sorted.{IsStrictlySortedBy, IsBinarySearchResult}
use Rattle.std.specs.declared.cmp.Ordering.{Ordering}
use Rattle.std.specs.declared.cmp.Ordering.TheVariants.{Equal}
use Rattle.std.specs.Ordering.{ordering_index}
use Rattle.std.specs.Cmp.{IsTotalOrder}
use Rattle.std.proofs.Common.{◌≡◌, ℕ, zero, suc, ◌<◌, ◌≤◌, List, [], ◌∷◌, map, length, get_or, Some, Err, refl, ap, ◌∙◌, subst, arith}
use Rattle.std.proofs.lemmas.List.{length-map}
use Rattle.ident_core.specs.Among.{Among}
use Rattle.ident_core.proofs.Keys.{searched_ok, searched_err}

pub get_map : {A B : Type 0} (f : A → B) (xs : List A) (i : ℕ) (d : A) → get_or (map f xs) i (f d) ≡ f (get_or xs i d)
get_map f [] zero d = refl
get_map f [] (suc i) d = refl
get_map f (x ∷ xs) zero d = refl
get_map f (x ∷ xs) (suc i) d = get_map f xs i d

module _ {K A : Type 0} (cmp : K → K → Ordering) (total : IsTotalOrder cmp) (exact : (x y : K) → cmp x y ≡ Equal → x ≡ y)
    (key : A → K) (make : K → A) (back : (x : K) → key (make x) ≡ x) where
  key_at : (ms : List A) (k : ℕ) (x : K) → get_or (map key ms) k x ≡ key (get_or ms k (make x))
  key_at ms k x = subst (λ y. get_or (map key ms) k y ≡ key (get_or ms k (make x))) (back x) (get_map key ms k (make x))

  pub found : (ms : List A) (x : K) (i : ℕ) → i < length ms → ((d : A) → cmp (key (get_or ms i d)) x ≡ Equal) → slice_get (map key ms) i ≡ Some x
  found ms x i l h =
      let n = length-map ms key in
      searched_ok cmp total exact (map key ms) x i (omega arith) (ap (λ y. cmp y x) (key_at ms i x) ∙ h (make x))

  searched : (ms : List A) (x : K) (i : ℕ) → IsBinarySearchResult (λ (m : A). cmp (key m) x) ms (Err i) → IsBinarySearchResult (λ y. cmp y x) (map key ms) (Err i)
  searched ms x i h = λ up.
      let n = length-map ms key in
      let p = h (λ a b d le lt.
      subst (λ y. ordering_index (cmp y x) ≤ ordering_index (cmp (key (get_or ms b d)) x)) (get_map key ms a d)
      (subst (λ y. ordering_index (cmp (get_or (map key ms) a (key d)) x) ≤ ordering_index (cmp y x)) (get_map key ms b d) (up a b (key d) le (omega arith)))) in
      (λ k y lo hi. ap (λ z. cmp z x) (key_at ms k y) ∙ p.0 k (make y) lo hi, λ k y lo hi. ap (λ z. cmp z x) (key_at ms k y) ∙ p.1 k (make y) lo (omega arith))

  pub missed : (ms : List A) (x : K) (i : ℕ) → IsStrictlySortedBy cmp (map key ms) → IsBinarySearchResult (λ (m : A). cmp (key m) x) ms (Err i) → Among (map key ms) x → ⊥
  missed ms x i s h = searched_err cmp total exact (map key ms) x i s (searched ms x i h)
