-- Lists that ascend, one behind the other.
use Rattle.std.specs.List.Sorted.{IsStrictlySortedBy}
use Rattle.std.specs.declared.cmp.Ordering.{Ordering}
use Rattle.std.specs.declared.cmp.Ordering.TheVariants.{Less}
use Rattle.std.proofs.Common.{◌≡◌, ℕ, inl, inr, ⊎_elim, List, [], ◌∷◌, ◌++◌, take, drop, refl, sym, subst}
use Rattle.std.proofs.lemmas.List.{take-append-drop}
use Rattle.ident_core.specs.Among.{Among}
use Rattle.ident_core.proofs.Canonical.{sorted_cons}
use Rattle.ident_core.proofs.Elements.{Among-left, Among-cases}
use Rattle.ident_core.proofs.Order.{sorted_head, sorted_tail}

module _ {K : Type 0} (cmp : K → K → Ordering) where
  pub none_ascend : IsStrictlySortedBy cmp []
  unfolding IsStrictlySortedBy
  none_ascend = tt

  pub both_ascend : (xs ys : List K) → IsStrictlySortedBy cmp xs → IsStrictlySortedBy cmp ys → ((x y : K) → Among xs x → Among ys y → cmp x y ≡ Less)
      → IsStrictlySortedBy cmp (xs ++ ys)
  both_ascend [] ys s t f = t
  both_ascend (x ∷ xs) ys s t f =
      sorted_cons cmp x (xs ++ ys) (λ z a. ⊎_elim (λ b. sorted_head cmp x xs z s b) (λ b. f x z (inl refl) b) (Among-cases xs ys z a))
      (both_ascend xs ys (sorted_tail cmp x xs s) t (λ v w a b. f v w (inr a) b))

  pub parts_ascend : (xs ys : List K) → IsStrictlySortedBy cmp (xs ++ ys) → IsStrictlySortedBy cmp xs × IsStrictlySortedBy cmp ys
  parts_ascend [] ys s = (none_ascend, s)
  parts_ascend (x ∷ xs) ys s =
      let rest = parts_ascend xs ys (sorted_tail cmp x (xs ++ ys) s) in
      (sorted_cons cmp x xs (λ z a. sorted_head cmp x (xs ++ ys) z s (Among-left xs ys z a)) rest.0, rest.1)

  pub cut_ascends : (n : ℕ) (xs : List K) → IsStrictlySortedBy cmp xs → IsStrictlySortedBy cmp (take n xs) × IsStrictlySortedBy cmp (drop n xs)
  cut_ascends n xs s = parts_ascend (take n xs) (drop n xs) (subst (IsStrictlySortedBy cmp) (sym (take-append-drop n xs)) s)
