-- Ascending lists: an insert keeps the order, and two with the same elements are equal.
use Rattle.std.specs.List.{AllByRecursion}
use Rattle.std.specs.List.Sorted.{IsStrictlySortedBy}
use Rattle.std.specs.declared.cmp.Ordering.{Ordering}
use Rattle.std.specs.declared.cmp.Ordering.TheVariants.{Less, Equal, Greater}
use Rattle.std.specs.Ordering.{is_gt, is_lt, match_ordering, ordering_reverse}
use Rattle.std.specs.Cmp.{IsTotalOrder}
use Rattle.std.specs.BTreeSet.{insert_key}
use Rattle.std.proofs.Common.{◌≡◌, ℕ, inl, inr, List, [], ◌∷◌, true, false, refl, sym, ap, ◌∙◌, subst}
use Rattle.std.proofs.lemmas.Bool.{true≢false}
use Rattle.std.proofs.lemmas.Cmp.{nat_list_cmp_total, tied_itself}
use Rattle.ident_core.specs.Among.{Among}
use Rattle.ident_core.specs.Order.{octets_cmp}

pub all_weaker : {K : Type 0} (P Q : K → Type 0) → ((x : K) → P x → Q x) → (xs : List K) → AllByRecursion P xs → AllByRecursion Q xs
all_weaker P Q f [] h = tt
all_weaker P Q f (x ∷ xs) h = (f x h.0, all_weaker P Q f xs h.1)

pub all_among : {K : Type 0} (P : K → Type 0) (xs : List K) (x : K) → AllByRecursion P xs → Among xs x → P x
all_among P [] x h a = absurd a
all_among P (y ∷ xs) x h (inl e) = subst P e h.0
all_among P (y ∷ xs) x h (inr a) = all_among P xs x h.1 a

pub sorted_tail : {K : Type 0} (cmp : K → K → Ordering) (y : K) (ys : List K) → IsStrictlySortedBy cmp (y ∷ ys) → IsStrictlySortedBy cmp ys
unfolding IsStrictlySortedBy
sorted_tail cmp y ys h = h.1

pub sorted_head : {K : Type 0} (cmp : K → K → Ordering) (y : K) (ys : List K) (z : K) → IsStrictlySortedBy cmp (y ∷ ys) → Among ys z → cmp y z ≡ Less
unfolding IsStrictlySortedBy
sorted_head cmp y ys z h a = all_among (λ w. cmp y w ≡ Less) ys z h.0 a

module _ {K : Type 0} (cmp : K → K → Ordering) (total : IsTotalOrder cmp) where
  all_placed : (o : Ordering) (P : K → Type 0) (x y : K) (ys more : List K) → AllByRecursion P (y ∷ ys) → P x → AllByRecursion P more
      → AllByRecursion P (match_ordering o (x ∷ y ∷ ys) (y ∷ ys) (y ∷ more))
  all_placed Less P x y ys more h p m = (p, h)
  all_placed Equal P x y ys more h p m = h
  all_placed Greater P x y ys more h p m = (h.0, m)

  pub all_insert : (P : K → Type 0) (x : K) (ys : List K) → AllByRecursion P ys → P x → AllByRecursion P (insert_key cmp ys x)
  all_insert P x [] h p = (p, tt)
  all_insert P x (y ∷ ys) h p = all_placed (cmp x y) P x y ys (insert_key cmp ys x) h p (all_insert P x ys h.1 p)

  pub below_back : (x y : K) → cmp x y ≡ Greater → cmp y x ≡ Less
  below_back x y h = total.antisymm y x ∙ ap ordering_reverse h

  sorted_placed : (o : Ordering) (x y : K) (ys : List K) → cmp x y ≡ o → IsStrictlySortedBy cmp (y ∷ ys) → IsStrictlySortedBy cmp (insert_key cmp ys x)
      → IsStrictlySortedBy cmp (match_ordering o (x ∷ y ∷ ys) (y ∷ ys) (y ∷ insert_key cmp ys x))
  unfolding IsStrictlySortedBy
  sorted_placed Less x y ys e h m = ((e, all_weaker (λ z. cmp y z ≡ Less) (λ z. cmp x z ≡ Less) (λ z l. total.trans x y z e l) ys h.0), h)
  sorted_placed Equal x y ys e h m = h
  sorted_placed Greater x y ys e h m = (all_insert (λ z. cmp y z ≡ Less) x ys h.0 (below_back x y e), m)

  pub sorted_none : IsStrictlySortedBy cmp []
  unfolding IsStrictlySortedBy
  sorted_none = tt

  pub sorted_insert : (x : K) (ys : List K) → IsStrictlySortedBy cmp ys → IsStrictlySortedBy cmp (insert_key cmp ys x)
  unfolding IsStrictlySortedBy
  sorted_insert x [] h = (tt, tt)
  sorted_insert x (y ∷ ys) h = sorted_placed (cmp x y) x y ys refl h (sorted_insert x ys (sorted_tail cmp y ys h))

  pub not_below_itself : (x y : K) → cmp x y ≡ Less → x ≡ y → ⊥
  not_below_itself x y h e = let l : cmp x x ≡ Less = ap (cmp x) e ∙ h in let t : cmp x x ≡ Equal = tied_itself total x in absurd cc

  pub heads_same : (x y : K) (xs ys : List K) → IsStrictlySortedBy cmp (x ∷ xs) → IsStrictlySortedBy cmp (y ∷ ys) → Among (y ∷ ys) x → Among (x ∷ xs) y → x ≡ y
  heads_same x y xs ys s t (inl e) b = sym e
  heads_same x y xs ys s t (inr a) (inl e) = e
  heads_same x y xs ys s t (inr a) (inr b) = absurd (not_below_itself x x (total.trans x y x (sorted_head cmp x xs y s b) (sorted_head cmp y ys x t a)) refl)

  pub among_tail : (x y z : K) (xs ys : List K) → x ≡ y → IsStrictlySortedBy cmp (x ∷ xs) → Among xs z → Among (y ∷ ys) z → Among ys z
  among_tail x y z xs ys e s a (inl i) = absurd (not_below_itself x z (sorted_head cmp x xs z s a) (e ∙ i))
  among_tail x y z xs ys e s a (inr b) = b

  pub sorted_unique : (xs ys : List K) → IsStrictlySortedBy cmp xs → IsStrictlySortedBy cmp ys → ((z : K) → Among xs z → Among ys z) → ((z : K) → Among ys z → Among xs z) → xs ≡ ys
  sorted_unique [] [] s t f g = refl
  sorted_unique [] (y ∷ ys) s t f g = absurd (g y (inl refl))
  sorted_unique (x ∷ xs) [] s t f g = absurd (f x (inl refl))
  sorted_unique (x ∷ xs) (y ∷ ys) s t f g =
      let e : x ≡ y = heads_same x y xs ys s t (f x (inl refl)) (g y (inl refl)) in
      let rest : xs ≡ ys =
      sorted_unique xs ys (sorted_tail cmp x xs s) (sorted_tail cmp y ys t) (λ z a. among_tail x y z xs ys e s a (f z (inr a))) (λ z a. among_tail y x z ys xs (sym e) t a (g z (inr a))) in
      λ i. e i ∷ rest i

pub no_gt : (a b : List ℕ) → is_lt (octets_cmp a b) ≡ false → is_gt (octets_cmp b a) ≡ false
no_gt a b h = by (octets_cmp b a) (ap is_lt (sym (nat_list_cmp_total.antisymm a b)) ∙ h)
  where
    by : (o : Ordering) → is_lt (ordering_reverse o) ≡ false → is_gt o ≡ false
    by Less g = refl
    by Equal g = refl
    by Greater g = absurd (true≢false g)

pub lt_less : (o : Ordering) → is_lt o ≡ true → o ≡ Less
lt_less Less h = refl
lt_less Equal h = absurd (true≢false (sym h))
lt_less Greater h = absurd (true≢false (sym h))
