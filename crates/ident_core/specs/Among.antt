-- Elements of a list, and the set of them.
use Rattle.std.specs.Prelude.{◌≡◌, ◌⊎◌, ◌↔◌, List, [], ◌∷◌}
use Rattle.std.specs.declared.cmp.Ordering.{Ordering}
use Rattle.std.specs.List.Sorted.{IsStrictlySortedBy}

-- x is an element of the list
abbrev pub Among : {A : Type 0} → List A → A → Type 0
Among [] x = ⊥
Among (y ∷ ys) x = (y ≡ x) ⊎ Among ys x

-- s is the set of xs: the ascending list, without repeats, of the same elements
pub record IsSetOf {K : Type 0} (cmp : K → K → Ordering) (xs s : List K) : Type 0 where
  pub ascends : IsStrictlySortedBy cmp s
  pub holds : (x : K) → Among s x ↔ Among xs x
