-- A system after the equations of any list, of keys or of their rows.
use Rattle.std.proofs.Common.{◌≡◌, ℕ, ◌↔◌, List, [], ◌∷◌, ◌++◌, length, map, refl, sym, subst}
use Rattle.std.proofs.lemmas.List.{take_at, drop_at, map-append}
use Rattle.std.proofs.lemmas.List.Elements.{All-take, All-drop, All-head, All-push}
use Rattle.ribbon_core.specs.Equations.{Equation, Solves, SolvesAll}

module _ (plane Z : ℕ) where
  pub solved_front : (xs ys : List Equation) → SolvesAll plane (xs ++ ys) Z → SolvesAll plane xs Z
  solved_front xs ys s = rw (take_at xs ys (length xs) refl) at (All-take (λ e. Solves plane e Z) (length xs) (xs ++ ys) s)

  pub solved_back : (xs ys : List Equation) → SolvesAll plane (xs ++ ys) Z → SolvesAll plane ys Z
  solved_back xs ys s = rw (drop_at xs ys (length xs) refl) at (All-drop (λ e. Solves plane e Z) (length xs) (xs ++ ys) s)

module _ {A : Type 0} (plane Z : ℕ) (f : A → Equation) where
  both_mapped : (xs ys : List A) → SolvesAll plane (map f (xs ++ ys)) Z → SolvesAll plane (map f xs ++ map f ys) Z
  both_mapped xs ys s = subst (λ (es : List Equation). SolvesAll plane es Z) (map-append f xs ys) s

  first_mapped : (xs ys : List A) → SolvesAll plane (map f (xs ++ ys)) Z → SolvesAll plane (map f xs) Z
  first_mapped xs ys s = solved_front plane Z (map f xs) (map f ys) (both_mapped xs ys s)

  last_mapped : (xs : List A) (x : A) → SolvesAll plane (map f (xs ++ (x ∷ []))) Z → Solves plane (f x) Z
  last_mapped xs x s = All-head (λ e. Solves plane e Z) (f x) [] (solved_back plane Z (map f xs) (f x ∷ []) (both_mapped xs (x ∷ []) s))

  push_mapped : (xs : List A) (x : A) → SolvesAll plane (map f xs) Z → Solves plane (f x) Z → SolvesAll plane (map f (xs ++ (x ∷ []))) Z
  push_mapped xs x s h = subst (λ (es : List Equation). SolvesAll plane es Z) (sym (map-append f xs (x ∷ []))) (All-push (λ e. Solves plane e Z) (map f xs) (f x) s h)

  -- B says that the equations before them are solved, and E that those of the system are
  module _ (B E : Type 0) (xs : List A) where
    -- one more
    pub keys_more : (E' : Type 0) (ys : List A) (x : A) → xs ++ (x ∷ []) ≡ ys → E ↔ (B × SolvesAll plane (map f xs) Z)
        → E' ↔ (E × Solves plane (f x) Z) → E' ↔ (B × SolvesAll plane (map f ys) Z)
    keys_more E' ys x is a b = subst (λ (l : List A). E' ↔ (B × SolvesAll plane (map f l) Z)) is (
      λ s. let p = b.0 s in let q = a.0 p.0 in (q.0, push_mapped xs x q.1 p.1),
      λ s. b.1 (a.1 (s.0, first_mapped xs (x ∷ []) s.1), last_mapped xs x s.1),
    )

    pub keys_same : (ys : List A) → xs ≡ ys → E ↔ (B × SolvesAll plane (map f xs) Z) → E ↔ (B × SolvesAll plane (map f ys) Z)
    keys_same ys is a = subst (λ (l : List A). E ↔ (B × SolvesAll plane (map f l) Z)) is a

    -- one is refused, so no columns solve the equations of all
    pub keys_refused : (all rest : List A) (x : A) → all ≡ (xs ++ (x ∷ [])) ++ rest → E ↔ (B × SolvesAll plane (map f xs) Z)
        → (E → Solves plane (f x) Z → ⊥) → B → SolvesAll plane (map f all) Z → ⊥
    keys_refused all rest x is a refused b s =
        let t : SolvesAll plane (map f (xs ++ (x ∷ []))) Z = first_mapped (xs ++ (x ∷ [])) rest (subst (λ (l : List A). SolvesAll plane (map f l) Z) is s) in
        refused (a.1 (b, first_mapped xs (x ∷ []) t)) (last_mapped xs x t)
