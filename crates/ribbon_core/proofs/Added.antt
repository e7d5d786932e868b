-- What a system keeps after a list of adds.
use Rattle.std.proofs.Common.{ℕ, ◌<◌, ◌↔◌, List, [], ◌∷◌, ◌++◌}
use Rattle.std.specs.Prelude.{IsPermutation}
use Rattle.std.specs.List.{All}
use Rattle.std.proofs.lemmas.List.Elements.{All-nil, All-cons, All-head, All-tail, All-append}
use Rattle.std.proofs.lemmas.List.Sorted.{All-permutation, IsPermutation-sym}
use Rattle.ribbon_core.specs.Equations.{Equation, AreAdded, IsContradicted, IsSolvable, Least, Solves, SolvesAll}
use Rattle.ribbon_core.proofs.LeastLaws.{least_same}

front_holds : {X : Type 0} (P : X → Type 0) (xs ys : List X) → All P (xs ++ ys) → All P xs
front_holds P [] ys h = All-nil P
front_holds P (x ∷ xs) ys h = All-cons P x xs (All-head P x (xs ++ ys) h) (front_holds P xs ys (All-tail P x (xs ++ ys) h))

back_holds : {X : Type 0} (P : X → Type 0) (xs ys : List X) → All P (xs ++ ys) → All P ys
back_holds P [] ys h = h
back_holds P (x ∷ xs) ys h = back_holds P xs ys (All-tail P x (xs ++ ys) h)

module _ (plane Z : ℕ) where
  pub added_solutions : (before es after : List Equation) → AreAdded before es after → SolvesAll plane after Z ↔ (SolvesAll plane before Z × SolvesAll plane es Z)
  added_solutions before [] after same = rw (← same) (λ s. (s, All-nil (λ e. Solves plane e Z)), λ p. p.0)
  added_solutions before (e ∷ es) after (next, one, rest) =
      let more = added_solutions next es after rest in
      let first = one plane Z in (
        λ s.
            let p = more.0 s in
            let q = first.0 p.0 in
            (q.0, All-cons (λ e. Solves plane e Z) e es q.1 p.1),
        λ p. more.1 (first.1 (p.0, All-head (λ e. Solves plane e Z) e es p.1), All-tail (λ e. Solves plane e Z) e es p.1),
      )

  pub kept_solutions : (es kept : List Equation) → AreAdded [] es kept → SolvesAll plane kept Z ↔ SolvesAll plane es Z
  kept_solutions es kept added =
      let h = added_solutions [] es kept added in
      (λ s. (h.0 s).1, λ s. h.1 (All-nil (λ e. Solves plane e Z), s))

  permuted_solutions : (es fs : List Equation) → IsPermutation es fs → SolvesAll plane es Z ↔ SolvesAll plane fs Z
  permuted_solutions es fs order = (
    All-permutation (λ e. Solves plane e Z) es fs order,
    All-permutation (λ e. Solves plane e Z) fs es (IsPermutation-sym es fs order),
  )

-- the same equations in another order have the same least solution
pub kept_least : (es fs kept : List Equation) → AreAdded [] es kept → IsPermutation es fs → (plane Z : ℕ) → Least plane kept Z ↔ Least plane fs Z
kept_least es fs kept added order plane Z =
    let same : (Y : ℕ) → SolvesAll plane kept Y ↔ SolvesAll plane fs Y = λ Y.
    let k = kept_solutions plane Y es kept added in
    let p = permuted_solutions plane Y es fs order in
    (λ s. p.0 (k.0 s), λ s. k.1 (p.1 s)) in (
      least_same plane kept fs Z same,
      least_same plane fs kept Z (λ Y. let s = same Y in (s.1, s.0)),
    )

-- a refusal comes where the equations added and the new one have no solution
pub refused_is_unsolvable : (planes : ℕ) (es kept : List Equation) (e : Equation) → AreAdded [] es kept
    → IsContradicted planes kept e ↔ ((plane : ℕ) × (plane < planes) × (IsSolvable plane (es ++ e ∷ []) → ⊥))
refused_is_unsolvable planes es kept e added = (
  λ c. (
    c.0,
    c.1,
    λ solution.
        let P : Equation → Type 0 = λ e. Solves c.0 e solution.0 in
        let k = kept_solutions c.0 solution.0 es kept added in
        c.2 solution.0 (k.1 (front_holds P es (e ∷ []) solution.1)) (All-head P e [] (back_holds P es (e ∷ []) solution.1)),
  ),
  λ c. (
    c.0,
    c.1,
    λ Z s t.
        let P : Equation → Type 0 = λ e. Solves c.0 e Z in
        let k = kept_solutions c.0 Z es kept added in
        c.2 (Z, All-append P es (e ∷ []) (k.0 s) (All-cons P e [] t (All-nil P))),
  ),
)
