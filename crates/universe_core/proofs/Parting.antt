-- Lists parted by a test: the elements that pass it in front of the others.
use mir.Val.{bool_byte}
use Rattle.std.proofs.Common.{◌≡◌, ℕ, ◌+◌, ◌≤◌, ◌<◌, inl, inr, List, length, get_or, take, drop, Bool, true, false, sym, ap, ◌∙◌, subst, arith}
use Rattle.std.specs.Prelude.{All}
use Rattle.std.specs.List.{AllWithin, SwappedAt}
use Rattle.std.specs.List.Sorted.{IsPartitionPoint}
use Rattle.std.proofs.lemmas.Bool.{cases_eq}
use Rattle.std.proofs.lemmas.List.{length-take-le, length-drop, get_or-take, get_or-drop}

module _ {X : Type 0} (p : X → Bool) where
  abbrev pub Passes : X → Type 0
  Passes x = p x ≡ true

  abbrev pub Fails : X → Type 0
  Fails x = p x ≡ false

  module _ (xs : List X) (n : ℕ) (within : n ≤ length xs) (point : IsPartitionPoint Passes Fails xs n) where
    pub in_front : All Passes (take n xs)
    in_front k d lt =
        let l : k < n = omega (arith, length-take-le n xs within) in
        subst Passes (sym (get_or-take n xs k d l)) (point.0 k d (omega arith) l)

    pub behind_it : All Fails (drop n xs)
    behind_it k d lt =
        let l : n + k < length xs = omega (arith, length-drop n xs) in
        subst Fails (sym (get_or-drop n xs k d)) (point.1 (n + k) d (omega arith) l)

  -- the elements up to a place, of which so many pass, in front of the others
  pub record ArePut (xs : List X) (front place : ℕ) : Type 0 where
    pub order : front ≤ place
    pub before : AllWithin Passes xs 0 front
    pub behind : AllWithin Fails xs front place

  pub one_put : (old new : List X) (front place : ℕ) (x : X) (b : Bool) → ((d : X) → get_or old place d ≡ x) → b ≡ p x
      → SwappedAt old new place front → ArePut old front place → ArePut new (front + bool_byte b) (place + 1)
  one_put old new front place x true at is swapped put = record {
    order = let le = put.order in omega arith;
    before = λ k d zero lt. elim (cases_eq k front) [
      | inl same ↦ subst (λ n. p (get_or new n d) ≡ true) (sym same) (ap p (swapped.1 d ∙ at d) ∙ sym is)
      | inr other ↦ (let le = put.order in ap p (swapped.2 k d (λ n. other (omega arith)) other) ∙ put.before k d zero (omega arith))
    ];
    behind = λ k d le lt. elim (cases_eq k place) [
      | inl same ↦ subst (λ n. p (get_or new n d) ≡ false) (sym same) (ap p (swapped.0 d) ∙ put.behind front d (omega arith) (omega arith))
      | inr other ↦ ap p (swapped.2 k d other (λ n. absurd (omega arith))) ∙ put.behind k d (omega arith) (omega arith)
    ];
  }
  one_put old new front place x false at is swapped put = record {
    order = let le = put.order in omega arith;
    before = λ k d zero lt. (let le = put.order in ap p (swapped.2 k d (λ n. absurd (omega arith)) (λ n. absurd (omega arith))) ∙ put.before k d zero (omega arith));
    behind = λ k d le lt. elim (cases_eq k front) [
      | inl same ↦ subst (λ n. p (get_or new n d) ≡ false) (sym same) (ap p (swapped.1 d ∙ at d) ∙ sym is)
      | inr other ↦ elim (cases_eq k place) [
        | inl last ↦ subst (λ n. p (get_or new n d) ≡ false) (sym last) (ap p (swapped.0 d) ∙ put.behind front d (omega arith) (omega arith))
        | inr inside ↦ ap p (swapped.2 k d inside other) ∙ put.behind k d (omega arith) (omega arith)
      ]
    ];
  }
