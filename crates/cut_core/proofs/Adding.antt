-- What places have together.
use Rattle.std.specs.List.{filter, count_by}
use Rattle.std.specs.Prelude.{◌==◌}
use Rattle.std.proofs.Common.{◌≡◌, ℕ, zero, suc, ◌+◌, ◌<◌, ◌≤◌, List, [], ◌∷◌, length, Bool, true, false, cond, refl, sym, ap, ◌∙◌, arith}
use Rattle.std.proofs.lemmas.Bool.{eqb-true, eqb-false, ne_eqb}
use Rattle.std.proofs.lemmas.List.Sums.{sum_by-cons}
use Rattle.cut_core.specs.InPlaces.{over_places}

pub over_each : (n : ℕ) (f g : ℕ → ℕ) → ((p : ℕ) → f p ≡ g p) → over_places n f ≡ over_places n g
over_each zero f g h = refl
over_each (suc n) f g h = ap (λ m. m + f n) (over_each n f g h) ∙ ap (λ m. over_places n g + m) (h n)

over_none : (n : ℕ) → over_places n (λ p. 0) ≡ 0
over_none zero = refl
over_none (suc n) = omega (arith, over_none n)

over_sum : (n : ℕ) (f g : ℕ → ℕ) → over_places n (λ p. f p + g p) ≡ over_places n f + over_places n g
over_sum zero f g = refl
over_sum (suc n) f g = omega (arith, over_sum n f g)

-- ---- a number that one place has

differs : (i p : ℕ) → p < i → (i == p) ≡ false
differs i p h = ne_eqb i p (λ (e : i ≡ p). omega arith)

over_above : (n i v : ℕ) → n ≤ i → over_places n (λ p. cond (i == p) v 0) ≡ 0
over_above zero i v h = refl
over_above (suc n) i v h =
    ap (λ m. m + cond (i == n) v 0) (over_above n i v (omega arith)) ∙ ap (λ b. 0 + cond b v 0) (differs i n (omega arith))

over_step : (n i v : ℕ) (b : Bool) → (i == n) ≡ b → i < suc n → (i < n → over_places n (λ p. cond (i == p) v 0) ≡ v)
    → over_places n (λ p. cond (i == p) v 0) + cond b v 0 ≡ v
over_step n i v true e h next =
    let at : i ≡ n = eqb-true i n e in let none : over_places n (λ p. cond (i == p) v 0) ≡ 0 = over_above n i v (omega arith) in omega arith
over_step n i v false e h next =
    let apart : i ≡ n → ⊥ = eqb-false i n e in let all : over_places n (λ p. cond (i == p) v 0) ≡ v = next (omega arith) in omega arith

over_one : (n i v : ℕ) → i < n → over_places n (λ p. cond (i == p) v 0) ≡ v
over_one zero i v h = absurd (omega arith)
over_one (suc n) i v h = over_step n i v (i == n) refl h (over_one n i v)

-- ---- tests that are counted in each place

module _ {A : Type 0} (at : A → ℕ) (n : ℕ) (below : (a : A) → at a < n) where
  module _ (P : ℕ → A → Bool) (Q : A → Bool) (same : (p : ℕ) (a : A) → (at a == p) ≡ true → P p a ≡ Q a) where
    more_step : (a : A) (kept : List A) (p : ℕ) (b : Bool) → (at a == p) ≡ b
        → count_by (P p) (cond b (a ∷ kept) kept) ≡ cond b (cond (Q a) 1 0) 0 + count_by (P p) kept
    more_step a kept p true e = sum_by-cons (λ d. cond (P p d) 1 0) a kept ∙ ap (λ b. cond b 1 0 + count_by (P p) kept) (same p a e)
    more_step a kept p false e = omega arith

    pub tally : (xs : List A) → over_places n (λ p. count_by (P p) (filter (λ d. at d == p) xs)) ≡ count_by Q xs
    tally [] = over_none n
    tally (a ∷ xs) =
        over_each n (λ p. count_by (P p) (filter (λ d. at d == p) (a ∷ xs)))
        (λ p. cond (at a == p) (cond (Q a) 1 0) 0 + count_by (P p) (filter (λ d. at d == p) xs))
        (λ p. more_step a (filter (λ d. at d == p) xs) p (at a == p) refl)
        ∙ over_sum n (λ p. cond (at a == p) (cond (Q a) 1 0) 0) (λ p. count_by (P p) (filter (λ d. at d == p) xs))
        ∙ ap (λ m. m + over_places n (λ p. count_by (P p) (filter (λ d. at d == p) xs))) (over_one n (at a) (cond (Q a) 1 0) (below a))
        ∙ ap (λ m. cond (Q a) 1 0 + m) (tally xs)
        ∙ sym (sum_by-cons (λ d. cond (Q d) 1 0) a xs)

  counted_all : (xs : List A) → count_by (λ d. true) xs ≡ length xs
  counted_all [] = refl
  counted_all (a ∷ xs) = sum_by-cons (λ (d : A). 1) a xs ∙ ap (λ m. 1 + m) (counted_all xs) ∙ omega arith

  pub lengths : (xs : List A) → over_places n (λ p. length (filter (λ d. at d == p) xs)) ≡ length xs
  lengths xs =
      over_each n (λ p. length (filter (λ d. at d == p) xs)) (λ p. count_by (λ d. true) (filter (λ d. at d == p) xs))
      (λ p. sym (counted_all (filter (λ d. at d == p) xs)))
      ∙ tally (λ p d. true) (λ d. true) (λ p a e. refl) xs ∙ counted_all xs
