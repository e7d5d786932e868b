-- The sum that an equation takes, column by column.
use Rattle.std.proofs.Common.{◌≡◌, ℕ, zero, suc, ◌+◌, ◌*◌, ◌/◌, ◌%◌, ◌^◌, ◌<◌, ◌⊎◌, inl, inr, refl, sym, ap, ◌∙◌, arith}
use Rattle.std.specs.Prelude.{bit_and}
use Rattle.std.specs.Int.{bit_at}
use Rattle.std.specs.List.{sum_by, range_with_len}
use Rattle.std.proofs.lemmas.Nat.{shr-shr}
use Rattle.std.proofs.lemmas.List.Sums.{sum_by-cons}
use Rattle.std.specs.Int.Bits.{and_zero_l}
use Rattle.std.proofs.Math.Nat.{pow-suc}
use Rattle.ribbon_core.specs.Equations.{parity}
use Rattle.ribbon_core.proofs.Parity.{parity_of_zero, parity_step, and_low, and_half, bit_cases}

bit_product : (x y : ℕ) → (x ≡ 0) ⊎ (x ≡ 1) → (y ≡ 0) ⊎ (y ≡ 1) → bit_and x y ≡ x * y
bit_product x y (inl p) (inl q) = rw (q, p) refl
bit_product x y (inl p) (inr q) = rw (q, p) refl
bit_product x y (inr p) (inl q) = rw (q, p) refl
bit_product x y (inr p) (inr q) = rw (q, p) refl

whole : (x s : ℕ) → (x + s % 2) % 2 ≡ (x + s) % 2
whole x s = omega arith

-- the sum over the n columns of the coefficient from column a on
from_place : (n a start c Z : ℕ) → c / 2 ^ a < 2 ^ n
    → parity (bit_and (c / 2 ^ a) (Z / 2 ^ (start + a))) ≡ sum_by (λ j. bit_at c j * bit_at Z (start + j)) (range_with_len a n) % 2
from_place zero a start c Z lt = let e : c / 2 ^ a ≡ 0 = omega arith in rw (e, and_zero_l) parity_of_zero
from_place (suc n) a start c Z lt =
    let u : c / 2 ^ a / 2 ≡ c / 2 ^ (a + 1) = shr-shr c a 1 in
    let v : Z / 2 ^ (start + a) / 2 ≡ Z / 2 ^ (start + a + 1) = shr-shr Z (start + a) 1 in
    let k : start + a + 1 ≡ start + (a + 1) = omega arith in
    let e = pow-suc 2 n in
    let ih = from_place n (a + 1) start c Z (omega (arith, u, e, lt)) in
    let b = bit_product (c / 2 ^ a % 2) (Z / 2 ^ (start + a) % 2) (bit_cases (c / 2 ^ a)) (bit_cases (Z / 2 ^ (start + a))) in
    let p : parity (bit_and (c / 2 ^ a) (Z / 2 ^ (start + a))) ≡ (bit_at c a * bit_at Z (start + a) + parity (bit_and (c / 2 ^ (a + 1)) (Z / 2 ^ (start + (a + 1))))) % 2
    = parity_step (bit_and (c / 2 ^ a) (Z / 2 ^ (start + a))) ∙ rw (and_low, and_half, b, u, v, k) refl in
    p ∙ rw ih (whole (bit_at c a * bit_at Z (start + a)) (sum_by (λ j. bit_at c j * bit_at Z (start + j)) (range_with_len (a + 1) n)))
    ∙ ap (λ (x : ℕ). x % 2) (sym (sum_by-cons (λ j. bit_at c j * bit_at Z (start + j)) a (range_with_len (a + 1) n)))

pub sum_over_columns : (n start c Z : ℕ) → c < 2 ^ n → parity (bit_and c (Z / 2 ^ start)) ≡ sum_by (λ j. bit_at c j * bit_at Z (start + j)) (range_with_len 0 n) % 2
sum_over_columns n start c Z lt =
    let e : c / 2 ^ 0 ≡ c = omega arith in
    let f : start + 0 ≡ start = omega arith in
    let h = from_place n 0 start c Z (rw e lt) in rw (e, f) at h
