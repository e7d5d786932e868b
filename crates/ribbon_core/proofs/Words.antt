-- The words of a number.
use Rattle.std.proofs.Common.{◌≡◌, ℕ, zero, suc, ◌+◌, ◌-◌, ◌*◌, ◌/◌, ◌%◌, ◌^◌, ◌<◌, ◌≤◌, refl, arith}
use Rattle.std.proofs.lemmas.Nat.{shr-shr, rows, mod-pow-add, mod_low, mod_below, pow_pos}
use Rattle.ribbon_core.specs.PlaneWords.{number_by}
use Rattle.ribbon_core.proofs.Bands.{div_one}

above_word : (a r : ℕ) → a < 2 ^ 64 → (a + 2 ^ 64 * r) / 2 ^ 64 ≡ r
above_word a r lt = omega arith

low_of : (a r : ℕ) → a < 2 ^ 64 → (a + 2 ^ 64 * r) % 2 ^ 64 ≡ a
low_of a r lt = omega arith

module _ (f : ℕ → ℕ) (fits : (k : ℕ) → f k < 2 ^ 64) where
  -- without its first j words
  pub number_drop : (j i n : ℕ) → j ≤ n → number_by f i n / 2 ^ (64 * j) ≡ number_by f (i + j) (n - j)
  unfolding number_by
  number_drop zero i n le =
      let a : 64 * 0 ≡ 0 = omega arith in let b : i + 0 ≡ i = omega arith in let d : n - 0 ≡ n = omega arith in
      rw (b, d) (div_one (number_by f i n))
  number_drop (suc j) i zero le = absurd (omega arith)
  number_drop (suc j) i (suc n) le =
      let a : 64 * suc j ≡ 64 + 64 * j = omega arith in
      let b : i + suc j ≡ suc i + j = omega arith in
      let d : suc n - suc j ≡ n - j = omega arith in
      rw (a, ← shr-shr (f i + 2 ^ 64 * number_by f (suc i) n) 64 (64 * j), above_word (f i) (number_by f (suc i) n) (fits i), b, d) (number_drop j (suc i) n (omega arith))

  pub number_low : (i n : ℕ) → 0 < n → number_by f i n % 2 ^ 64 ≡ f i
  unfolding number_by
  number_low i zero lt = absurd (omega arith)
  number_low i (suc n) lt = low_of (f i) (number_by f (suc i) n) (fits i)

  pub number_word : (n j : ℕ) → j < n → number_by f 0 n / 2 ^ (64 * j) % 2 ^ 64 ≡ f j
  number_word n j lt =
      let z : 0 + j ≡ j = omega arith in
      rw (number_drop j 0 n (omega arith), number_low (0 + j) (n - j) (omega arith), z) refl

pub plane_room : (plane planes width n : ℕ) → plane < planes → n ≡ planes * width → plane * width + width ≤ n
plane_room plane planes width n lt e = rw e (grind (arith, rows))

pub mod_shorter : (Y j k : ℕ) → Y % 2 ^ (j + k) % 2 ^ k ≡ Y % 2 ^ k
mod_shorter Y j k =
    let p = mod-pow-add Y j k in
    rw (p, mod_low (Y / 2 ^ k % 2 ^ j) k (Y % 2 ^ k) (mod_below Y (2 ^ k) (pow_pos k))) refl
