-- The lowest 128 columns stand for all of them, where a coefficient has 128 bits.
use Rattle.std.proofs.Common.{◌≡◌, ℕ, ◌+◌, ◌*◌, ◌/◌, ◌%◌, ◌^◌, ◌<◌, ◌⊎◌, inl, inr, refl, sym, ap, ◌∙◌, arith}
use Rattle.std.specs.Prelude.{bit_and, bit_or, bit_xor, count_ones}
use Rattle.std.specs.Int.{bit_at}
use Rattle.std.specs.Int.Bits.{and_mod}
use Rattle.std.proofs.lemmas.Nat.{and_le_l, and_mask, or_shifted, mul-mod_first}
use Rattle.std.proofs.Math.Nat.{mod-eq_of_lt}
use Rattle.ribbon_core.specs.Equations.{parity}
use Rattle.ribbon_core.specs.Bands.{IsPivot, column_before}
use Rattle.ribbon_core.proofs.Parity.{xor_low, bit_cases, parity_of_zero}
use Rattle.std.proofs.lemmas.Nat.Bits.{bit_at-zero}
use Rattle.ribbon_core.proofs.Bands.{column_none, column_pivot}

small_mod : (n m : ℕ) → n < m → n % m ≡ n
small_mod n m h = mod-eq_of_lt h

pub parity_mod : (k c y : ℕ) → c < 2 ^ k → parity (bit_and c (y % 2 ^ k)) ≡ parity (bit_and c y)
parity_mod k c y lt =
    let a : bit_and c y % 2 ^ k ≡ bit_and (c % 2 ^ k) (y % 2 ^ k) = and_mod c y k in
    let l = and_le_l c y in
    let b : bit_and c y % 2 ^ k ≡ bit_and c y = small_mod (bit_and c y) (2 ^ k) (omega arith) in
    let d : c % 2 ^ k ≡ c = small_mod c (2 ^ k) lt in
    let a' : bit_and c y % 2 ^ k ≡ bit_and c (y % 2 ^ k) = rw d at a in
    ap parity (sym a' ∙ b)

pub double_mod : (w h m : ℕ) → w ≡ h % m → w * 2 % m ≡ (2 * h) % m
double_mod w h m e =
    let f = mul-mod_first h 2 m in
    let g : h * 2 ≡ 2 * h = omega arith in rw (e, f, g) refl

two_bits : (x y : ℕ) → (x ≡ 0) ⊎ (x ≡ 1) → (y ≡ 0) ⊎ (y ≡ 1) → bit_xor x y ≡ (x + y) % 2
two_bits x y (inl p) (inl q) = rw (q, p) refl
two_bits x y (inl p) (inr q) = rw (q, p) refl
two_bits x y (inr p) (inl q) = rw (q, p) refl
two_bits x y (inr p) (inr q) = rw (q, p) refl

low_bit_xor : (a b : ℕ) → bit_and (bit_xor a b) 1 ≡ (a % 2 + b % 2) % 2
low_bit_xor a b =
    let e : bit_and (bit_xor a b) 1 ≡ bit_xor a b % 2 = and_mask (bit_xor a b) 1 in
    e ∙ xor_low a b ∙ two_bits (a % 2) (b % 2) (bit_cases a) (bit_cases b)

or_low : (a b : ℕ) → a % 2 ≡ 0 → b < 2 → bit_or a b ≡ a + b
or_low a b even lt =
    let e : a / 2 * 2 ^ 1 ≡ a = omega arith in
    let h = or_shifted (a / 2) 1 b lt in rw e at h

even_mod : (h : ℕ) → 2 * h % 2 ^ 128 % 2 ≡ 0
even_mod h = omega arith

join_bit : (h b : ℕ) → b < 2 → (2 * h) % 2 ^ 128 + b ≡ (2 * h + b) % 2 ^ 128
join_bit h b lt = omega arith

module _ (c t plane h w bit : ℕ) (wide : c < 2 ^ 128) (e : w ≡ h % 2 ^ 128)
    (f : bit ≡ bit_and (bit_xor (count_ones (bit_and c (w * 2 % 2 ^ 128))) (t / 2 ^ plane)) 1) where
  -- the bit of the column
  window_bit : bit ≡ (bit_at t plane + parity (bit_and c (2 * h))) % 2
  unfolding parity
  window_bit =
      let d : w * 2 % 2 ^ 128 ≡ (2 * h) % 2 ^ 128 = double_mod w h (2 ^ 128) e in
      let p : parity (bit_and c ((2 * h) % 2 ^ 128)) ≡ parity (bit_and c (2 * h)) = parity_mod 128 c (2 * h) wide in
      let f' : bit ≡ bit_and (bit_xor (count_ones (bit_and c ((2 * h) % 2 ^ 128))) (t / 2 ^ plane)) 1 = rw d at f in
      let b = low_bit_xor (count_ones (bit_and c ((2 * h) % 2 ^ 128))) (t / 2 ^ plane) in
      omega (arith, f', b, p)

  window_joined : bit_or (w * 2 % 2 ^ 128) bit ≡ (2 * h + bit) % 2 ^ 128
  window_joined =
      let d : w * 2 % 2 ^ 128 ≡ (2 * h) % 2 ^ 128 = double_mod w h (2 ^ 128) e in
      let two : bit < 2 = omega (arith, window_bit) in
      let o : bit_or (2 * h % 2 ^ 128) bit ≡ 2 * h % 2 ^ 128 + bit = or_low (2 * h % 2 ^ 128) bit (even_mod h) two in
      rw (d, o) (join_bit h bit two)

  -- the window one column down
  pub window_down : IsPivot c t → bit_or (w * 2 % 2 ^ 128) bit ≡ column_before c (bit_at t plane) h % 2 ^ 128
  window_down (inl odd) = rw (column_pivot c (bit_at t plane) h odd, ← window_bit) window_joined
  window_down (inr (none, free)) =
      let zero_bit : bit ≡ 0 = rw (none, free, bit_at-zero, parity_of_zero) at window_bit in
      let j = window_joined in
      rw (column_none c (bit_at t plane) h none) (omega (arith, j, zero_bit))
