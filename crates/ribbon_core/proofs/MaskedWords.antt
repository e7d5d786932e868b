-- The sum of a plane, word by word.
use Rattle.std.proofs.Common.{◌≡◌, ℕ, ◌+◌, ◌-◌, ◌*◌, ◌/◌, ◌%◌, ◌^◌, ◌<◌, ◌≤◌, refl, sym, ap, ◌∙◌, arith}
use Rattle.std.specs.Prelude.{bit_and, bit_xor}
use Rattle.std.specs.Int.Bits.{and_zero_l, and_zero_r, xor_zero_r}
use Rattle.std.proofs.lemmas.Nat.{field_of, xor_lt, shl-shr, shl_below, shr_below, mod_low, and_le_l, and_mask, and_comm, pow_pos, shr-shr}
use Rattle.std.proofs.Math.Nat.{mod-eq_of_lt}
use Rattle.std.proofs.Math.Pow.{pow_mono}
use Rattle.ribbon_core.specs.Equations.{parity}
use Rattle.ribbon_core.proofs.Parity.{parity_of_zero, parity-lt, parity-xor, parity_split}
use Rattle.ribbon_core.proofs.Words.{mod_shorter}
use Rattle.ribbon_core.proofs.Window.{parity_mod}

whole_word : (n : ℕ) → n < 2 ^ 64 → bit_and n (2 ^ 64 - 1) ≡ n
whole_word n lt = and_mask n 64 ∙ mod-eq_of_lt lt

-- two words in one
pub parity_word_xor : (a b : ℕ) → a < 2 ^ 64 → b < 2 ^ 64 → parity (bit_xor a b) ≡ (parity a + parity b) % 2
parity_word_xor a b lt lt' =
    let p = parity-xor (a + b) a b (2 ^ 64 - 1) (omega arith) (omega arith) in
    let x = whole_word (bit_xor a b) (xor_lt 64 a b lt lt') in
    let y = whole_word a lt in
    let z = whole_word b lt' in
    rw (x, y, z) at p

-- a coefficient that is shifted to where its columns stand
parity_shifted : (c x s : ℕ) → parity (bit_and c (x / 2 ^ s)) ≡ parity (bit_and (c * 2 ^ s) x)
parity_shifted c x s =
    let p = parity_split s (c * 2 ^ s) x in
    let z : c * 2 ^ s + 0 ≡ c * 2 ^ s = omega arith in
    let r : c * 2 ^ s % 2 ^ s ≡ 0 = rw z at (mod_low c s 0 (pow_pos s)) in
    let q = rw (shl-shr, r, and_zero_l, parity_of_zero) at p in
    let l = parity-lt (bit_and c (x / 2 ^ s)) in
    omega (arith, q, l)

below_and : (a b : ℕ) → a < 2 ^ 64 → bit_and a b < 2 ^ 64
below_and a b lt = let l = and_le_l a b in omega (arith, l)

top_mask : (c s : ℕ) → c < 2 ^ 128 → s < 64 → c * 2 ^ s / 2 ^ 128 < 2 ^ 64
top_mask c s lt few =
    let a = shl_below c 128 s lt in
    let e : 128 + s ≡ s + 128 = omega arith in
    let b : c * 2 ^ s < 2 ^ (s + 128) = rw e at a in
    let h = shr_below (c * 2 ^ s) s 128 b in
    let le : s ≤ 64 = omega arith in
    let m : 2 ^ s ≤ 2 ^ 64 = pow_mono le in omega (arith, h, m)

-- the sum of the columns that a coefficient chooses, from the words that it meets
pub parity_words : (c x s m0 m1 m2 x0 x1 x2 : ℕ) → c < 2 ^ 128 → s < 64
    → m0 ≡ c * 2 ^ s % 2 ^ 64 → m1 ≡ c * 2 ^ s / 2 ^ 64 % 2 ^ 64 → m2 ≡ c * 2 ^ s / 2 ^ 128
    → x0 ≡ x % 2 ^ 64 → x1 ≡ x / 2 ^ 64 % 2 ^ 64 → x2 ≡ x / 2 ^ 128 % 2 ^ 64
    → parity (bit_xor (bit_xor (bit_and x0 m0) (bit_and x1 m1)) (bit_and x2 m2)) ≡ parity (bit_and c (x / 2 ^ s))
parity_words c x s m0 m1 m2 x0 x1 x2 lt few a b d e f g =
    let y0 = below_and x0 m0 (omega (arith, e)) in
    let y1 = below_and x1 m1 (omega (arith, f)) in
    let y2 = below_and x2 m2 (omega (arith, g)) in
    let p = parity_word_xor (bit_xor (bit_and x0 m0) (bit_and x1 m1)) (bit_and x2 m2) (xor_lt 64 (bit_and x0 m0) (bit_and x1 m1) y0 y1) y2 in
    let q = parity_word_xor (bit_and x0 m0) (bit_and x1 m1) y0 y1 in
    let n : ℕ = c * 2 ^ s in
    let r = parity_split 64 (c * 2 ^ s) x in
    let t = parity_split 64 (c * 2 ^ s / 2 ^ 64) (x / 2 ^ 64) in
    let u : c * 2 ^ s / 2 ^ 64 / 2 ^ 64 ≡ c * 2 ^ s / 2 ^ 128 = shr-shr (c * 2 ^ s) 64 64 in
    let v : x / 2 ^ 64 / 2 ^ 64 ≡ x / 2 ^ 128 = shr-shr x 64 64 in
    let t' = rw (u, v, ← d, ← b, ← f) at t in
    let k : m2 < 2 ^ 64 = rw d (top_mask c s lt few) in
    let w : parity (bit_and m2 x2) ≡ parity (bit_and m2 (x / 2 ^ 128)) = rw g (parity_mod 64 m2 (x / 2 ^ 128) k) in
    let r' = rw (← a, ← e) at r in
    let i = parity_shifted c x s in
    let o0 = ap parity (and_comm x0 m0) in
    let o1 = ap parity (and_comm x1 m1) in
    let o2 = ap parity (and_comm x2 m2) in
    omega (arith, p, q, r', t', w, i, o0, o1, o2)

-- the masks, as the program computes them
low_mask : (c s : ℕ) → bit_and (c * 2 ^ s % 2 ^ 128) (2 ^ 64 - 1) ≡ c * 2 ^ s % 2 ^ 64
low_mask c s = and_mask (c * 2 ^ s % 2 ^ 128) 64 ∙ mod_shorter (c * 2 ^ s) 64 64

middle_mask : (c s : ℕ) → c * 2 ^ s % 2 ^ 128 / 2 ^ 64 ≡ c * 2 ^ s / 2 ^ 64 % 2 ^ 64
middle_mask c s = field_of (c * 2 ^ s) 64 64

high_mask : (c s k : ℕ) → s + k ≡ 128 → c / 2 ^ k ≡ c * 2 ^ s / 2 ^ 128
high_mask c s k e =
    let a = shr-shr (c * 2 ^ s) s k in
    let b = shl-shr c s in
    let f : c / 2 ^ k ≡ c * 2 ^ s / 2 ^ (s + k) = rw b at a in rw e at f

no_high_mask : (c : ℕ) → c < 2 ^ 128 → c * 2 ^ 0 / 2 ^ 128 ≡ 0
no_high_mask c lt = omega (arith, lt)

-- what the lane of a plane holds: N is the plane's columns, and x0, x1 and x2 its words from `start / 64` on
module _ (N start c : ℕ) (lt : c < 2 ^ 128) where
  at_word : (k : ℕ) → N / 2 ^ (64 * (start / 64 + k)) ≡ N / 2 ^ (64 * (start / 64)) / 2 ^ (64 * k)
  at_word k = let e : 64 * (start / 64 + k) ≡ 64 * (start / 64) + 64 * k = omega arith in rw e (sym (shr-shr N (64 * (start / 64)) (64 * k)))

  at_start : N / 2 ^ (64 * (start / 64)) / 2 ^ (start % 64) ≡ N / 2 ^ start
  at_start = let e : 64 * (start / 64) + start % 64 ≡ start = omega arith in shr-shr N (64 * (start / 64)) (start % 64) ∙ ap (λ (x : ℕ). N / 2 ^ x) e

  pub lane_of_three : (x0 x1 x2 : ℕ) → x0 ≡ N / 2 ^ (64 * (start / 64)) % 2 ^ 64 → x1 ≡ N / 2 ^ (64 * (start / 64 + 1)) % 2 ^ 64 → x2 ≡ N / 2 ^ (64 * (start / 64 + 2)) % 2 ^ 64
      → parity (bit_xor (bit_xor (bit_and x0 (bit_and (c * 2 ^ (start % 64) % 2 ^ 128) (2 ^ 64 - 1))) (bit_and x1 (c * 2 ^ (start % 64) % 2 ^ 128 / 2 ^ 64))) (bit_and x2 (c / 2 ^ (128 - start % 64))))
      ≡ parity (bit_and c (N / 2 ^ start))
  lane_of_three x0 x1 x2 e f g =
      let f' : x1 ≡ N / 2 ^ (64 * (start / 64)) / 2 ^ 64 % 2 ^ 64 = rw (at_word 1) at f in
      let g' : x2 ≡ N / 2 ^ (64 * (start / 64)) / 2 ^ 128 % 2 ^ 64 = rw (at_word 2) at g in
      parity_words c (N / 2 ^ (64 * (start / 64))) (start % 64) _ _ _ x0 x1 x2 lt (omega arith)
      (low_mask c (start % 64)) (middle_mask c (start % 64)) (high_mask c (start % 64) (128 - start % 64) (omega arith)) e f' g'
      ∙ ap (λ (x : ℕ). parity (bit_and c x)) at_start

  pub lane_of_two : (x0 x1 : ℕ) → start % 64 ≡ 0 → x0 ≡ N / 2 ^ (64 * (start / 64)) % 2 ^ 64 → x1 ≡ N / 2 ^ (64 * (start / 64 + 1)) % 2 ^ 64
      → parity (bit_xor (bit_and x0 (bit_and (c * 2 ^ (start % 64) % 2 ^ 128) (2 ^ 64 - 1))) (bit_and x1 (c * 2 ^ (start % 64) % 2 ^ 128 / 2 ^ 64)))
      ≡ parity (bit_and c (N / 2 ^ start))
  lane_of_two x0 x1 aligned e f =
      let f' : x1 ≡ N / 2 ^ (64 * (start / 64)) / 2 ^ 64 % 2 ^ 64 = rw (at_word 1) at f in
      let z : 0 ≡ c * 2 ^ (start % 64) / 2 ^ 128 = rw aligned (sym (no_high_mask c lt)) in
      let p = parity_words c (N / 2 ^ (64 * (start / 64))) (start % 64) _ _ 0 x0 x1 (N / 2 ^ (64 * (start / 64)) / 2 ^ 128 % 2 ^ 64) lt (omega arith)
      (low_mask c (start % 64)) (middle_mask c (start % 64)) z e f' refl in
      rw (and_zero_r, xor_zero_r) at p ∙ ap (λ (x : ℕ). parity (bit_and c x)) at_start

pub high_mask_below : (c s : ℕ) → c < 2 ^ 128 → s < 64 → c / 2 ^ (128 - s) < 2 ^ 64
high_mask_below c s lt few = rw (high_mask c s (128 - s) (omega arith)) (top_mask c s lt few)
