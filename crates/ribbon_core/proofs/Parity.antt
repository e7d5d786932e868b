-- The parity of a number's set bits, and what it makes of `&` and `^`.
use Rattle.std.proofs.Common.{◌≡◌, ℕ, zero, suc, ◌+◌, ◌*◌, ◌/◌, ◌%◌, ◌^◌, ◌<◌, ◌≤◌, ◌⊎◌, inl, inr, refl, ap, ◌∙◌, arith}
use Rattle.std.specs.Prelude.{bit_and, bit_xor, count_ones}
use Rattle.std.proofs.lemmas.Nat.{and_block, and_le_r, ones_cat, pow_pos, shr_split, mod_below}
use Rattle.ribbon_core.specs.Equations.{parity}
use Rattle.std.specs.Int.Count.{ones, ones_step}
use Rattle.std.specs.Int.Bits.{and_shr, and_mod, xor_shr, xor_mod}

pub bit_cases : (n : ℕ) → (n % 2 ≡ 0) ⊎ (n % 2 ≡ 1)
bit_cases n = grind arith

pub parity-lt : (n : ℕ) → parity n < 2
unfolding parity
parity-lt n = omega arith

pub parity_step : (n : ℕ) → parity n ≡ (n % 2 + parity (n / 2)) % 2
unfolding parity
parity_step n = let e = ones_step n in omega (arith, e)

pub parity_of_zero : parity 0 ≡ 0
unfolding parity ones
parity_of_zero = refl

-- the lowest bits of a sum, seen bit by bit
low_bits : (x y w : ℕ) → (x ≡ 0) ⊎ (x ≡ 1) → (y ≡ 0) ⊎ (y ≡ 1) → (w ≡ 0) ⊎ (w ≡ 1)
    → bit_and (bit_xor x y) w ≡ (bit_and x w + bit_and y w) % 2
low_bits x y w (inl p) (inl q) (inl r) = rw (r, q, p) refl
low_bits x y w (inl p) (inl q) (inr r) = rw (r, q, p) refl
low_bits x y w (inl p) (inr q) (inl r) = rw (r, q, p) refl
low_bits x y w (inl p) (inr q) (inr r) = rw (r, q, p) refl
low_bits x y w (inr p) (inl q) (inl r) = rw (r, q, p) refl
low_bits x y w (inr p) (inl q) (inr r) = rw (r, q, p) refl
low_bits x y w (inr p) (inr q) (inl r) = rw (r, q, p) refl
low_bits x y w (inr p) (inr q) (inr r) = rw (r, q, p) refl

pub and_half : (a b : ℕ) → bit_and a b / 2 ≡ bit_and (a / 2) (b / 2)
and_half a b = and_shr a b 1

pub xor_half : (a b : ℕ) → bit_xor a b / 2 ≡ bit_xor (a / 2) (b / 2)
xor_half a b = xor_shr a b 1

pub and_low : (a b : ℕ) → bit_and a b % 2 ≡ bit_and (a % 2) (b % 2)
and_low a b = and_mod a b 1

pub xor_low : (a b : ℕ) → bit_xor a b % 2 ≡ bit_xor (a % 2) (b % 2)
xor_low a b = xor_mod a b 1

-- of the columns of z, those that a chooses and those that b chooses, added up
pub parity-xor : (k a b z : ℕ) → a ≤ k → b ≤ k → parity (bit_and (bit_xor a b) z) ≡ (parity (bit_and a z) + parity (bit_and b z)) % 2
parity-xor zero a b z h i =
    let e : a ≡ 0 = omega arith in
    let f : b ≡ 0 = omega arith in
    let o = parity_of_zero in rw (e, f) (omega arith)
parity-xor (suc k) a b z h i =
    let ih = parity-xor k (a / 2) (b / 2) (z / 2) (omega arith) (omega arith) in
    let l = low_bits (a % 2) (b % 2) (z % 2) (bit_cases a) (bit_cases b) (bit_cases z) in
    let p : parity (bit_and (bit_xor a b) z) ≡ (bit_and (bit_xor (a % 2) (b % 2)) (z % 2) + parity (bit_and (bit_xor (a / 2) (b / 2)) (z / 2))) % 2
    = parity_step (bit_and (bit_xor a b) z) ∙ rw (and_low, xor_low, and_half, xor_half) refl in
    let q : parity (bit_and a z) ≡ (bit_and (a % 2) (z % 2) + parity (bit_and (a / 2) (z / 2))) % 2
    = parity_step (bit_and a z) ∙ rw (and_low, and_half) refl in
    let r : parity (bit_and b z) ≡ (bit_and (b % 2) (z % 2) + parity (bit_and (b / 2) (z / 2))) % 2
    = parity_step (bit_and b z) ∙ rw (and_low, and_half) refl in
    omega (arith, p, q, r, l, ih)

both : (a r : ℕ) → (a + r) % 2 ≡ (a % 2 + r % 2) % 2
both a r = omega arith

parity_cat : (k a r : ℕ) → r < 2 ^ k → parity (a * 2 ^ k + r) ≡ (parity a + parity r) % 2
unfolding parity
parity_cat k a r lt = let e = ones_cat k a r lt in rw e (both (count_ones a) (count_ones r))

-- the lowest k bits apart
pub parity_split : (k m x : ℕ) → parity (bit_and m x) ≡ (parity (bit_and (m / 2 ^ k) (x / 2 ^ k)) + parity (bit_and (m % 2 ^ k) (x % 2 ^ k))) % 2
parity_split k m x =
    let lt = mod_below m (2 ^ k) (pow_pos k) in
    let lt' = mod_below x (2 ^ k) (pow_pos k) in
    let b : bit_and (m / 2 ^ k * 2 ^ k + m % 2 ^ k) (x / 2 ^ k * 2 ^ k + x % 2 ^ k) ≡ bit_and (m / 2 ^ k) (x / 2 ^ k) * 2 ^ k + bit_and (m % 2 ^ k) (x % 2 ^ k)
    = and_block k (m / 2 ^ k) (x / 2 ^ k) (m % 2 ^ k) (x % 2 ^ k) lt lt' in
    let b' : bit_and m x ≡ bit_and (m / 2 ^ k) (x / 2 ^ k) * 2 ^ k + bit_and (m % 2 ^ k) (x % 2 ^ k) = rw (shr_split, shr_split) at b in
    let l = and_le_r (m % 2 ^ k) (x % 2 ^ k) in
    ap parity b' ∙ parity_cat k (bit_and (m / 2 ^ k) (x / 2 ^ k)) (bit_and (m % 2 ^ k) (x % 2 ^ k)) (omega (arith, l, lt'))
