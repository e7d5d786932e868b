-- The sums of the planes, a bit each.
use Rattle.std.proofs.Common.{◌≡◌, ℕ, ◌+◌, ◌-◌, ◌*◌, ◌%◌, ◌^◌, ◌<◌, ◌≤◌, ◌⊎◌, inl, inr, ◌∙◌, arith, below_more, add-one}
use Rattle.std.specs.Prelude.{bit_and, bit_or, count_ones}
use Rattle.std.specs.Int.{bit_at}
use Rattle.std.proofs.lemmas.Nat.{and_mask, or_shifted, or_comm, pow_pos}
use Rattle.std.proofs.lemmas.Nat.Bits.{bit_at_cat_low, bit_at_cat_high, bit_at_lowest}
use Rattle.std.proofs.Math.Nat.{mod-eq_of_lt, pow-suc}
use Rattle.std.proofs.Math.Pow.{pow_mono}
use Rattle.ribbon_core.specs.Equations.{parity}
use Rattle.ribbon_core.proofs.Bands.{below_two}

pub low_parity : (n : ℕ) → bit_and (count_ones n) 1 ≡ parity n
unfolding parity
low_parity n = and_mask (count_ones n) 1

bit_times : (b p : ℕ) → (b ≡ 0) ⊎ (b ≡ 1) → b * p ≤ p
bit_times b p (inl e) = rw e (omega arith)
bit_times b p (inr e) = rw e (omega arith)

doubled : (plane : ℕ) → 2 ^ (plane + 1) ≡ 2 ^ plane * 2
doubled plane = rw add-one (pow-suc 2 plane)

set_bit : (sums b plane : ℕ) → plane < 16 → b < 2 → sums < 2 ^ plane → bit_or sums (b * 2 ^ plane % 2 ^ 16) ≡ b * 2 ^ plane + sums
set_bit sums b plane lt two few =
    let h : plane + 1 ≤ 16 = omega arith in
    let m : 2 ^ (plane + 1) ≤ 2 ^ 16 = pow_mono h in
    let d = doubled plane in
    let t = bit_times b (2 ^ plane) (below_two b two) in
    let p = pow_pos plane in
    let s : b * 2 ^ plane < 2 ^ 16 = omega (arith, d, t, m, p) in
    rw (mod-eq_of_lt s, or_comm sums (b * 2 ^ plane)) (or_shifted b plane sums few)

pub sums_more : (f : ℕ → ℕ) (sums b plane : ℕ) → plane < 16 → b < 2 → sums < 2 ^ plane → ((q : ℕ) → q < plane → bit_at sums q ≡ f q) → b ≡ f plane
    → (q : ℕ) → q < plane + 1 → bit_at (bit_or sums (b * 2 ^ plane % 2 ^ 16)) q ≡ f q
sums_more f sums b plane lt two few h e = rw (set_bit sums b plane lt two few)
    (below_more (λ q. bit_at (b * 2 ^ plane + sums) q ≡ f q) plane (λ q below. bit_at_cat_low b plane sums q below ∙ h q below)
    (let z : plane - plane ≡ 0 = omega arith in bit_at_cat_high b plane sums plane few (omega arith) ∙ rw z (bit_at_lowest b ∙ mod-eq_of_lt two ∙ e)))

pub sums_few : (sums b plane : ℕ) → plane < 16 → b < 2 → sums < 2 ^ plane → bit_or sums (b * 2 ^ plane % 2 ^ 16) < 2 ^ (plane + 1)
sums_few sums b plane lt two few =
    let d = doubled plane in
    let t = bit_times b (2 ^ plane) (below_two b two) in
    rw (set_bit sums b plane lt two few, d) (omega (arith, t))
