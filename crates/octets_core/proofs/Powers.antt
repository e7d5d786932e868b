-- What bytes can spell.
use Rattle.std.proofs.Common.{ℕ, ◌+◌, ◌*◌, ◌<◌, ◌≤◌, ◌^◌, add-one, arith, lit<}
use Rattle.std.proofs.Math.Nat.{pow-suc, pow-le-pow_right}

pub below_step : (n b i : ℕ) → n < 256 ^ i → b < 256 → n * 256 + b < 256 ^ (i + 1)
below_step n b i h k = rw (add-one, pow-suc) (omega arith)

pub below_top : (n i m : ℕ) → n < 256 ^ i → i ≤ m → n < 256 ^ m
below_top n i m h le = let top : 256 ^ i ≤ 256 ^ m = pow-le-pow_right (lit< tt) le in omega arith

pub small : (n i : ℕ) → n < 256 ^ i → i < 8 → n < 2 ^ 56
small n i h lt = let le : i ≤ 7 = omega arith in below_top n i 7 h le
