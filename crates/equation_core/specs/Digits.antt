-- Each byte of a digest is below 256, so what it spells fits.
use Rattle.std.proofs.Common.{◌<◌, ◌^◌, ℕ, zero, suc, List, [], ◌∷◌, ◌++◌, take, drop, bit_or, arith, get_or}
use Rattle.std.specs.Int.{to_be_bytes, from_be_bytes, w16, w32, w128}
use Rattle.std.proofs.lemmas.Nat.{or_lt}
use Rattle.sha2.specs.Sha256.{sha256, digest_bytes, final_hash, initial_hash_256}

abbrev pub AreBytes : List ℕ → Type 0
AreBytes d = (i : ℕ) → get_or d i 0 < 256

be_bytes-small : (x i : ℕ) → get_or (to_be_bytes w32 x) i 0 < 256
be_bytes-small x zero = omega arith
be_bytes-small x (suc zero) = omega arith
be_bytes-small x (suc (suc zero)) = omega arith
be_bytes-small x (suc (suc (suc zero))) = omega arith
be_bytes-small x (suc (suc (suc (suc i)))) = omega arith

append-small : (xs ys : List ℕ) → AreBytes xs → AreBytes ys → AreBytes (xs ++ ys)
append-small [] ys p q i = q i
append-small (x ∷ xs) ys p q zero = p 0
append-small (x ∷ xs) ys p q (suc i) = append-small xs ys (λ k. p (suc k)) q i

digest_bytes-small : (h : List ℕ) (n : ℕ) → AreBytes (digest_bytes h n)
unfolding digest_bytes
digest_bytes-small h zero i = omega arith
digest_bytes-small h (suc n) i =
    append-small (digest_bytes h n) (to_be_bytes w32 (get_or h n 0)) (digest_bytes-small h n) (be_bytes-small (get_or h n 0)) i

pub digest-small : (m : List ℕ) → AreBytes (sha256 m)
unfolding sha256
digest-small m = digest_bytes-small (final_hash initial_hash_256 m) 8

pub drop-small : (n : ℕ) (d : List ℕ) → AreBytes d → AreBytes (drop n d)
drop-small zero d h i = h i
drop-small (suc n) [] h i = omega arith
drop-small (suc n) (x ∷ d) h i = drop-small n d (λ k. h (suc k)) i

pub take-small : (n : ℕ) (d : List ℕ) → AreBytes d → AreBytes (take n d)
take-small zero d h i = omega arith
take-small (suc n) [] h i = omega arith
take-small (suc n) (x ∷ d) h zero = h 0
take-small (suc n) (x ∷ d) h (suc i) = take-small n d (λ k. h (suc k)) i

pub two_bytes : (d : List ℕ) → AreBytes d → from_be_bytes w16 d < 2 ^ 16
two_bytes d h = omega (arith, h 0, h 1)

pub sixteen_bytes : (d : List ℕ) → AreBytes d → from_be_bytes w128 d < 2 ^ 128
sixteen_bytes d h = omega (arith, h 0, h 1, h 2, h 3, h 4, h 5, h 6, h 7, h 8, h 9, h 10, h 11, h 12, h 13, h 14, h 15)

pub coefficient_fits : (d : List ℕ) → AreBytes d → bit_or (from_be_bytes w128 d) 1 < 2 ^ 128
coefficient_fits d h = or_lt 128 (from_be_bytes w128 d) 1 (sixteen_bytes d h) (omega arith)
