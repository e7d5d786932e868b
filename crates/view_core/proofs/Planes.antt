-- The words of a plane that stands in bytes.
use Rattle.std.proofs.Common.{◌≡◌, ℕ, zero, suc, ◌+◌, ◌*◌, ◌/◌, ◌%◌, ◌^◌, ◌<◌, List, refl, ap, subst, ◌∙◌, arith}
use Rattle.std.specs.Int.{w64, to_be_bytes}
use Rattle.std.proofs.lemmas.Nat.{shr-shr}
use Rattle.part_text.specs.PlaneBytes.{bytes_of_columns}
use Rattle.view_core.specs.Texts.{Stands}
use Rattle.view_core.proofs.Texts.{stands_first, stands_then}

-- word `i` of a plane stands eight times as many bytes behind its begin
pub stands_word : (bytes : List ℕ) (at width Z i : ℕ) → i < width → Stands bytes at (bytes_of_columns width Z) → Stands bytes (at + 8 * i) (to_be_bytes w64 (Z / 2 ^ (64 * i) % 2 ^ 64))
unfolding bytes_of_columns
stands_word bytes at zero Z i lt s = absurd (omega arith)
stands_word bytes at (suc width) Z zero lt s =
    let place : at ≡ at + 8 * 0 = omega arith in
    let word : Z % 2 ^ 64 ≡ Z / 2 ^ (64 * 0) % 2 ^ 64 = omega arith in
    subst (λ (n : ℕ). Stands bytes n (to_be_bytes w64 (Z / 2 ^ (64 * 0) % 2 ^ 64))) place
    (subst (λ (n : ℕ). Stands bytes at (to_be_bytes w64 n)) word (stands_first bytes at (to_be_bytes w64 (Z % 2 ^ 64)) (bytes_of_columns width (Z / 2 ^ 64)) s))
stands_word bytes at (suc width) Z (suc i) lt s =
    let place : at + 8 + 8 * i ≡ at + 8 * suc i = omega arith in
    let e : 64 + 64 * i ≡ 64 * suc i = omega arith in
    let word : Z / 2 ^ 64 / 2 ^ (64 * i) % 2 ^ 64 ≡ Z / 2 ^ (64 * suc i) % 2 ^ 64
    = ap (λ (n : ℕ). n % 2 ^ 64) (shr-shr Z 64 (64 * i) ∙ ap (λ (n : ℕ). Z / 2 ^ n) e) in
    subst (λ (n : ℕ). Stands bytes n (to_be_bytes w64 (Z / 2 ^ (64 * suc i) % 2 ^ 64))) place
    (subst (λ (n : ℕ). Stands bytes (at + 8 + 8 * i) (to_be_bytes w64 n)) word
    (stands_word bytes (at + 8) width (Z / 2 ^ 64) i (omega arith)
    (stands_then bytes at (to_be_bytes w64 (Z % 2 ^ 64)) (bytes_of_columns width (Z / 2 ^ 64)) (at + 8) refl s)))
