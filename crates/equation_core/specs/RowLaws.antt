-- A row cut from a digest is a row.
use Rattle.std.specs.Prelude.{◌≡◌, ◌<◌, ◌≤◌, ◌%◌, ℕ, zero, suc, refl, List, take, drop, bit_or}
use Rattle.std.proofs.Common.{arith, ◌∙◌}
use Rattle.std.proofs.lemmas.Nat.{or_mod}
use Rattle.sha2.specs.Sha256.{sha256}
use Rattle.ident_core.specs.declared.identity.Identity.{Identity}
use Rattle.equation_core.specs.Rows.{IsRow, row_text, sha256_row}
use Rattle.equation_core.specs.Digits.{AreBytes, digest-small, take-small, drop-small, two_bytes, coefficient_fits}

one_set : (r : ℕ) → r < 2 → bit_or r 1 ≡ 1
one_set zero h = refl
one_set (suc zero) h = refl
one_set (suc (suc r)) h = absurd (omega arith)

pub bit_or-one_odd : (n : ℕ) → bit_or n 1 % 2 ≡ 1
bit_or-one_odd n = or_mod n 1 1 ∙ one_set (n % 2) (omega arith)

pub sha256_row-is : (stage seed : ℕ) (id : Identity) (starts : ℕ) → 1 ≤ starts → IsRow starts (sha256_row stage seed id starts)
sha256_row-is stage seed id starts some =
    let d : List ℕ = sha256 (row_text stage seed id) in
    let small : AreBytes d = digest-small (row_text stage seed id) in
    record {
      start = omega arith;
      odd = bit_or-one_odd _;
      wide = coefficient_fits (take 16 d) (take-small 16 d small);
      tag = two_bytes (take 2 (drop 24 d)) (take-small 2 (drop 24 d) (drop-small 24 d small));
    }
