-- How wide the approximate stage is.
use Rattle.std.proofs.Common.{◌≡◌, ◌<◌, ◌≤◌, ◌+◌, ◌*◌, ◌%◌, ◌^◌, ◌⊎◌, ◌-◌, ℕ, Bool, List, length, map, not, inl, inr, refl, sym, ◌∙◌, subst, arith}
use Rattle.std.proofs.lemmas.Nat.{shl_whole, pow_below, pow_pos}
use Rattle.std.proofs.lemmas.Bool.{cases_lt}
use Rattle.std.proofs.Math.Nat.{mul-le-mul_left}
use Rattle.std.specs.List.{filter}
use Rattle.ident_core.specs.declared.identity.Identity.{Identity}
use Rattle.card_core.specs.Leaf.{IsWidth, flagged}
use Rattle.stage_core.proofs.Flags.{flagged_count, flagged_lengths}

-- the width so far
pub record Widening (revoked others width : ℕ) : Type 0 where
  pub most : width ≤ 16
  pub fits : (width ≡ 0) ⊎ (revoked * 2 ^ width ≤ others)

pub shifted : (r k : ℕ) → r < 2 ^ 32 → k ≤ 16 → r * 2 ^ k % 18446744073709551616 ≡ r * 2 ^ k
shifted r k lt le = shl_whole r 32 k 64 lt (omega arith)

power_le : (i j : ℕ) → i ≤ j → 2 ^ i ≤ 2 ^ j
power_le i j le = elim (cases_lt i j) [
  | inl lt ↦ (let h = pow_below i j lt in omega (arith, h))
  | inr ge ↦ (let e : i ≡ j = omega arith in rw e (omega arith))
]

pub begun : (r n : ℕ) → Widening r n 0
begun r n = record { most = omega arith; fits = inl refl }

module _ (r n w : ℕ) (h : Widening r n w) where
  fits_from : r ≤ n → r * 2 ^ w ≤ n
  fits_from le = elim h.fits [ inl e ↦ rw e (omega arith) | inr f ↦ f ]

  none_from : n < r → w ≡ 0
  none_from lt = elim h.fits [
    | inl e ↦ e
    | inr f ↦ (let p = pow_pos w in let q : r * 1 ≤ r * 2 ^ w = mul-le-mul_left r (omega (arith, p)) in absurd (omega (arith, q, f)))
  ]

  -- no wider one fits
  pub width_found : (w ≡ 16) ⊎ (n < r * 2 ^ (w + 1)) → IsWidth r n w
  width_found end = record {
    most = h.most;
    fits = fits_from;
    none = none_from;
    greatest = λ j le f. elim (cases_lt w j) [
      | inl lt ↦ elim end [
        | inl e ↦ omega (arith, e)
        | inr g ↦ (let p = power_le (w + 1) j (omega arith) in let q : r * 2 ^ (w + 1) ≤ r * 2 ^ j = mul-le-mul_left r p in absurd (omega (arith, q, g, f)))
      ]
      | inr ge ↦ ge
    ];
  }

-- the width for as many as the flags say
pub width_of : (xs : List Identity) (fs : List Bool) (keys k : ℕ) → length fs ≡ length xs → keys ≡ length (filter (λ flag. flag) fs) → IsWidth keys (length xs - keys) k
    → IsWidth (length (flagged xs fs)) (length (flagged xs (map not fs))) k
width_of xs fs keys k same count w =
    let r : keys ≡ length (flagged xs fs) = count ∙ sym (flagged_count xs fs (omega (arith, same))) in
    let o : length xs - keys ≡ length (flagged xs (map not fs)) = omega (arith, r, flagged_lengths xs fs same) in
    subst (λ (n : ℕ). IsWidth (length (flagged xs fs)) n k) o (subst (λ (n : ℕ). IsWidth n (length xs - keys) k) r w)
