-- To be below another vector at the highest column where they differ is to be less as a number.
use Rattle.std.proofs.Common.{◌≡◌, ℕ, zero, suc, ◌/◌, ◌%◌, ◌<◌, ◌≤◌, ◌≢◌, ◌↔◌, inl, inr, sym, ap, ◌∙◌, arith, List}
use Rattle.std.specs.Int.{bit_at}
use Rattle.std.proofs.lemmas.Bool.{cases_eq, cases_lt}
use Rattle.std.proofs.lemmas.Nat.Bits.{bit_at-lt, bit_at-suc, bit_at_lowest, same_from_bits}
use Rattle.ribbon_core.specs.Equations.{Equation, IsBelow, Least, SolvesAll}

strict : (Z Y : ℕ) → Z ≤ Y → Y ≢ Z → Z < Y
strict Z Y le ne = omega arith

halves_same : (Z Y : ℕ) → Y / 2 ≤ Z / 2 → Z < Y → Z / 2 ≡ Y / 2
halves_same Z Y le lt = omega arith

higher_same : (Z Y : ℕ) → Z / 2 ≡ Y / 2 → (d : ℕ) → 0 < d → bit_at Z d ≡ bit_at Y d
higher_same Z Y e zero lt = absurd (omega arith)
higher_same Z Y e (suc d) lt = bit_at-suc Z d ∙ ap (λ (x : ℕ). bit_at x d) e ∙ sym (bit_at-suc Y d)

above_next : (Z Y c : ℕ) → ((d : ℕ) → c < d → bit_at (Z / 2) d ≡ bit_at (Y / 2) d) → (d : ℕ) → suc c < d → bit_at Z d ≡ bit_at Y d
above_next Z Y c h zero lt = absurd (omega arith)
above_next Z Y c h (suc d) lt = bit_at-suc Z d ∙ h d (omega arith) ∙ sym (bit_at-suc Y d)

below_next : (Z Y : ℕ) → IsBelow (Z / 2) (Y / 2) → IsBelow Z Y
below_next Z Y b = (suc b.0, bit_at-suc Z b.0 ∙ b.1, bit_at-suc Y b.0 ∙ b.2, above_next Z Y b.0 b.3)

below_within : (k Z Y : ℕ) → Y ≤ k → Z < Y → IsBelow Z Y
below_within zero Z Y le lt = absurd (omega arith)
below_within (suc k) Z Y le lt = elim (cases_lt (Z / 2) (Y / 2)) [
  | inl h ↦ below_next Z Y (below_within k (Z / 2) (Y / 2) (omega arith) h)
  | inr h ↦ (let e = halves_same Z Y h lt in
      (0, bit_at_lowest Z ∙ omega arith, bit_at_lowest Y ∙ omega arith, higher_same Z Y e))
]

pub below_from_lt : (Z Y : ℕ) → Z < Y → IsBelow Z Y
below_from_lt Z Y lt = below_within Y Z Y (omega arith) lt

lt_at : (c Z Y : ℕ) → bit_at Z c ≡ 0 → bit_at Y c ≡ 1 → ((d : ℕ) → c < d → bit_at Z d ≡ bit_at Y d) → Z < Y
lt_at zero Z Y z y h =
    let e : Z / 2 ≡ Y / 2 = same_from_bits (Z / 2) (Y / 2) (λ i. sym (bit_at-suc Z i) ∙ h (suc i) (omega arith) ∙ bit_at-suc Y i) in
    let z' : Z % 2 ≡ 0 = sym (bit_at_lowest Z) ∙ z in
    let y' : Y % 2 ≡ 1 = sym (bit_at_lowest Y) ∙ y in
    omega (arith, e, z', y')
lt_at (suc c) Z Y z y h =
    let r = lt_at c (Z / 2) (Y / 2) (sym (bit_at-suc Z c) ∙ z) (sym (bit_at-suc Y c) ∙ y) (λ d lt. sym (bit_at-suc Z d) ∙ h (suc d) (omega arith) ∙ bit_at-suc Y d) in
    omega (arith, r)

pub lt_from_below : (Z Y : ℕ) → IsBelow Z Y → Z < Y
lt_from_below Z Y b = lt_at b.0 Z Y b.1 b.2 b.3

pub least_from_le : (plane : ℕ) (es : List Equation) (Z : ℕ) → SolvesAll plane es Z → ((Y : ℕ) → SolvesAll plane es Y → Z ≤ Y) → Least plane es Z
least_from_le plane es Z s le = (s, λ Y t ne. below_from_lt Z Y (strict Z Y (le Y t) ne))

pub least_le : (plane : ℕ) (es : List Equation) (Z Y : ℕ) → Least plane es Z → SolvesAll plane es Y → Z ≤ Y
least_le plane es Z Y l s = elim (cases_eq Y Z) [
  | inl e ↦ omega (arith, e)
  | inr ne ↦ (let h = lt_from_below Z Y (l.1 Y s ne) in omega (arith, h))
]

pub least_unique : (plane : ℕ) (es : List Equation) (Y Z : ℕ) → Least plane es Y → Least plane es Z → Y ≡ Z
least_unique plane es Y Z a b =
    let h = least_le plane es Y Z a b.0 in
    let k = least_le plane es Z Y b a.0 in omega (arith, h, k)

-- equations with the same solutions have the same least one
pub least_same : (plane : ℕ) (es fs : List Equation) (Z : ℕ) → ((Y : ℕ) → SolvesAll plane es Y ↔ SolvesAll plane fs Y) → Least plane es Z → Least plane fs Z
least_same plane es fs Z h l = ((h Z).0 l.0, λ Y s. l.1 Y ((h Y).1 s))

-- the highest column where two vectors differ decides
pub below_highest : (Z Y c : ℕ) → bit_at Z c ≢ bit_at Y c → ((d : ℕ) → c < d → bit_at Z d ≡ bit_at Y d) → IsBelow Z Y ↔ (bit_at Z c ≡ 0)
below_highest Z Y c differ agree = (
  λ b. elim (cases_lt c b.0) [
    | inl lt ↦ (let e = agree b.0 lt in let z = b.1 in let o = b.2 in absurd (omega (arith, e, z, o)))
    | inr le ↦
        (elim (cases_eq b.0 c) [
          | inl e ↦ (let z = b.1 in rw e at z)
          | inr ne ↦ absurd (differ (b.3 c (omega arith)))
        ])
  ],
  λ z. (c, z, (let lt = bit_at-lt Y c in let ne : bit_at Y c ≢ 0 = λ o. differ (z ∙ sym o) in omega (arith, lt, ne)), agree),
)

pub below_lesser : (Z Y : ℕ) → IsBelow Z Y ↔ (Z < Y)
below_lesser Z Y = (lt_from_below Z Y, below_from_lt Z Y)
