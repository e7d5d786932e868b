-- Steps that reduce a new equation against the kept ones, and what a stored one does.
use Rattle.std.proofs.Common.{◌≡◌, ℕ, zero, suc, ◌+◌, ◌-◌, ◌*◌, ◌/◌, ◌%◌, ◌^◌, ◌<◌, ◌≤◌, ◌≢◌, ◌↔◌, inl, inr, refl, sym, ap, ◌∙◌, arith, List, length, get_or, set, get_or-set_same, get_or-set_other}
use Rattle.std.proofs.lemmas.Bool.{cases_eq, cases_lt}
use Rattle.std.specs.Prelude.{bit_and, bit_xor}
use Rattle.std.specs.Int.{bit_at, w16, w64, w128, trailing_zeros}
use Rattle.std.specs.Int.Bits.{and_zero_l, xor_lt}
use Rattle.std.proofs.lemmas.Nat.{shr-shr, shr_below, mod-pow-add, field_of}
use Rattle.std.proofs.lemmas.Nat.Bits.{bit_at_xor, bit_at-lt, bit_at-zero, bit_at_above, bit_at-trailing_zeros}
use Rattle.std.proofs.lemmas.List.{length-set}
use Rattle.std.proofs.Math.Nat.{div-eq_of_lt}
use Rattle.std.proofs.Math.Pow.{pow_mono}
use Rattle.ribbon_core.specs.Equations.{parity}
use Rattle.ribbon_core.specs.Bands.{SolvesBands, AreBanded}
use Rattle.ribbon_core.proofs.Parity.{xor_low, parity-lt, parity_of_zero, parity-xor, parity_split}
use Rattle.ribbon_core.proofs.Words.{mod_shorter}

cancel : (a b d : ℕ) → a < 2 → b < 2 → (a + d) % 2 ≡ (b + d) % 2 → a ≡ b
cancel a b d h i e = omega arith

-- to add an equation that holds changes nothing
pub xor_step : (c d t u plane y : ℕ) → parity (bit_and d y) ≡ bit_at u plane
    → (parity (bit_and c y) ≡ bit_at t plane) ↔ (parity (bit_and (bit_xor c d) y) ≡ bit_at (bit_xor t u) plane)
xor_step c d t u plane y h =
    let a = parity-xor (c + d) c d y (omega arith) (omega arith) in
    let b = bit_at_xor t u plane in (
      λ e. a ∙ ap (λ (x : ℕ). (x + parity (bit_and d y)) % 2) e ∙ ap (λ (x : ℕ). (bit_at t plane + x) % 2) h ∙ sym b,
      λ e. cancel (parity (bit_and c y)) (bit_at t plane) (bit_at u plane) (parity-lt (bit_and c y)) (bit_at-lt t plane)
          (ap (λ (x : ℕ). (parity (bit_and c y) + x) % 2) (sym h) ∙ sym a ∙ e ∙ b),
    )

pub xor_even : (c d : ℕ) → c % 2 ≡ 1 → d % 2 ≡ 1 → bit_xor c d % 2 ≡ 0
xor_even c d h i = rw (xor_low, h, i) refl

-- a column with no pivot asks for nothing
pub free_column : (plane planes at Z : ℕ) (cs ts : List ℕ) → AreBanded cs ts planes → at < length cs → get_or cs at 0 ≡ 0
    → parity (bit_and (get_or cs at 0) (Z / 2 ^ at)) ≡ bit_at (get_or ts at 0) plane
free_column plane planes at Z cs ts bands lt free = elim (bands.pivots at lt) [
  | inl odd ↦ absurd (omega (arith, free, odd))
  | inr e ↦ (rw (free, e.1, and_zero_l, bit_at-zero) parity_of_zero)
]

pub store_solves : (plane planes at c t Z : ℕ) (cs ts : List ℕ) → AreBanded cs ts planes → at < length cs → get_or cs at 0 ≡ 0
    → SolvesBands plane (set cs at c) (set ts at t) Z ↔ (SolvesBands plane cs ts Z × (parity (bit_and c (Z / 2 ^ at)) ≡ bit_at t plane))
store_solves plane planes at c t Z cs ts bands lt free =
    let lt' : at < length ts = omega (arith, bands.same_length) in
    let n = length-set cs at c in (
      λ s. (
        λ p h. elim (cases_eq p at) [
          | inl e ↦ (rw e (free_column plane planes at Z cs ts bands lt free))
          | inr ne ↦ (let k = s p (omega (arith, n)) in rw (get_or-set_other, get_or-set_other) at k)
        ],
        let k = s at (omega (arith, n)) in rw (get_or-set_same, get_or-set_same) at k,
      ),
      λ s p h. elim (cases_eq p at) [
        | inl e ↦ (rw (e, get_or-set_same, get_or-set_same) s.1)
        | inr ne ↦ (rw (get_or-set_other, get_or-set_other) (s.0 p (omega (arith, n))))
      ],
    )

-- a target that is not 0 has a plane
pub plane_of : (t planes : ℕ) → t ≢ 0 → t < 2 ^ 16 → t < 2 ^ planes → (plane : ℕ) × (plane < planes) × (bit_at t plane ≡ 1)
plane_of t planes ne fits few =
    let h = bit_at-trailing_zeros w16 t (omega arith) fits in
    let z = bit_at_above t planes (trailing_zeros w16 t) few in (
      trailing_zeros w16 t,
      elim (cases_lt (trailing_zeros w16 t) planes) [ inl lt ↦ lt | inr le ↦ (absurd (let k = z le in let o = h.1 in cc)) ],
      h.1,
    )

-- where Z solves the kept equations, it solves the new one exactly if it solves what is left of it
abbrev pub SameGiven : List ℕ → List ℕ → ℕ → ℕ → ℕ → ℕ → ℕ → ℕ → Type 0
SameGiven cs ts start coeff target at c t = (plane Z : ℕ) → SolvesBands plane cs ts Z
    → (parity (bit_and coeff (Z / 2 ^ start)) ≡ bit_at target plane) ↔ (parity (bit_and c (Z / 2 ^ at)) ≡ bit_at t plane)

module _ (cs ts : List ℕ) (start coeff target planes : ℕ) (bands : AreBanded cs ts planes) where
  pub stored : (cs' ts' : List ℕ) (at c t : ℕ) → cs' ≡ cs → ts' ≡ ts → at < length cs → get_or cs at 0 ≡ 0 → SameGiven cs ts start coeff target at c t
      → (plane Z : ℕ) → SolvesBands plane (set cs' at c) (set ts' at t) Z ↔ (SolvesBands plane cs ts Z × (parity (bit_and coeff (Z / 2 ^ start)) ≡ bit_at target plane))
  stored cs' ts' at c t e f lt free same plane Z =
      let s = store_solves plane planes at c t Z cs ts bands lt free in
      rw (e, f) (λ x. let y = s.0 x in (y.0, (same plane Z y.0).1 y.1), λ y. s.1 (y.0, (same plane Z y.0).0 y.1))

  pub followed : (cs' ts' : List ℕ) (at c t : ℕ) → cs' ≡ cs → ts' ≡ ts → c ≡ 0 → t ≡ 0 → SameGiven cs ts start coeff target at c t
      → (plane Z : ℕ) → SolvesBands plane cs' ts' Z ↔ (SolvesBands plane cs ts Z × (parity (bit_and coeff (Z / 2 ^ start)) ≡ bit_at target plane))
  followed cs' ts' at c t e f c0 t0 same plane Z =
      let z : parity (bit_and c (Z / 2 ^ at)) ≡ bit_at t plane = rw (c0, t0, and_zero_l, bit_at-zero) parity_of_zero in
      rw (e, f) (λ s. (s, (same plane Z s).1 z), λ y. y.0)

  pub refused : (at c t : ℕ) → c ≡ 0 → t ≢ 0 → t < 2 ^ 16 → t < 2 ^ planes → SameGiven cs ts start coeff target at c t
      → (plane : ℕ) × (plane < planes) × ((Z : ℕ) → SolvesBands plane cs ts Z → parity (bit_and coeff (Z / 2 ^ start)) ≡ bit_at target plane → ⊥)
  refused at c t c0 ne fits few same =
      let p = plane_of t planes ne fits few in (
        p.0,
        p.1,
        λ Z s e.
            let k = (same p.0 Z s).0 e in
            let z : parity (bit_and c (Z / 2 ^ at)) ≡ 0 = rw (c0, and_zero_l) parity_of_zero in
            let o : bit_at t p.0 ≡ 1 = p.2 in cc,
      )

  pub odd_pivot : (at : ℕ) → at < length cs → get_or cs at 0 ≢ 0 → get_or cs at 0 % 2 ≡ 1
  odd_pivot at lt ne = elim (bands.pivots at lt) [ inl o ↦ o | inr e ↦ absurd (ne e.0) ]

  pub same_xor : (at c t : ℕ) → at < length cs → SameGiven cs ts start coeff target at c t
      → SameGiven cs ts start coeff target at (bit_xor c (get_or cs at 0)) (bit_xor t (get_or ts at 0))
  same_xor at c t lt same plane Z s =
      let k = same plane Z s in
      let x = xor_step c (get_or cs at 0) t (get_or ts at 0) plane (Z / 2 ^ at) (s at lt) in
      (λ e. x.0 (k.0 e), λ e. k.1 (x.1 e))

  pub within_xor : (at c : ℕ) → at < length cs → c < 2 ^ (length cs - at) → bit_xor c (get_or cs at 0) < 2 ^ (length cs - at)
  within_xor at c lt h = xor_lt (length cs - at) c (get_or cs at 0) h (bands.within at lt)

  pub few_xor : (at t : ℕ) → at < length cs → t < 2 ^ planes → bit_xor t (get_or ts at 0) < 2 ^ planes
  few_xor at t lt h = xor_lt planes t (get_or ts at 0) h (bands.few_planes at lt)

pub some_column : (n at c : ℕ) → at ≤ n → c ≢ 0 → c < 2 ^ (n - at) → at < n
some_column n at c le ne lt = elim (cases_lt at n) [
  | inl h ↦ h
  | inr h ↦ (let e : n - at ≡ 0 = omega arith in let k : c < 2 ^ 0 = rw e at lt in absurd (ne (omega arith)))
]

-- the loop of `reduce`: what it keeps true
pub record Reducing (cs ts cs' ts' : List ℕ) (start coeff target planes at c t : ℕ) : Type 0 where
  pub coeffs_kept : cs' ≡ cs
  pub targets_kept : ts' ≡ ts
  pub place : at ≤ length cs
  pub within : c < 2 ^ (length cs - at)
  pub few_planes : t < 2 ^ planes
  pub same : SameGiven cs ts start coeff target at c t

low_zeros : (k c : ℕ) → ((i : ℕ) → i < k → bit_at c i ≡ 0) → c % 2 ^ k ≡ 0
low_zeros zero c h = omega arith
low_zeros (suc k) c h =
    let a : c % 2 ^ k ≡ 0 = low_zeros k c (λ i lt. h i (omega arith)) in
    let b : c / 2 ^ k % 2 ≡ 0 = h k (omega arith) in
    let s = mod-pow-add c 1 k in
    let e : 1 + k ≡ suc k = omega arith in
    let s' : c % 2 ^ suc k ≡ (c / 2 ^ k % 2 ^ 1) * 2 ^ k + c % 2 ^ k = rw e at s in
    s' ∙ rw (a, b) (omega arith)

pub odd_some : (c : ℕ) → c % 2 ≡ 1 → c ≢ 0
odd_some c odd e = absurd (omega (arith, odd, e))

low_bit : (c i : ℕ) → i < 64 → bit_at (c % 2 ^ 64) i ≡ bit_at c i
low_bit c i lt =
    let e : 64 - i + i ≡ 64 = omega arith in
    let f : c % 2 ^ (64 - i + i) / 2 ^ i ≡ c / 2 ^ i % 2 ^ (64 - i) = field_of c (64 - i) i in
    let g : c % 2 ^ 64 / 2 ^ i ≡ c / 2 ^ i % 2 ^ (64 - i) = rw e at f in
    let d : 63 - i + 1 ≡ 64 - i = omega arith in
    let m : c / 2 ^ i % 2 ^ (63 - i + 1) % 2 ^ 1 ≡ c / 2 ^ i % 2 ^ 1 = mod_shorter (c / 2 ^ i) (63 - i) 1 in
    let m' : c / 2 ^ i % 2 ^ (64 - i) % 2 ^ 1 ≡ c / 2 ^ i % 2 ^ 1 = rw d at m in
    ap (λ (x : ℕ). x % 2) g ∙ m'

-- the zeros below the lowest one
pub lowest_one : (c : ℕ) → c ≢ 0 → c < 2 ^ 128 → (c % 2 ^ trailing_zeros w128 c ≡ 0) × (c / 2 ^ trailing_zeros w128 c % 2 ≡ 1)
lowest_one c ne lt =
    let h = bit_at-trailing_zeros w128 c (omega arith) lt in
    (low_zeros (trailing_zeros w128 c) c h.2, h.1)

-- where there is one among the low 64 bits
pub lowest_low : (c : ℕ) → c % 2 ^ 64 ≢ 0 → (c % 2 ^ trailing_zeros w64 (c % 2 ^ 64) ≡ 0) × (c / 2 ^ trailing_zeros w64 (c % 2 ^ 64) % 2 ≡ 1)
lowest_low c ne =
    let h = bit_at-trailing_zeros w64 (c % 2 ^ 64) (omega arith) (omega arith) in
    let few : trailing_zeros w64 (c % 2 ^ 64) < 64 = h.0 in (
      low_zeros (trailing_zeros w64 (c % 2 ^ 64)) c (λ i lt. sym (low_bit c i (omega (arith, few, lt))) ∙ h.2 i lt),
      sym (low_bit c (trailing_zeros w64 (c % 2 ^ 64)) few) ∙ h.1,
    )

-- an even number's lowest one isn't its lowest bit
pub skips : (c s : ℕ) → c % 2 ≡ 0 → c / 2 ^ s % 2 ≡ 1 → 0 < s
skips c zero even odd = absurd (omega (arith, even, odd))
skips c (suc s) even odd = omega arith

skip_at : (s c Z at : ℕ) → c % 2 ^ s ≡ 0 → parity (bit_and c (Z / 2 ^ at)) ≡ parity (bit_and (c / 2 ^ s) (Z / 2 ^ (at + s)))
skip_at s c Z at e =
    let p = parity_split s c (Z / 2 ^ at) in
    let q = rw (e, and_zero_l, parity_of_zero, shr-shr) at p in
    let l = parity-lt (bit_and (c / 2 ^ s) (Z / 2 ^ (at + s))) in
    omega (arith, q, l)

skip_within : (n at s c : ℕ) → at ≤ n → c / 2 ^ s % 2 ≡ 1 → c < 2 ^ (n - at) → (at + s < n) × (c / 2 ^ s < 2 ^ (n - (at + s)))
skip_within n at s c le odd lt = elim (cases_lt (at + s) n) [
  | inl h ↦
      (let e : n - at ≡ n - (at + s) + s = omega arith in
      let k : c < 2 ^ (n - (at + s) + s) = rw e at lt in
      (h, shr_below c (n - (at + s)) s k))
  | inr h ↦
      (let d : n - at ≤ s = omega arith in
      let m : 2 ^ (n - at) ≤ 2 ^ s = pow_mono d in
      let z : c / 2 ^ s ≡ 0 = div-eq_of_lt (omega (arith, m, lt)) in
      absurd (omega (arith, z, odd)))
]

module _ (cs ts cs' ts' : List ℕ) (start coeff target planes at c t : ℕ) (bands : AreBanded cs ts planes) (r : Reducing cs ts cs' ts' start coeff target planes at c t) where
  -- the zeros below the lowest one are left out
  pub skipped : (s : ℕ) → c % 2 ^ s ≡ 0 → c / 2 ^ s % 2 ≡ 1 → Reducing cs ts cs' ts' start coeff target planes (at + s) (c / 2 ^ s) t
  skipped s zeros odd =
      let w = skip_within (length cs) at s c r.place odd r.within in
      record {
        coeffs_kept = r.coeffs_kept;
        targets_kept = r.targets_kept;
        place = omega (arith, w.0);
        within = w.1;
        few_planes = r.few_planes;
        same = λ plane Z solves.
            let h = skip_at s c Z at zeros in
            let k = r.same plane Z solves in
            (λ x. sym h ∙ k.0 x, λ x. k.1 (h ∙ x));
      }

  pub column_in : c ≢ 0 → at < length cs
  column_in some = some_column (length cs) at c r.place some r.within

  pub reduced : c % 2 ≡ 1
      → Reducing cs ts cs' ts' start coeff target planes at (bit_xor c (get_or cs' at 0)) (bit_xor t (get_or ts' at 0))
  reduced odd =
      let some : c ≢ 0 = odd_some c odd in
      rw (r.coeffs_kept, r.targets_kept) (record {
        coeffs_kept = refl;
        targets_kept = refl;
        place = r.place;
        within = within_xor cs ts start coeff target planes bands at c (column_in some) r.within;
        few_planes = few_xor cs ts start coeff target planes bands at t (column_in some) r.few_planes;
        same = same_xor cs ts start coeff target planes bands at c t (column_in some) r.same;
      })

  -- what is left has no one at the pivot's column
  pub reduced_even : c % 2 ≡ 1 → get_or cs' at 0 ≢ 0 → bit_xor c (get_or cs' at 0) % 2 ≡ 0
  reduced_even odd ne =
      let ne' : get_or cs at 0 ≢ 0 = rw r.coeffs_kept at ne in
      rw r.coeffs_kept (xor_even c (get_or cs at 0) odd (odd_pivot cs ts start coeff target planes bands at (column_in (odd_some c odd)) ne'))
