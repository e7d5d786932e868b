-- The equations of a plane have a least solution, or none: the lowest columns decide, so that a search ends.
use Rattle.std.proofs.Common.{◌≡◌, ℕ, zero, suc, ◌+◌, ◌-◌, ◌*◌, ◌/◌, ◌%◌, ◌^◌, ◌<◌, ◌≤◌, ◌⊎◌, inl, inr, sym, ap, ◌∙◌, arith, List, [], ◌∷◌}
use Rattle.std.specs.Prelude.{bit_and}
use Rattle.std.specs.Int.{bit_at}
use Rattle.std.proofs.lemmas.Bool.{cases_eq, cases_lt}
use Rattle.std.proofs.lemmas.Nat.{pow_pos, mod_below, shr_split, shl-shr, mod-pow-add}
use Rattle.std.proofs.lemmas.List.Elements.{All-nil, All-cons, All-head, All-tail}
use Rattle.std.proofs.Math.Nat.{pow-suc}
use Rattle.std.proofs.Math.Pow.{pow_mono, mod-mod-pow}
use Rattle.ribbon_core.specs.Equations.{Equation, parity, sum_of, Solves, SolvesAll, IsSolvable, Least}
use Rattle.ribbon_core.proofs.LeastLaws.{least_from_le}
use Rattle.ribbon_core.proofs.Window.{parity_mod}

-- ---- a search

module _ (P : ℕ → Type 0) where
  -- the first of the numbers below n that P holds of
  abbrev pub FirstBelow : ℕ → Type 0
  FirstBelow n = (k : ℕ) × (k < n) × P k × ((j : ℕ) → j < k → P j → ⊥)

  abbrev pub NoneBelow : ℕ → Type 0
  NoneBelow n = (k : ℕ) → k < n → P k → ⊥

  none_next : (n : ℕ) → NoneBelow n → (P n → ⊥) → NoneBelow (suc n)
  none_next n none not k lt p = elim (cases_lt k n) [
    | inl less ↦ none k less p
    | inr more ↦ (let e : k ≡ n = omega (arith, lt, more) in let q : P n = rw e at p in not q)
  ]

  pub first_or_none : ((k : ℕ) → P k ⊎ (P k → ⊥)) → (n : ℕ) → FirstBelow n ⊎ NoneBelow n
  first_or_none decide zero = inr (λ k lt p. absurd (omega (arith, lt)))
  first_or_none decide (suc n) = elim (first_or_none decide n) [
    | inl f ↦ inl (f.0, omega (arith, f.1), f.2, f.3)
    | inr none ↦
        (elim (decide n) [
          | inl p ↦ inl (n, omega arith, p, none)
          | inr not ↦ inr (none_next n none not)
        ])
  ]

-- ---- the columns that decide

-- no equation chooses a column from this one on
abbrev enough : List Equation → ℕ
enough [] = 0
enough (e ∷ es) = e.start + e.coeff + enough es

below_power : (n : ℕ) → n < 2 ^ n
below_power zero = omega arith
below_power (suc n) = let ih = below_power n in let e = pow-suc 2 n in omega (arith, ih, e)

window : (start w Z : ℕ) → Z % 2 ^ (w + start) / 2 ^ start ≡ Z / 2 ^ start % 2 ^ w
window start w Z =
    let n : ℕ = Z % 2 ^ (w + start) in
    let q : ℕ = Z / 2 ^ start % 2 ^ w in
    let split : n / 2 ^ start * 2 ^ start + n % 2 ^ start ≡ n = shr_split n start in
    let low : n % 2 ^ start ≡ Z % 2 ^ start = mod-mod-pow Z w start in
    let cut : n ≡ q * 2 ^ start + Z % 2 ^ start = mod-pow-add Z w start in
    let same : n / 2 ^ start * 2 ^ start ≡ q * 2 ^ start = omega (arith, split, low, cut) in
    sym (shl-shr (n / 2 ^ start) start) ∙ ap (λ (m : ℕ). m / 2 ^ start) same ∙ shl-shr q start

sum_low : (e : Equation) (w Z : ℕ) → e.coeff < 2 ^ w → sum_of e (Z % 2 ^ (w + e.start)) ≡ sum_of e Z
sum_low e w Z lt = ap (λ (n : ℕ). parity (bit_and e.coeff n)) (window e.start w Z) ∙ parity_mod w e.coeff (Z / 2 ^ e.start) lt

sum_within : (e : Equation) (columns Z : ℕ) → e.start + e.coeff ≤ columns → sum_of e (Z % 2 ^ columns) ≡ sum_of e Z
sum_within e columns Z le =
    let w : ℕ = columns - e.start in
    let whole : w + e.start ≡ columns = omega (arith, le) in
    let few : 2 ^ e.coeff ≤ 2 ^ w = pow_mono (omega (arith, le)) in
    let below = below_power e.coeff in
    let h = sum_low e w Z (omega (arith, few, below)) in rw whole at h

module _ (plane : ℕ) where
  solves_within : (columns Z : ℕ) (es : List Equation) → enough es ≤ columns → SolvesAll plane es Z → SolvesAll plane es (Z % 2 ^ columns)
  solves_within columns Z [] le s = All-nil (λ e. Solves plane e (Z % 2 ^ columns))
  solves_within columns Z (e ∷ es) le s =
      All-cons (λ e. Solves plane e (Z % 2 ^ columns)) e es
      (sum_within e columns Z (omega (arith, le)) ∙ All-head (λ e. Solves plane e Z) e es s)
      (solves_within columns Z es (omega (arith, le)) (All-tail (λ e. Solves plane e Z) e es s))

  solves_or_not : (Z : ℕ) (es : List Equation) → SolvesAll plane es Z ⊎ (SolvesAll plane es Z → ⊥)
  solves_or_not Z [] = inl (All-nil (λ e. Solves plane e Z))
  solves_or_not Z (e ∷ es) = elim (cases_eq (sum_of e Z) (bit_at e.targets plane)) [
    | inr not ↦ inr (λ s. not (All-head (λ e. Solves plane e Z) e es s))
    | inl one ↦
        (elim (solves_or_not Z es) [
          | inl all ↦ inl (All-cons (λ e. Solves plane e Z) e es one all)
          | inr not ↦ inr (λ s. not (All-tail (λ e. Solves plane e Z) e es s))
        ])
  ]

  first_is_least : (es : List Equation) (n : ℕ) (f : FirstBelow (SolvesAll plane es) n) → Least plane es f.0
  first_is_least es n f = least_from_le plane es f.0 f.2 (λ Y s. elim (cases_lt Y f.0) [
    | inl lt ↦ absurd (f.3 Y lt s)
    | inr le ↦ le
  ])

  -- the search, and with it the choice
  pub least_or_none : (es : List Equation) → ((Z : ℕ) × Least plane es Z) ⊎ (IsSolvable plane es → ⊥)
  least_or_none es = elim (first_or_none (SolvesAll plane es) (λ Z. solves_or_not Z es) (2 ^ enough es)) [
    | inl f ↦ inl (f.0, first_is_least es (2 ^ enough es) f)
    | inr none ↦
        inr (λ s. none (s.0 % 2 ^ enough es) (mod_below s.0 (2 ^ enough es) (pow_pos (enough es))) (solves_within (enough es) s.0 es (omega arith) s.1))
  ]
