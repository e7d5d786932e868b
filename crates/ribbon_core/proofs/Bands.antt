-- A band system of one plane, as functions of the column: coefficient f p, with bit 0 at column p, and target g p.
-- Column 0 of Z is its bit 0.
use Rattle.std.proofs.Common.{◌≡◌, ℕ, zero, suc, ◌+◌, ◌*◌, ◌/◌, ◌%◌, ◌^◌, ◌<◌, ◌≤◌, ◌⊎◌, inl, inr, refl, sym, ◌∙◌, arith}
use Rattle.std.specs.Prelude.{bit_and}
use Rattle.std.proofs.lemmas.Nat.{shr-shr}
use Rattle.std.proofs.Math.Nat.{pow-suc}
use Rattle.ribbon_core.specs.Equations.{parity}
use Rattle.ribbon_core.specs.Bands.{column_before, back}
use Rattle.ribbon_core.proofs.Parity.{parity-lt, parity_step, parity_of_zero, and_half, and_low}

-- columns p to p + m - 1, which Z has from its bit 0 on
abbrev pub SolvesFrom : (ℕ → ℕ) → (ℕ → ℕ) → ℕ → ℕ → ℕ → Type 0
SolvesFrom f g p m Z = (d : ℕ) → d < m → parity (bit_and (f (p + d)) (Z / 2 ^ d)) ≡ g (p + d)

-- a column has a pivot, whose coefficient is odd, or no equation
abbrev pub IsBand : ℕ → ℕ → Type 0
IsBand c t = (t < 2) × ((c % 2 ≡ 1) ⊎ ((c ≡ 0) × (t ≡ 0)))

abbrev pub AreBands : (ℕ → ℕ) → (ℕ → ℕ) → ℕ → ℕ → Type 0
AreBands f g p m = (d : ℕ) → d < m → IsBand (f (p + d)) (g (p + d))

pub column_none : (c t h : ℕ) → c ≡ 0 → column_before c t h ≡ 2 * h
unfolding column_before
column_none c t h e = rw e (omega arith)

pub column_pivot : (c t h : ℕ) → c % 2 ≡ 1 → column_before c t h ≡ 2 * h + (t + parity (bit_and c (2 * h))) % 2
unfolding column_before
column_pivot c t h e = rw e (omega arith)

pub and_bit : (c b : ℕ) → c % 2 ≡ 1 → (b ≡ 0) ⊎ (b ≡ 1) → bit_and (c % 2) b ≡ b
and_bit c b h (inl e) = rw (e, h) refl
and_bit c b h (inr e) = rw (e, h) refl

pub below_two : (b : ℕ) → b < 2 → (b ≡ 0) ⊎ (b ≡ 1)
below_two b h = grind arith

-- the parity of an odd coefficient, column 0 apart
pub parity_odd : (c h b : ℕ) → c % 2 ≡ 1 → b < 2 → parity (bit_and c (2 * h + b)) ≡ (b + parity (bit_and (c / 2) h)) % 2
parity_odd c h b odd lt =
    let e : (2 * h + b) % 2 ≡ b = omega arith in
    let f : (2 * h + b) / 2 ≡ h = omega arith in
    let q : bit_and (c % 2) b ≡ b = and_bit c b odd (below_two b lt) in
    parity_step (bit_and c (2 * h + b)) ∙ rw (and_low, and_half, e, f, q) refl

pub parity_odd_zero : (c h : ℕ) → c % 2 ≡ 1 → parity (bit_and c (2 * h)) ≡ parity (bit_and (c / 2) h)
parity_odd_zero c h odd =
    let q = parity_odd c h 0 odd (omega arith) in
    let z : 2 * h + 0 ≡ 2 * h = omega arith in
    let q' : parity (bit_and c (2 * h)) ≡ (0 + parity (bit_and (c / 2) h)) % 2 = rw z at q in
    let l = parity-lt (bit_and (c / 2) h) in omega (arith, q', l)

pub band_kind : (c t : ℕ) → IsBand c t → (c % 2 ≡ 1) ⊎ (c ≡ 0)
band_kind c t (lt, inl odd) = inl odd
band_kind c t (lt, inr (e, o)) = inr e

pub column_half : (c t h : ℕ) → (c % 2 ≡ 1) ⊎ (c ≡ 0) → column_before c t h / 2 ≡ h
column_half c t h (inl e) = rw (column_pivot c t h e) (omega arith)
column_half c t h (inr e) = rw (column_none c t h e) (omega arith)

pub column_solves : (c t h : ℕ) → IsBand c t → parity (bit_and c (column_before c t h)) ≡ t
column_solves c t h (lt, inl odd) =
    let k : (t + parity (bit_and c (2 * h))) % 2 < 2 = omega arith in
    let p = parity_odd c h ((t + parity (bit_and c (2 * h))) % 2) odd k in
    let q = parity_odd_zero c h odd in
    rw (column_pivot c t h odd) (omega (arith, p, q))
column_solves c t h (lt, inr (e, o)) = rw (e, o) parity_of_zero

-- a solution has the same bit 0, where it has the same columns above a pivot
pub column_forced : (c t h y : ℕ) → c % 2 ≡ 1 → parity (bit_and c y) ≡ t → y / 2 ≡ h → y ≡ column_before c t h
column_forced c t h y odd s e =
    let q = parity_odd_zero c h odd in
    let b : y ≡ 2 * h + y % 2 = omega arith in
    let p = parity_odd c h (y % 2) odd (omega arith) in
    let p' : parity (bit_and c y) ≡ (y % 2 + parity (bit_and (c / 2) h)) % 2 = rw (← b) at p in
    let l = parity-lt (bit_and (c / 2) h) in
    rw (column_pivot c t h odd) (omega (arith, p', q, s, e, b, l))

-- no solution is less: h is at most the columns above, and where it is them, the lowest is forced or 0
pub column_le : (c t h y : ℕ) → IsBand c t → parity (bit_and c y) ≡ t → h ≤ y / 2 → column_before c t h ≤ y
column_le c t h y (lt, inl odd) s le =
    let cases : (h ≡ y / 2) ⊎ (h < y / 2) = grind arith in
    elim cases [ inl e ↦ (let f = column_forced c t h y odd s (sym e) in omega (arith, f)) | inr k ↦ (rw (column_pivot c t h odd) (omega arith)) ]
column_le c t h y (lt, inr (e, o)) s le = rw (column_none c t h e) (omega arith)

pub shift : (x d : ℕ) → x / 2 ^ suc d ≡ x / 2 / 2 ^ d
shift x d = let e : 1 + d ≡ suc d = omega arith in let h : x / 2 / 2 ^ d ≡ x / 2 ^ (1 + d) = shr-shr x 1 d in sym (rw e at h)

pub div_one : (x : ℕ) → x / 2 ^ 0 ≡ x
div_one x = omega arith

pub column_zero : (p : ℕ) → p + 0 ≡ p
column_zero p = omega arith

pub column_suc : (p d : ℕ) → p + suc d ≡ suc p + d
column_suc p d = omega arith

-- a system from column p on is its first column, and the others
pub solves_first : (f g : ℕ → ℕ) (p m Z : ℕ) → SolvesFrom f g p (suc m) Z → parity (bit_and (f p) Z) ≡ g p
solves_first f g p m Z s = let h = s 0 (omega arith) in rw (div_one, column_zero) at h

pub solves_rest : (f g : ℕ → ℕ) (p m Z : ℕ) → SolvesFrom f g p (suc m) Z → SolvesFrom f g (suc p) m (Z / 2)
solves_rest f g p m Z s d lt = let h = s (suc d) (omega arith) in rw (shift, column_suc) at h

pub solves_both : (f g : ℕ → ℕ) (p m Z : ℕ) → parity (bit_and (f p) Z) ≡ g p → SolvesFrom f g (suc p) m (Z / 2) → SolvesFrom f g p (suc m) Z
solves_both f g p m Z a b zero lt = rw (div_one, column_zero) a
solves_both f g p m Z a b (suc d) lt = rw (shift, column_suc) (b d (omega arith))

pub bands_first : (f g : ℕ → ℕ) (p m : ℕ) → AreBands f g p (suc m) → IsBand (f p) (g p)
bands_first f g p m s = let h = s 0 (omega arith) in rw column_zero at h

pub bands_rest : (f g : ℕ → ℕ) (p m : ℕ) → AreBands f g p (suc m) → AreBands f g (suc p) m
bands_rest f g p m s d lt = let h = s (suc d) (omega arith) in rw column_suc at h

pub back-solves : (f g : ℕ → ℕ) (p m : ℕ) → AreBands f g p m → SolvesFrom f g p m (back f g p m)
unfolding back
back-solves f g p zero bands = λ d lt. absurd (omega arith)
back-solves f g p (suc m) bands =
    solves_both f g p m (back f g p (suc m))
    (column_solves (f p) (g p) (back f g (suc p) m) (bands_first f g p m bands))
    (rw (column_half (f p) (g p) (back f g (suc p) m) (band_kind (f p) (g p) (bands_first f g p m bands))) (back-solves f g (suc p) m (bands_rest f g p m bands)))

-- the least of all solutions
pub back-le : (f g : ℕ → ℕ) (p m Y : ℕ) → AreBands f g p m → SolvesFrom f g p m Y → back f g p m ≤ Y
unfolding back
back-le f g p zero Y bands s = omega arith
back-le f g p (suc m) Y bands s =
    column_le (f p) (g p) (back f g (suc p) m) Y (bands_first f g p m bands) (solves_first f g p m Y s)
    (back-le f g (suc p) m (Y / 2) (bands_rest f g p m bands) (solves_rest f g p m Y s))

pub column_lt : (c t h : ℕ) → (c % 2 ≡ 1) ⊎ (c ≡ 0) → column_before c t h < 2 * h + 2
column_lt c t h (inl e) = rw (column_pivot c t h e) (omega arith)
column_lt c t h (inr e) = rw (column_none c t h e) (omega arith)

pub back-lt : (f g : ℕ → ℕ) (p m : ℕ) → AreBands f g p m → back f g p m < 2 ^ m
unfolding back
back-lt f g p zero bands = omega arith
back-lt f g p (suc m) bands =
    let h = column_lt (f p) (g p) (back f g (suc p) m) (band_kind (f p) (g p) (bands_first f g p m bands)) in
    let ih = back-lt f g (suc p) m (bands_rest f g p m bands) in
    let e : 2 ^ suc m ≡ 2 ^ m * 2 = pow-suc 2 m in
    rw e (omega (arith, h, ih))
