-- How far a universe is cut.
use Rattle.std.proofs.Common.{◌≡◌, ◌<◌, ◌≤◌, ◌+◌, ◌-◌, ◌*◌, ◌%◌, ◌^◌, ℕ, zero, suc, true, false, nat_le, refl, sym, ap, ◌∙◌, arith}
use Rattle.std.proofs.lemmas.Bool.{le-leb, lt-leb}
use Rattle.std.proofs.lemmas.Nat.{shl_whole}
use Rattle.card_core.specs.Filter.{greatest_shift, shift_for}

-- the shift so far
pub record Narrowing (identities shift : ℕ) : Type 0 where
  pub few : shift ≤ 8
  pub same : greatest_shift 8 identities ≡ greatest_shift shift identities

pub whole : (shift : ℕ) → shift ≤ 8 → 16384 * 2 ^ shift % 4294967296 ≡ 16384 * 2 ^ shift
whole shift few = shl_whole 16384 15 shift 32 (omega arith) (omega arith)

one_less : (n shift : ℕ) → 0 < shift → n < 16384 * 2 ^ shift → greatest_shift shift n ≡ greatest_shift (shift - 1) n
one_less n zero some lt = absurd (omega arith)
one_less n (suc s) some lt =
    let e : nat_le (2 ^ suc s * 16384) n ≡ false = lt-leb (2 ^ suc s * 16384) n (omega (arith, lt)) in
    let one : s ≡ suc s - 1 = omega arith in
    rw e (ap (λ (m : ℕ). greatest_shift m n) one)

pub at_zero : (n shift : ℕ) → shift ≤ 0 → greatest_shift shift n ≡ shift
at_zero n zero none = refl
at_zero n (suc s) none = absurd (omega (arith, none))

pub found : (n shift : ℕ) → 16384 * 2 ^ shift ≤ n → greatest_shift shift n ≡ shift
found n zero le = refl
found n (suc s) le = let e : nat_le (2 ^ suc s * 16384) n ≡ true = le-leb (2 ^ suc s * 16384) n (omega (arith, le)) in rw e refl

both_some : (revoked others : ℕ) → 1 ≤ revoked → 1 ≤ others → shift_for revoked others ≡ greatest_shift 8 (revoked + others)
both_some zero others some more = absurd (omega arith)
both_some (suc revoked) zero some more = absurd (omega arith)
both_some (suc revoked) (suc others) some more = refl

module _ (n shift : ℕ) (h : Narrowing n shift) where
  pub narrower : 0 < shift → n < 16384 * 2 ^ shift → Narrowing n (shift - 1)
  narrower some lt = record { few = omega (arith, h.few); same = h.same ∙ one_less n shift some lt }

  -- the shift at which the search ends
  pub ends_at : (revoked : ℕ) → (revoked ≡ 0 → ⊥) → (revoked ≡ n → ⊥) → revoked ≤ n → greatest_shift shift n ≡ shift → shift ≡ shift_for revoked (n - revoked)
  ends_at revoked some more among e =
      let all : revoked + (n - revoked) ≡ n = omega (arith, among) in
      sym (both_some revoked (n - revoked) (omega (arith, some)) (omega (arith, more, among)) ∙ ap (greatest_shift 8) all ∙ h.same ∙ e)
