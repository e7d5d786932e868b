-- How far a universe is cut, apart from how that is found.
use Rattle.std.proofs.Common.{◌≡◌, ◌<◌, ◌≤◌, ◌+◌, ◌*◌, ◌^◌, ◌⊎◌, inl, inr, ⊎_elim, ℕ, zero, suc, true, false, nat_le, refl, arith}
use Rattle.std.proofs.lemmas.Bool.{cases_eq, cases_lt, le-leb, lt-leb}
use Rattle.card_core.specs.Filter.{greatest_shift}
use Rattle.builder_core.specs.Laws.{ShiftsAreGreatest}

-- the greatest shift up to a bound
record IsGreatestShift (n most shift : ℕ) : Type 0 where
  few : shift ≤ most
  room : 1 ≤ shift → 2 ^ shift * 16384 ≤ n
  greatest : (j : ℕ) → 1 ≤ j → j ≤ most → 2 ^ j * 16384 ≤ n → j ≤ shift

wider : (n s : ℕ) → (n < 2 ^ suc s * 16384) ⊎ (2 ^ suc s * 16384 ≤ n) → IsGreatestShift n s (greatest_shift s n)
    → IsGreatestShift n (suc s) (greatest_shift (suc s) n)
wider n s (inr fits) h =
    let e : nat_le (2 ^ suc s * 16384) n ≡ true = le-leb (2 ^ suc s * 16384) n fits in
    rw e (record { few = omega arith; room = λ some. fits; greatest = λ j some le f. le })
wider n s (inl less) h =
    let e : nat_le (2 ^ suc s * 16384) n ≡ false = lt-leb (2 ^ suc s * 16384) n less in
    rw e (record {
      few = omega (arith, h.few);
      room = h.room;
      greatest = λ j some le f. elim (cases_eq j (suc s)) [
        | inl is ↦ (let g : 2 ^ suc s * 16384 ≤ n = rw is at f in absurd (omega (arith, g, less)))
        | inr differ ↦ h.greatest j some (omega (arith, le, differ)) f
      ];
    })

greatest_is : (n s : ℕ) → IsGreatestShift n s (greatest_shift s n)
greatest_is n zero = record { few = omega arith; room = λ some. absurd (omega (arith, some)); greatest = λ j some le f. le }
greatest_is n (suc s) = wider n s (cases_lt n (2 ^ suc s * 16384)) (greatest_is n s)

pub shifts_greatest : ShiftsAreGreatest
shifts_greatest zero others = record {
  most = omega arith;
  none = λ h. refl;
  room = λ some. absurd (omega (arith, some));
  greatest = λ some more j low le f. absurd (omega (arith, some));
}
shifts_greatest (suc revoked) zero = record {
  most = omega arith;
  none = λ h. refl;
  room = λ some. absurd (omega (arith, some));
  greatest = λ some more j low le f. absurd (omega (arith, more));
}
shifts_greatest (suc revoked) (suc others) =
    let g = greatest_is (suc revoked + suc others) 8 in
    record {
      most = g.few;
      none = λ h. ⊎_elim (λ e. absurd (omega (arith, e))) (λ e. absurd (omega (arith, e))) h;
      room = g.room;
      greatest = λ some more j low le f. g.greatest j low le f;
    }
