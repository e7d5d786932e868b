-- Two decimal digits, the letter Z and the end: what is read of a time's text is what stands there.
use Rattle.std.proofs.Common.{◌≡◌, ℕ, ◌+◌, ◌-◌, ◌*◌, ◌/◌, ◌%◌, ◌<◌, ◌≤◌, List, [], ◌∷◌, ◌++◌, Bool, true, false, ◌&&◌, nat_eq, nat_le, Some, refl, ap, subst, arith}
use Rattle.std.proofs.lemmas.Bool.Decides.{nat_tests}
use Rattle.der_core.specs.Times.{is_digit, two_digits, zulu}
use Rattle.der_core.specs.TimeGrammar.{digits}
use Rattle.der_core.proofs.ItemLaws.{same_number}
use Rattle.der_core.proofs.WalkLaws.{chosen_some}

pub both_true : (a b : Bool) → (a && b) ≡ true → (a ≡ true) × (b ≡ true)
both_true true b h = (refl, h)
both_true false b h = cc

pub test-le : (a b : ℕ) → nat_le a b ≡ true → a ≤ b
test-le a b h = grind (arith, nat_tests)

pub le-test : (a b : ℕ) → a ≤ b → nat_le a b ≡ true
le-test a b h = grind (arith, nat_tests)

digit-read : (n : ℕ) → n < 10 → is_digit (0x30 + n) ≡ true
digit-read n h = rw (le-test 48 (0x30 + n) (omega arith), le-test (0x30 + n) 57 (omega arith)) refl

digit-taken : (b : ℕ) → is_digit b ≡ true → (48 ≤ b) × (b ≤ 57)
digit-taken b h = let t = both_true (nat_le 48 b) (nat_le b 57) h in (test-le 48 b t.0, test-le b 57 t.1)

pub two_digits-read : (n : ℕ) (rest : List ℕ) → n < 100 → two_digits (digits n ++ rest) ≡ Some (n, rest)
unfolding two_digits
two_digits-read n rest h =
    let value : 10 * (0x30 + n / 10 - 48) + (0x30 + n % 10 - 48) ≡ n = omega arith in
    rw (digit-read (n / 10) (omega arith), digit-read (n % 10) (omega arith), value) refl

pub two_digits-taken : (text : List ℕ) (x : ℕ × List ℕ) → two_digits text ≡ Some x → (x.0 < 100) × (text ≡ digits x.0 ++ x.1)
unfolding two_digits
two_digits-taken [] x h = cc
two_digits-taken (a ∷ []) x h = cc
two_digits-taken (a ∷ b ∷ rest) x h =
    let n = 10 * (a - 48) + (b - 48) in
    let pair : ℕ × List ℕ = (n, rest) in
    let c = chosen_some (is_digit a && is_digit b) pair x h in
    let t = both_true (is_digit a) (is_digit b) c.0 in
    let first = digit-taken a t.0 in
    let second = digit-taken b t.1 in
    let tens : 0x30 + n / 10 ≡ a = omega (arith, first, second) in
    let ones : 0x30 + n % 10 ≡ b = omega (arith, first, second) in
    let P : ℕ × List ℕ → Type 0 = λ p. (p.0 < 100) × ((a ∷ b ∷ rest) ≡ digits p.0 ++ p.1) in
    subst P c.1 (omega (arith, first, second), rw (tens, ones) refl)

pub zulu-read : (rest : List ℕ) → zulu (0x5a ∷ rest) ≡ Some (tt, rest)
unfolding zulu
zulu-read rest = refl

pub zulu-taken : (text : List ℕ) (x : Unit {0} × List ℕ) → zulu text ≡ Some x → text ≡ 0x5a ∷ x.1
unfolding zulu
zulu-taken [] x h = cc
zulu-taken (b ∷ rest) x h =
    let pair : Unit {0} × List ℕ = (tt, rest) in
    let c = chosen_some (nat_eq b 90) pair x h in
    let P : Unit {0} × List ℕ → Type 0 = λ p. (b ∷ rest) ≡ 0x5a ∷ p.1 in
    subst P c.1 (ap (λ (z : ℕ). z ∷ rest) (same_number b 90 c.0))
