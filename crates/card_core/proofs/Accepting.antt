-- What the test compares is each plane's sum with the tag's bit.
use Rattle.std.proofs.Common.{◌≡◌, ◌<◌, ◌≤◌, ◌+◌, ◌*◌, ◌/◌, ◌%◌, ◌^◌, ◌&&◌, ℕ, zero, suc, Bool, true, false, nat_eq, refl, sym, ap, ◌∙◌, arith, eq-eqb, inl, inr}
use Rattle.std.specs.List.{list_all, range_with_len}
use Rattle.std.specs.Int.{bit_at}
use Rattle.std.proofs.lemmas.Bool.{eqb-true, cases_eq}
use Rattle.std.proofs.lemmas.Nat.{one_shl, pow_pos}
use Rattle.std.proofs.lemmas.Nat.Bits.{bit_at_cat_low, same_from_bits_below}
use Rattle.card_core.proofs.LeafLaws.{all_from}

pub bool_same : (a b : Bool) → (a ≡ true → b ≡ true) → (b ≡ true → a ≡ true) → a ≡ b
bool_same true b f g = sym (f refl)
bool_same false true f g = g refl
bool_same false false f g = refl

and_left : (a b : Bool) → (a && b) ≡ true → a ≡ true
and_left true b e = refl
and_left false b e = e

and_right : (a b : Bool) → (a && b) ≡ true → b ≡ true
and_right true b e = e
and_right false b e = cc

pub all_at : (f : ℕ → Bool) (a n : ℕ) → list_all f (range_with_len a n) ≡ true → (p : ℕ) → a ≤ p → p < a + n → f p ≡ true
all_at f a zero h p low high = absurd (omega arith)
all_at f a (suc n) h p low high = elim (cases_eq a p) [
  | inl e ↦ ap f (sym e) ∙ and_left (f a) _ h
  | inr ne ↦ all_at f (a + 1) n (and_right (f a) _ h) p (omega (arith, ne)) (omega arith)
]

low_bits : (k tag p : ℕ) → p < k → bit_at (tag % 2 ^ k) p ≡ bit_at tag p
low_bits k tag p lt =
    let e : tag / 2 ^ k * 2 ^ k + tag % 2 ^ k ≡ tag = omega arith in
    sym (bit_at_cat_low (tag / 2 ^ k) k (tag % 2 ^ k) p lt) ∙ ap (λ (n : ℕ). bit_at n p) e

low_below : (k tag : ℕ) → tag % 2 ^ k < 2 ^ k
low_below k tag = let h : 0 < 2 ^ k = pow_pos k in omega arith

module _ (k sums tag : ℕ) (f : ℕ → ℕ) (few : sums < 2 ^ k) (bits : (p : ℕ) → p < k → bit_at sums p ≡ f p) where
  bits_from : nat_eq sums (tag % 2 ^ k) ≡ true → list_all (λ p. nat_eq (f p) (bit_at tag p)) (range_with_len 0 k) ≡ true
  bits_from h =
      let e : sums ≡ tag % 2 ^ k = eqb-true _ _ h in
      all_from _ 0 k (λ p low high.
      let lt : p < k = omega arith in
      eq-eqb _ _ (sym (bits p lt) ∙ ap (λ (n : ℕ). bit_at n p) e ∙ low_bits k tag p lt))

  bits_to : list_all (λ p. nat_eq (f p) (bit_at tag p)) (range_with_len 0 k) ≡ true → nat_eq sums (tag % 2 ^ k) ≡ true
  bits_to h = eq-eqb _ _ (same_from_bits_below k sums (tag % 2 ^ k) few (low_below k tag) (λ p lt.
      let z : 0 ≤ p = omega arith in
      let lt' : p < 0 + k = omega arith in
      bits p lt ∙ eqb-true _ _ (all_at (λ p. nat_eq (f p) (bit_at tag p)) 0 k h p z lt') ∙ sym (low_bits k tag p lt)))

  pub accepts_bits : (n : ℕ) → n ≡ k → k ≤ 16 → nat_eq sums (tag % (1 * 2 ^ n % 4294967296)) ≡ list_all (λ p. nat_eq (f p) (bit_at tag p)) (range_with_len 0 k)
  accepts_bits n same le =
      let m : 1 * 2 ^ n % 2 ^ 32 ≡ 2 ^ k = one_shl n 32 (omega arith) ∙ ap (λ (j : ℕ). 2 ^ j) same in
      ap (λ (n : ℕ). nat_eq sums (tag % n)) m ∙ bool_same _ _ bits_from bits_to
