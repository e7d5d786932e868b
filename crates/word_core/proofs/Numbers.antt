-- Numbers that words spell.
use Rattle.std.proofs.Common.{◌≡◌, ℕ, ◌^◌, ◌<◌, ◌≤◌, Bool, true, false, cond, ltb, List, length, Some, None, Ok, Err, refl, sym, ap, ◌∙◌, arith, rules}
use Rattle.std.specs.List.{list_all}
use Rattle.std.specs.Char.{is_ascii_digit}
use Rattle.std.specs.Str.Parse.{digits_value, ParsesUnsigned}
use Rattle.std.proofs.lemmas.Str.Parse.{IsNumeralModel, numerals_by_value, parse_digits}
use Rattle.std.proofs.lemmas.Bool.{lt-ltb, le-ltb}
use Rattle.std.proofs.lemmas.Bool.Decides.{nat_tests}
use Rattle.octets_core.specs.Layout.{within}
use Rattle.word_core.specs.Words.{number_of}

not_lt : (a b : ℕ) → (a < b → ⊥) → b ≤ a
not_lt a b h = omega arith

digits : IsNumeralModel (λ ds. list_all is_ascii_digit ds ≡ true) (digits_value 10)
digits = numerals_by_value _ (search rules)

number_is : (word : List ℕ) (b : Bool) → list_all is_ascii_digit word ≡ true → 1 ≤ length word → length word ≤ 20 → ltb (digits_value 10 word) (2 ^ 64) ≡ b
    → number_of word ≡ cond b (Some (digits_value 10 word)) None
number_is word b d one few lt =
    let w : within 1 20 (length word) ≡ true = grind (arith, nat_tests) in
    rw (w, d, lt) refl

pub number_of-parsed : (E : Type 0) (word : List ℕ) (n : ℕ) → ParsesUnsigned {E = E} 64 10 word (Ok n) → list_all is_ascii_digit word ≡ true → 1 ≤ length word
    → length word ≤ 20 → Some n ≡ number_of word
number_of-parsed E word n h d one few =
    let p = parse_digits digits {E = E} 64 word (Ok n) h d in
    ap (λ (k : ℕ). Some k) p.1 ∙ sym (number_is word true d one few (lt-ltb _ _ p.0.1))

pub number_of-refused : (E : Type 0) (word : List ℕ) (e : E) → ParsesUnsigned {E = E} 64 10 word (Err e) → list_all is_ascii_digit word ≡ true → 1 ≤ length word
    → length word ≤ 20 → None ≡ number_of word
number_of-refused E word e h d one few =
    let p = parse_digits digits {E = E} 64 word (Err e) h d in
    sym (number_is word false d one few (le-ltb _ _ (not_lt _ _ (λ lt. p (omega arith, lt)))))
