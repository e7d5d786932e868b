-- A list that is read element by element.
use Rattle.std.proofs.Common.{◌≡◌, ℕ, zero, suc, ◌+◌, ◌≤◌, List, [], ◌∷◌, take, drop, get_or, length, refl, sym, ap, ◌∙◌, arith}
use Rattle.std.proofs.lemmas.List.{drop_more}

-- so many elements from a place on
abbrev elements : List ℕ → ℕ → ℕ → List ℕ
elements xs i zero = []
elements xs i (suc n) = get_or xs i 0 ∷ elements xs (i + 1) n

pub elements-are : (xs : List ℕ) (i n : ℕ) → i + n ≤ length xs → elements xs i n ≡ take n (drop i xs)
elements-are xs i zero le = refl
elements-are xs i (suc n) le =
    ap (λ (rest : List ℕ). get_or xs i 0 ∷ rest) (elements-are xs (i + 1) n (omega (arith, le))) ∙ sym (ap (take (suc n)) (drop_more xs i 0 (omega (arith, le))))
