-- Lists of which each element is held to those before it, and keys in order.
use Rattle.std.specs.Prelude.{ℕ, List, [], ◌∷◌, Bool, true, Option, Some, None}
use Rattle.std.specs.Ordering.{nat_cmp, is_lt}
use Rattle.std.specs.Cmp.Lexicographic.{slice_cmp}

-- P holds of each element and the state that those before it leave
abbrev pub Linked : {S X : Type 0} → (S → X → Type 0) → (S → X → S) → S → List X → Type 0
Linked P next s [] = Unit {0}
Linked P next s (x ∷ xs) = P s x × Linked P next (next s x) xs

-- above the key before, if there is one
abbrev pub is_after : Option (List ℕ) → List ℕ → Bool
is_after None key = true
is_after (Some previous) key = is_lt (slice_cmp nat_cmp previous key)
