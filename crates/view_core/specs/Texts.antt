-- Where a text stands in bytes that are lent.
use Rattle.std.specs.Prelude.{◌≡◌, ℕ, ◌+◌, List, [], ◌∷◌, ◌++◌, length, drop}

-- from this place on the bytes begin with this text
pub record Stands (bytes : List ℕ) (at : ℕ) (text : List ℕ) : Type 0 where
  pub behind : List ℕ
  pub is : drop at bytes ≡ text ++ behind

-- where each of some texts begins that stand one after the other, the first at this place
abbrev pub places_of : {X : Type 0} → (X → List ℕ) → ℕ → List X → List ℕ
places_of text at [] = []
places_of text at (x ∷ xs) = at ∷ places_of text (at + length (text x)) xs
