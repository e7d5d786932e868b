-- Texts of places, which grow.
use Rattle.std.specs.Prelude.{◌≡◌, ℕ, zero, suc, ◌==◌, ◌<◌, List, [], ◌∷◌, ◌++◌, length, Bool, true, if◌then◌else◌}
use Rattle.std.specs.Prelude.{Option, Some, None}
use Rattle.std.specs.declared.vec.Vec.{Vec}
use Rattle.std.specs.Global.{Global}

-- the text of a place
abbrev pub text_at : List (Vec ℕ Global) → ℕ → List ℕ
text_at [] p = []
text_at (v ∷ vs) zero = v.items
text_at (v ∷ vs) (suc p) = text_at vs p

-- whether a place has what this place has alone, or each place
abbrev pub has_part : Option ℕ → ℕ → Bool
has_part None p = true
has_part (Some q) p = q == p

abbrev pub part_at : Option ℕ → ℕ → List ℕ → List ℕ
part_at place p more = if has_part place p then more else []

-- there is more behind the text of this place, or of each
pub record IsLonger (place : Option ℕ) (more : List ℕ) (old new : List (Vec ℕ Global)) : Type 0 where
  pub count : length new ≡ length old
  pub each : (p : ℕ) → p < length old → text_at new p ≡ text_at old p ++ part_at place p more
