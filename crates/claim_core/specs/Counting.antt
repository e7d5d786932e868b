-- The rule of the counter: a fact about its word and what all seats have drawn.
use Rattle.std.specs.Prelude.{◌≡◌, ◌%◌, ◌^◌, ◌<◌, ◌++◌, ℕ, Bool, true, List, [], ◌∷◌, length}
use Rattle.std.specs.List.{sum_by}
use mathlib.Core.Option.{some}
use lib.ListN.{get_elem?}
use Rattle.atomic_table.specs.Table.{Me, Step}
use Rattle.claim_core.specs.declared.rule.View.{View}
use Rattle.claim_core.specs.Numbers.{times, remainders}

abbrev pub view_of : Bool → List ℕ → View
view_of spent numbers = record { spent = spent; numbers = numbers }

-- how many numbers are in all views together
abbrev pub drawn : List View → ℕ
drawn views = sum_by (λ v. length v.numbers) views

-- how often x is in all views together
abbrev pub times_drawn : ℕ → List View → ℕ
times_drawn x views = sum_by (λ v. times x v.numbers) views

-- With n numbers in all views together, these are the remainders of the whole numbers below n, each once.
-- The word is the remainder of n, and a spent view holds none.
pub record IsCounted (words : List ℕ) (views : List View) : Type 0 where
  pub word : words ≡ drawn views % 2 ^ 64 ∷ []
  pub numbers : (x : ℕ) → times_drawn x views ≡ times x (remainders (drawn views))
  pub spent : (k : ℕ) (v : View) → get_elem? views k ≡ some v → v.spent ≡ true → v.numbers ≡ []

-- the number found is behind the seat's numbers, and nothing else changed
abbrev pub Finds : Step (Unit {0}) → Me (Unit {0}) View → ℕ → Me (Unit {0}) View → Type 0
Finds s me found after = (found < 2 ^ 64) × (after ≡ (view_of me.0.spent (me.0.numbers ++ found ∷ []), me.1))
