-- What contracts see of claims and of their seats.
use Rattle.std.specs.Prelude.{◌≡◌, ◌≤◌, ◌<◌, ◌^◌, ◌++◌, ℕ, List, [], ◌∷◌, Option, Some, None}
use Rattle.atomic_table.specs.Seated.{TableId}

-- which claims they are, and how many places they have
pub record Claimed : Type 0 where
  pub id : TableId
  pub places : ℕ

-- the claims that a seat belongs to, and the numbers that it drew
pub record Drawer : Type 0 where
  pub claims : TableId
  pub numbers : List ℕ

abbrev pub drawer : TableId → List ℕ → Drawer
drawer id numbers = record { claims = id; numbers = numbers }

-- the seat after it found a number
abbrev pub found : ℕ → Drawer → Drawer
found n seat = drawer seat.claims (seat.numbers ++ n ∷ [])

-- a number was found and put behind the others; the answer is the number where it is a place, and else none
abbrev pub Draws : ℕ → Drawer → Option ℕ → Drawer → Type 0
Draws places before (Some n) after = (n < places) × (after ≡ found n before)
Draws places before None after = (n : ℕ) × (places ≤ n) × (n < 2 ^ 64) × (after ≡ found n before)
