-- Walks over bytes: what stands at their front, and then what follows it. A walk is a layout without offsets and
-- faults, for formats of which only "well formed or not" is asked (DER, log entries).
use Rattle.std.specs.Prelude.{◌≡◌, ℕ, zero, suc, List, [], ◌∷◌, length, Option, Some, None}

-- What is read at the front, and the bytes behind it; or nothing.
abbrev pub Walk : Type 0 → Type 0
Walk A = List ℕ → Option (A × List ℕ)

abbrev pub and_then : {A B : Type 0} → Option (A × List ℕ) → (A → Walk B) → Option (B × List ℕ)
and_then (Some x) next = next x.0 x.1
and_then None next = None

-- one walk, and then one that depends on its value
infixl 10 ◌>>=◌
abbrev pub ◌>>=◌ : {A B : Type 0} → Walk A → (A → Walk B) → Walk B
◌>>=◌ first next bytes = and_then (first bytes) next

-- no byte, a value
abbrev pub whole : {A : Type 0} → A → Walk A
whole x bytes = Some (x, bytes)

-- no byte, and the value that there may be
abbrev pub given : {A : Type 0} → Option A → Walk A
given None bytes = None
given (Some x) bytes = Some (x, bytes)

-- no byte is left
unfoldable pub ends : Walk (Unit {0})
ends [] = Some (tt, [])
ends (b ∷ bytes) = None

-- the value of a walk, whatever follows it
abbrev pub value_of : {A : Type 0} → Option (A × List ℕ) → Option A
value_of (Some x) = Some x.0
value_of None = None

-- the value of a walk from the front of some contents, if there are any
abbrev pub within : {A : Type 0} → Walk A → Option (List ℕ) → Option A
within walk None = None
within walk (Some contents) = value_of (walk contents)

-- What a function that walks did: it gave the value and stands behind it, or the walk gives nothing.
abbrev pub Walks : {X A : Type 0} → (X → A) → Walk A → List ℕ → List ℕ → Option X → Type 0
Walks view walk old new (Some x) = walk old ≡ Some (view x, new)
Walks view walk old new None = walk old ≡ None

-- an element and those behind it, where both are there
abbrev pub and_more : {A : Type 0} → Option A → Option (List A) → Option (List A)
and_more (Some x) (Some xs) = Some (x ∷ xs)
and_more (Some x) None = None
and_more None more = None

abbrev pub all_more : {A : Type 0} → (List ℕ → Option (List A)) → Option (A × List ℕ) → Option (List A)
all_more more None = None
all_more more (Some x) = and_more (Some x.0) (more x.1)

abbrev pub all_within : {A : Type 0} → Walk A → ℕ → List ℕ → Option (List A)
all_within walk zero bytes = Some []
all_within walk (suc n) [] = Some []
all_within walk (suc n) (b ∷ bytes) = all_more (all_within walk n) (walk (b ∷ bytes))

-- walk after walk until no byte is left; each takes a byte or more
unfoldable pub all_of : {A : Type 0} → Walk A → List ℕ → Option (List A)
all_of walk bytes = all_within walk (length bytes) bytes
