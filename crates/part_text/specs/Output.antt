-- What an output was given.
use Rattle.std.specs.Prelude.{ℕ, List, ◌++◌}

-- from the first state to the second this text, whatever came before it
abbrev pub Wrote : {O : Type 0} → (O → List ℕ → Type 0) → O → O → List ℕ → Type 0
Wrote given old new text = (m : List ℕ) → given old m → given new (m ++ text)
