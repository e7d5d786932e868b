-- Four states side by side: each word is a vector, with one lane for each state.
use Rattle.std.specs.Prelude.{ℕ, List, map, slice_index}
use Rattle.sha2.specs.Sha256.{add_state, rounds}

-- lane j of each vector
abbrev pub lane : ℕ → List (List ℕ) → List ℕ
lane j x = map (λ v. slice_index v j) x

-- a state with the rounds of a block's schedule added to it
abbrev pub add_rounds : List ℕ → List ℕ → List ℕ
add_rounds h w = add_state h (rounds h w 64)
