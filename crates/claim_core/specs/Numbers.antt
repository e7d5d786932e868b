-- How often numbers stand in lists.
use Rattle.std.specs.Prelude.{◌%◌, ◌^◌, ◌==◌, if◌then◌else◌, ℕ, List, map, nat_lt}
use Rattle.std.specs.List.{sum_by, range_with_len}

-- how often x stands in the list
abbrev pub times : ℕ → List ℕ → ℕ
times x ys = sum_by (λ y. if y == x then 1 else 0) ys

-- the whole numbers below n, ascending
abbrev pub below : ℕ → List ℕ
below n = range_with_len 0 n

-- their remainders modulo 2^64
abbrev pub remainders : ℕ → List ℕ
remainders n = map (λ k. k % 2 ^ 64) (below n)

-- once for a number below n, never for another
abbrev pub once_below : ℕ → ℕ → ℕ
once_below x n = if nat_lt x n then 1 else 0
