-- Numbers as bytes, greatest byte first (RFC 5246, 4.4).
use Rattle.std.specs.Prelude.{ℕ, ◌+◌, ◌*◌, List, fold, drop}
use Rattle.std.specs.Int.{w32, to_be_bytes}

-- the number that bytes spell
abbrev pub number : List ℕ → ℕ
number bytes = fold (λ n b. n * 256 + b) 0 bytes

-- a number below 2^24 in three bytes
abbrev pub three_bytes : ℕ → List ℕ
three_bytes n = drop 1 (to_be_bytes w32 n)
