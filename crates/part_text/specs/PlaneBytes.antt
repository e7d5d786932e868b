-- The columns of a plane as bytes: words of 64 columns, the lowest columns first, and of each word the greatest byte
-- first.
use Rattle.std.specs.Prelude.{ℕ, zero, suc, ◌+◌, ◌*◌, ◌/◌, ◌%◌, ◌^◌, List, [], ◌++◌, take, drop, Bool, nat_lt}
use Rattle.std.specs.Int.{w64, from_be_bytes, to_be_bytes}
use Rattle.equation_core.specs.Sizes.{columns_for, words_for}

-- the columns that so many words spell
unfoldable pub columns_of_bytes : ℕ → List ℕ → ℕ
columns_of_bytes zero bytes = 0
columns_of_bytes (suc n) bytes = from_be_bytes w64 (take 8 bytes) + 2 ^ 64 * columns_of_bytes n (drop 8 bytes)

-- so many words of the columns
unfoldable pub bytes_of_columns : ℕ → ℕ → List ℕ
bytes_of_columns zero Z = []
bytes_of_columns (suc n) Z = to_be_bytes w64 (Z % 2 ^ 64) ++ bytes_of_columns n (Z / 2 ^ 64)

-- the bits behind the last column are zero
abbrev pub is_padded : ℕ → List ℕ → Bool
is_padded starts bytes = nat_lt (columns_of_bytes (words_for starts) bytes) (2 ^ columns_for starts)
