-- A place in a list of bytes.
use Rattle.std.specs.Prelude.{◌≡◌, ℕ, ◌+◌, ◌<◌, ◌≤◌, List, ◌∷◌, length, take, drop, Result, IfOk, OnOk, OnErr}
use Rattle.std.specs.Int.{w32, from_be_bytes}
use Rattle.octets_core.specs.declared.cursor.Short.{Short}

-- the bytes, and how many of them were passed
pub record Position : Type 0 where
  pub bytes : List ℕ
  pub at : ℕ

-- before the first of the bytes
abbrev pub start_of : List ℕ → Position
start_of bytes = record { bytes = bytes; at = 0 }

-- n bytes further
abbrev pub advanced : ℕ → Position → Position
advanced n p = record { bytes = p.bytes; at = p.at + n }

-- so many bytes from a place on
abbrev pub piece : ℕ → List ℕ → ℕ → List ℕ
piece width bytes at = take width (drop at bytes)

-- a number of so many bytes was read, or there were too few and nothing was passed
pub record TakesNumber (width : ℕ) (value_of : List ℕ → ℕ) (old new : Position) (result : Result ℕ Short) : Type 0 where
  pub short : OnErr result (length old.bytes < old.at + width)
  pub room : OnOk result (old.at + width ≤ length old.bytes)
  pub value : IfOk result (λ n. n ≡ value_of (piece width old.bytes old.at))
  pub ok : OnOk result (new ≡ advanced width old)
  pub err : OnErr result (new ≡ old)

-- the number that three bytes spell, greatest byte first
abbrev pub from_three : List ℕ → ℕ
from_three bytes = from_be_bytes w32 (0 ∷ bytes)
