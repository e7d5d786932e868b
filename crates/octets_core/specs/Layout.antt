-- Layouts of bytes: fields one after the other. Each has a width and a test, which depend on the fields before it
-- alone. Reading goes from left to right, up to the first field that is short or fails its test.
use Rattle.std.specs.Prelude.{ℕ, zero, suc, ◌+◌, List, [], ◌∷◌, length, take, drop, Bool, ◌&&◌, nat_lt, nat_le}
use Rattle.std.specs.Prelude.{if◌then◌else◌, Result, Ok, Err}
use Rattle.std.specs.Int.{Width, byte_len, from_be_bytes}
use Rattle.std.specs.Str.{bytes_eq}
use Rattle.octets_core.specs.Position.{piece}

-- What is read in these bytes from a place on: a value and the place behind it, or a fault.
abbrev pub Layout : Type 0 → Type 0 → Type 0
Layout E A = List ℕ → ℕ → Result (A × ℕ) E

abbrev pub then_read : {E A B : Type 0} → Result (A × ℕ) E → (A → Layout E B) → List ℕ → Result (B × ℕ) E
then_read (Ok x) next bytes = next x.0 bytes x.1
then_read (Err e) next bytes = Err e

-- one layout, and then one that depends on its value
infixl 10 ◌>>=◌
abbrev pub ◌>>=◌ : {E A B : Type 0} → Layout E A → (A → Layout E B) → Layout E B
◌>>=◌ first next bytes at = then_read (first bytes at) next bytes

-- nothing, which stands for a value
abbrev pub whole : {E A : Type 0} → A → Layout E A
whole x bytes at = Ok (x, at)

-- nothing, which is a fault
abbrev pub refused : {E A : Type 0} → E → Layout E A
refused e bytes at = Err e

-- from low to high
abbrev pub within : ℕ → ℕ → ℕ → Bool
within low high n = nat_le low n && nat_le n high

-- A field of so many bytes. What it is where there are fewer, and where its test fails, is a fault for the offset of
-- its first byte.
unfoldable pub bytes_field : {E : Type 0} → (ℕ → E) → (ℕ → E) → ℕ → (List ℕ → Bool) → Layout E (List ℕ)
bytes_field short wrong width test bytes at =
    if nat_lt (length bytes) (at + width) then Err (short at)
    else if test (piece width bytes at) then Ok (piece width bytes at, at + width)
    else Err (wrong at)

-- A field that is a number from low to high, greatest byte first.
unfoldable pub number_field : {E : Type 0} → (ℕ → E) → (ℕ → E) → Width → ℕ → ℕ → Layout E ℕ
number_field short wrong w low high bytes at =
    if nat_lt (length bytes) (at + byte_len w) then Err (short at) else if within low high
    (from_be_bytes w (piece (byte_len w) bytes at)) then Ok
    (from_be_bytes w (piece (byte_len w) bytes at), at + byte_len w) else Err (wrong at)

-- A field of so many bytes that is a function of all bytes before it, as a digest is.
unfoldable pub sum_field : {E : Type 0} → (ℕ → E) → (ℕ → E) → ℕ → (List ℕ → List ℕ) → Layout E (List ℕ)
sum_field short wrong width sum bytes at = bytes_field short wrong width (bytes_eq (sum (take at bytes))) bytes at

-- So many of one kind, of which each depends on the state that those before it leave.
unfoldable pub repeated : {E S X : Type 0} → (S → Layout E X) → (S → X → S) → ℕ → S → Layout E (List X)
repeated item next zero s = whole []
repeated item next (suc n) s = do
  x ← item s
  others ← repeated item next n (next s x)
  whole (x ∷ others)

abbrev pub from_there : {E F A : Type 0} → (ℕ → E → F) → ℕ → Result (A × ℕ) E → Result (A × ℕ) F
from_there moved at (Ok x) = Ok (x.0, at + x.1)
from_there moved at (Err e) = Err (moved at e)

-- a layout whose offsets count from its own first byte, within another
abbrev pub embedded : {E F A : Type 0} → (ℕ → E → F) → Layout E A → Layout F A
embedded moved inner bytes at = from_there moved at (inner (drop at bytes) 0)

abbrev pub with_fault : {E F A : Type 0} → (E → F) → Result (A × ℕ) E → Result (A × ℕ) F
with_fault wrap (Ok x) = Ok x
with_fault wrap (Err e) = Err (wrap e)

-- a layout under another type of faults
abbrev pub mapped : {E F A : Type 0} → (E → F) → Layout E A → Layout F A
mapped wrap inner bytes at = with_fault wrap (inner bytes at)
