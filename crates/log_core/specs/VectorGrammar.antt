-- Numbers and vectors as whole lists of bytes, apart from how they are read (RFC 5246, 4.3 and 4.4).
use Rattle.std.specs.Prelude.{◌≡◌, ℕ, ◌≤◌, List, [], ◌∷◌, ◌++◌, length}
use Rattle.octets_core.specs.Numbers.{number}

-- a number in so many bytes
pub record IsNumber (width n : ℕ) (bytes : List ℕ) : Type 0 where
  pub size : length bytes ≡ width
  pub value : number bytes ≡ n

-- a length in so many bytes, and then that many bytes
pub record IsVector (width : ℕ) (x bytes : List ℕ) : Type 0 where
  pub size : List ℕ
  pub is_size : IsNumber width (length x) size
  pub same : bytes ≡ size ++ x

-- the same, of one byte or more
pub record IsSomeVector (width : ℕ) (x bytes : List ℕ) : Type 0 where
  pub is : IsVector width x bytes
  pub some : 1 ≤ length x

-- such vectors one after the other
abbrev pub AreVectors : ℕ → List (List ℕ) → List ℕ → Type 0
AreVectors width [] bytes = bytes ≡ []
AreVectors width (x ∷ xs) bytes =
    (front : List ℕ) × (rest : List ℕ) × IsSomeVector width x front × (bytes ≡ front ++ rest) × AreVectors width xs rest
