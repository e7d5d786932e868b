-- The row of an identity.
use Rattle.std.specs.Prelude.{◌≡◌, ◌<◌, ◌^◌, ◌%◌, ℕ, List, [], ◌∷◌, ◌++◌, take, drop, length, codes, bit_or}
use Rattle.std.specs.Int.{from_be_bytes, w16, w64, w128}
use Rattle.sha2.specs.Sha256.{sha256}
use Rattle.ident_core.specs.declared.identity.Identity.{Identity}
use Rattle.equation_core.specs.declared.hash.Row.{Row}
use Rattle.equation_core.specs.declared.hash.RowKey.{RowKey}
use Rattle.equation_core.specs.declared.sha256_rows.RowBits.{RowBits}

-- a row for each stage, seed, identity and count of starts
abbrev pub Rows : Type 0
Rows = ℕ → ℕ → Identity → ℕ → Row

-- The row begins at one of the starts, chooses the column there, and fits its fields.
pub record IsRow (starts : ℕ) (row : Row) : Type 0 where
  pub start : row.start < starts
  pub odd : row.coeff % 2 ≡ 1
  pub wide : row.coeff < 2 ^ 128
  pub tag : row.tag < 2 ^ 16

-- the message of a row
abbrev pub row_text : ℕ → ℕ → Identity → List ℕ
row_text stage seed id = codes "CCROW1" ++ (stage ∷ seed ∷ []) ++ id.issuer ++ (length id.serial ∷ []) ++ id.serial

-- what a digest spells of a row: bytes 0 to 15 with bit 0 set, bytes 16 to 23, bytes 24 and 25
abbrev pub bits_of_digest : List ℕ → RowBits
bits_of_digest d = record {
  coeff = bit_or (from_be_bytes w128 (take 16 d)) 1;
  start = from_be_bytes w64 (take 8 (drop 16 d));
  tag = from_be_bytes w16 (take 2 (drop 24 d));
}

-- the row whose start is taken modulo the starts
abbrev pub row_of_bits : RowBits → ℕ → Row
row_of_bits bits starts = record { start = bits.start % starts; coeff = bits.coeff; tag = bits.tag }

abbrev pub row_of_digest : List ℕ → ℕ → Row
row_of_digest d starts = row_of_bits (bits_of_digest d) starts

-- what is drawn for an identity by SHA-256, and its row
abbrev pub sha256_bits : ℕ → ℕ → Identity → RowBits
sha256_bits stage seed id = bits_of_digest (sha256 (row_text stage seed id))

abbrev pub sha256_row : Rows
sha256_row stage seed id starts = row_of_bits (sha256_bits stage seed id) starts

-- the row that a key means
abbrev pub row_of_key : RowKey → Identity → Row
row_of_key key id = sha256_row key.stage key.seed id key.starts
