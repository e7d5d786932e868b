-- Rows for tests: each chooses the first column alone, and its tag is 1 where the serial's length is odd, else 0.
use Rattle.std.specs.Prelude.{◌≤◌, ◌%◌, ℕ, length, refl}
use Rattle.std.proofs.Common.{arith}
use Rattle.ident_core.specs.declared.identity.Identity.{Identity}
use Rattle.equation_core.specs.Rows.{IsRow, Rows}

abbrev pub row_by_length : Rows
row_by_length stage seed id starts = record { start = 0; coeff = 1; tag = length id.serial % 2 }

pub row_by_length-is : (stage seed : ℕ) (id : Identity) (starts : ℕ) → 1 ≤ starts → IsRow starts (row_by_length stage seed id starts)
row_by_length-is stage seed id starts some = record { start = omega arith; odd = refl; wide = omega arith; tag = omega arith }
