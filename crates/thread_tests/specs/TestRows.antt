-- Rows for tests: all are alike.
use Rattle.std.specs.Prelude.{◌≤◌, ℕ, refl}
use Rattle.std.proofs.Common.{arith}
use Rattle.ident_core.specs.declared.identity.Identity.{Identity}
use Rattle.equation_core.specs.Rows.{IsRow, Rows}

abbrev pub row_alike : Rows
row_alike stage seed id starts = record { start = 0; coeff = 1; tag = 0 }

pub row_alike-is : (stage seed : ℕ) (id : Identity) (starts : ℕ) → 1 ≤ starts
    → IsRow starts (row_alike stage seed id starts)
row_alike-is stage seed id starts some = record {
  start = omega (arith, some);
  odd = refl;
  wide = omega arith;
  tag = omega arith;
}
