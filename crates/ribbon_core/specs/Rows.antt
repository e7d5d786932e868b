-- The equations of rows.
use Rattle.std.specs.Prelude.{ℕ}
use Rattle.equation_core.specs.declared.hash.Row.{Row}
use Rattle.ribbon_core.specs.Equations.{Equation, equation_at}

-- a row's equation with these targets, a bit for each plane
abbrev pub equation_with : ℕ → Row → Equation
equation_with targets row = equation_at row.start row.coeff targets

-- a row's equation whose targets are its tag
abbrev pub equation_of : Row → Equation
equation_of row = equation_with row.tag row
