use Rattle.std.proofs.Common.{sym, subst}
use Rattle.equation_core.specs.Rows.{IsRow}
use Rattle.equation_core.specs.RowLaws.{sha256_row-is}
use Rattle.equation_core.proofs.known.KnownEquationHash.row.Goals as goal

pub returns-in-Some-clause-formed : goal.returns-in-Some-clause-formed
returns-in-Some-clause-formed c =
    subst (IsRow c.args.starts) (sym c.in-Some.ensures) (sha256_row-is c.args.stage c.args.seed c.args.id.now c.args.starts c.requires)
