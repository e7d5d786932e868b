use Rattle.std.proofs.Common.{sym, subst, ap, ◌∙◌}
use Rattle.equation_core.specs.Rows.{IsRow, row_of_bits}
use Rattle.equation_core.specs.RowLaws.{sha256_row-is}
use Rattle.equation_core.specs.declared.sha256_rows.RowBits.{RowBits}
use Rattle.equation_core.proofs.sha256_rows.Sha256RowsEquationHash.row.Goals as goal

pub returns-clause-value : goal.returns-clause-value
returns-clause-value c = c.row.ensures ∙ ap (λ (bits : RowBits). row_of_bits bits c.args.starts) c.drawn.ensures

pub returns-clause-formed : goal.returns-clause-formed
returns-clause-formed c =
    subst (IsRow c.args.starts) (sym (c.row.ensures ∙ ap (λ (bits : RowBits). row_of_bits bits c.args.starts) c.drawn.ensures))
    (sha256_row-is c.args.stage c.args.seed c.args.id.now c.args.starts c.requires)
