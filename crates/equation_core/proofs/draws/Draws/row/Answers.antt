use Rattle.std.proofs.Common.{sym, subst, ap, ◌∙◌}
use Rattle.equation_core.specs.Rows.{IsRow, row_of_bits}
use Rattle.equation_core.specs.RowLaws.{sha256_row-is}
use Rattle.equation_core.specs.declared.sha256_rows.RowBits.{RowBits}
use Rattle.equation_core.proofs.draws.Draws.row.Goals as goal

pub returns-clause-formed : goal.returns-clause-formed
returns-clause-formed c =
    subst (IsRow c.args.key.starts) (sym (c.row.ensures ∙ ap (λ (bits : RowBits). row_of_bits bits c.args.key.starts) c.bits.ensures.bits))
    (sha256_row-is c.args.key.stage c.args.key.seed c.args.self.now c.args.key.starts c.requires)
