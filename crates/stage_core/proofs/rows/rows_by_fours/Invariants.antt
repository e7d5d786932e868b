use Rattle.std.proofs.Common.{◌≡◌, ◌*◌, map, take, Bor}
use Rattle.ident_core.specs.declared.identity.Identity.{Identity}
use Rattle.stage_core.proofs.rows.rows_by_fours.Given as goal

abbrev pub invariant-fours : goal.invariant-fours
invariant-fours g l = l.rows.items ≡ map (λ (key : Bor Identity). g.H.EquationHash.row_of l.hash l.shape.stage l.seed key.now l.shape.starts) (take (4 * l.i) l.keys)

abbrev pub invariant-rest : goal.invariant-rest
invariant-rest g l = l.rows.items ≡ map (λ (key : Bor Identity). g.H.EquationHash.row_of l.hash l.shape.stage l.seed key.now l.shape.starts) (take l.i l.keys)
