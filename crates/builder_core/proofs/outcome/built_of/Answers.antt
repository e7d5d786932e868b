use Rattle.std.proofs.lemmas.Result.{err_from_is_err_and}
use Rattle.builder_core.specs.Tasks.{task_fields}
use Rattle.builder_core.proofs.Faults.{leaf_fault}
use Rattle.builder_core.proofs.outcome.built_of.Goals as goal

pub returns-in_err-leaf : goal.returns-in_err-leaf
returns-in_err-leaf g c =
    let p = err_from_is_err_and c.from_residual-in_err-leaf.result c.from_residual-in_err-leaf.ensures.1 in
    rw (p.1, p.2) (leaf_fault (g.H.EquationHash.row_of c.args.hash.now) (task_fields c.args.task.now) _ c.if-task-eq0.false c.in_err-leaf.ensures)
