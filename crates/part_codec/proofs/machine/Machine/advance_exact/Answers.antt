use Rattle.std.proofs.lemmas.Result.{err_from_is_err_and}
use Rattle.part_codec.proofs.MachineStands.{piece-fails}
use Rattle.part_codec.proofs.machine.Machine.advance_exact.Goals as goal

pub returns-in_err-complete_exact-clause-err : goal.returns-in_err-complete_exact-clause-err
returns-in_err-complete_exact-clause-err c =
    let p = err_from_is_err_and c.from_residual.result c.from_residual.ensures.1 in
    rw (p.1, p.2) (λ s b x st. piece-fails b c.args.piece.now x _ _ (c.in_err-complete_exact.ensures.err s b _ st))
