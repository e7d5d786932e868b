use Rattle.std.proofs.Common.{ap}
use Rattle.std.proofs.lemmas.Result.{err_from_is_err_and}
use Rattle.octets_core.specs.Layout.{with_fault}
use Rattle.input_core.specs.Faults.{of_part}
use Rattle.input_core.proofs.PartFiles.{part_faulty, part_behind}
use Rattle.input_core.proofs.parts.PartReaderFed.put.Goals as goal

pub returns-in_err-feed-clause-err : goal.returns-in_err-feed-clause-err
returns-in_err-feed-clause-err c =
    let p = err_from_is_err_and c.from_residual.result c.from_residual.ensures.1 in
    rw (p.1, p.2) (λ b x st wants. part_faulty _ _ (ap (with_fault of_part) (c.in_err-feed.ensures.err (λ h. wants (ap of_part h)) b x st.0)))

pub returns-clause-ok : goal.returns-clause-ok
returns-clause-ok c = λ b st. (c.in_ok-feed.ensures.ok b st.0, c.in_ok-feed.ensures.going)

pub returns-clause-less : goal.returns-clause-less
returns-clause-less c = λ lt b x st wants. part_behind b c.args.piece.now x _ lt (c.in_ok-feed.ensures.less lt b st.0)
