use Rattle.std.proofs.Common.{refl, arith}
use Rattle.std.proofs.lemmas.Result.{err_from_is_err_and}
use Rattle.part_text.specs.PartLayout.{sealed}
use Rattle.part_codec.proofs.Scans.{few-scanned}
use Rattle.input_core.proofs.PartFiles.{noted_by}
use Rattle.input_core.proofs.scanning.PartScanFed.made.Goals as goal

pub returns-in_err-finish-clause-err : goal.returns-in_err-finish-clause-err
returns-in_err-finish-clause-err c =
    let p = err_from_is_err_and c.from_residual.result c.from_residual.ensures.1 in
    let e = c.in_err-finish.ensures in
    rw (p.1, p.2) (λ b st. noted_by b (sealed b 0) _ refl (e.exact b st.0) (λ s n read. e.ends b s n st.0 read))

pub returns-in_err-finish-clause-few : goal.returns-in_err-finish-clause-few
returns-in_err-finish-clause-few c = λ b st. omega (arith, few-scanned c.args.self c.args.self.fault b refl st.1 st.0)

pub returns-clause-ok : goal.returns-clause-ok
returns-clause-ok c = λ b st. let e = c.in_ok-finish.ensures in noted_by b (sealed b 0) _ refl (e.exact b st.0) (λ s n read. e.ends b s n st.0 read)

pub returns-clause-few : goal.returns-clause-few
returns-clause-few c = λ b st. omega (arith, few-scanned c.args.self c.args.self.fault b refl st.1 st.0)
