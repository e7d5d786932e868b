use Rattle.std.proofs.Common.{ℕ, List, refl, sym, ap, ◌∙◌, arith}
use Rattle.std.proofs.lemmas.List.{append-nil}
use Rattle.std.proofs.lemmas.Result.{err_from_is_err_and}
use Rattle.octets_core.specs.Layout.{with_fault}
use Rattle.part_text.specs.PartLayout.{part}
use Rattle.part_codec.proofs.Readings.{few-read}
use Rattle.input_core.specs.Faults.{of_part}
use Rattle.input_core.proofs.PartFiles.{part_faulty, part_whole}
use Rattle.input_core.proofs.parts.PartReaderFed.made.Goals as goal

pub returns-in_err-finish-clause-err : goal.returns-in_err-finish-clause-err
returns-in_err-finish-clause-err c =
    let p = err_from_is_err_and c.from_residual.result c.from_residual.ensures.1 in
    rw (p.1, p.2) (λ b st wants. part_faulty b _ (ap (with_fault of_part) (c.in_err-finish.ensures.err (λ h. wants (ap of_part h)) b st.0)))

pub returns-in_err-finish-clause-few : goal.returns-in_err-finish-clause-few
returns-in_err-finish-clause-few c = λ b st. omega (arith, few-read c.args.self c.args.self.fault b refl st.1 st.0)

pub returns-clause-ok : goal.returns-clause-ok
returns-clause-ok c = λ b st. part_whole b _ _ (omega arith) (ap (λ (l : List ℕ). part l 0) (sym (append-nil b)) ∙ c.in_ok-finish.ensures.ok b _ st.0)

pub returns-clause-few : goal.returns-clause-few
returns-clause-few c = λ b st. omega (arith, few-read c.args.self c.args.self.fault b refl st.1 st.0)
