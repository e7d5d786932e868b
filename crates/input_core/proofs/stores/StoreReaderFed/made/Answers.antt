use Rattle.std.proofs.Common.{ℕ, List, sym, ap, ◌∙◌, arith}
use Rattle.std.proofs.lemmas.List.{append-nil}
use Rattle.std.proofs.lemmas.Result.{err_from_is_err_and}
use Rattle.store_core.specs.StoreLayout.{store_parts}
use Rattle.store_core.proofs.StoreReads.{few-read, parts-fail, parts-whole}
use Rattle.input_core.specs.Faults.{of_store}
use Rattle.input_core.specs.Readings.{faulted}
use Rattle.input_core.proofs.stores.StoreReaderFed.made.Goals as goal

pub returns-in_err-finish-clause-err : goal.returns-in_err-finish-clause-err
returns-in_err-finish-clause-err c =
    let p = err_from_is_err_and c.from_residual.result c.from_residual.ensures.1 in
    rw (p.1, p.2) (λ b st wants. ap (faulted of_store) (parts-fail b _ (c.in_err-finish.ensures.err (λ h. wants (ap of_store h)) b st.0)))

pub returns-in_err-finish-clause-few : goal.returns-in_err-finish-clause-few
returns-in_err-finish-clause-few c = λ b st. omega (arith, few-read c.args.self b st.1 st.0)

pub returns-clause-ok : goal.returns-clause-ok
returns-clause-ok c = λ b st.
    ap (faulted of_store) (parts-whole b _ _ (omega arith) (ap (λ (l : List ℕ). store_parts l 0) (sym (append-nil b)) ∙ c.in_ok-finish.ensures.ok b _ st.0))

pub returns-clause-few : goal.returns-clause-few
returns-clause-few c = λ b st. omega (arith, few-read c.args.self b st.1 st.0)
