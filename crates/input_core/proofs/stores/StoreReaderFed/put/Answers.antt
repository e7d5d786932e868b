use Rattle.std.proofs.Common.{ap}
use Rattle.store_core.proofs.StoreReads.{parts-fail}
use Rattle.input_core.specs.Faults.{of_store}
use Rattle.input_core.specs.Readings.{faulted}
use Rattle.input_core.proofs.StoreFiles.{store-behind}
use Rattle.input_core.proofs.stores.StoreReaderFed.put.Goals as goal

pub returns-in-Err-clause-err : goal.returns-in-Err-clause-err
returns-in-Err-clause-err c = rw c.into.ensures
    (λ b x st wants. ap (faulted of_store) (parts-fail _ _ (c.in-Err.ensures.err (λ h. wants (ap of_store h)) b x st.0)))

pub returns-in-Ok-clause-ok : goal.returns-in-Ok-clause-ok
returns-in-Ok-clause-ok c = λ b st. (c.in-Ok.ensures.ok b st.0, c.in-Ok.ensures.going)

pub returns-in-Ok-clause-less : goal.returns-in-Ok-clause-less
returns-in-Ok-clause-less c = λ lt b x st wants. store-behind b c.args.piece.now x _ lt (c.in-Ok.ensures.less lt b st.0)
