-- What is wrong with what is lent, from what is wrong with what it holds.
use Rattle.std.specs.Prelude.{Result, Ok, Err}
use Rattle.store_core.specs.declared.fault.StoreFault.{StoreFault}
use Rattle.store_core.specs.declared.fault.StoreFault.TheVariants as store
use Rattle.lending_core.specs.declared.fault.LentFault.{LentFault}
use Rattle.lending_core.specs.declared.fault.LentFault.TheVariants as faults

abbrev pub of_store : StoreFault → LentFault
of_store (store.Layout f) = faults.Layout f
of_store store.NotSnapshot = faults.NotSnapshot
of_store (store.Refused why) = faults.Chain why
of_store store.NoMemory = faults.NoMemory

abbrev pub faulted : {A E : Type 0} → (E → LentFault) → Result A E → Result A LentFault
faulted fault (Ok x) = Ok x
faulted fault (Err e) = Err (fault e)

-- one step behind another: the first fault
infixl 10 ◌>>=◌
abbrev pub ◌>>=◌ : {A B : Type 0} → Result A LentFault → (A → Result B LentFault) → Result B LentFault
(Ok x) >>= next = next x
(Err e) >>= next = Err e
