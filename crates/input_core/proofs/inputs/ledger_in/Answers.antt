use Rattle.std.proofs.Common.{refl, ap, ◌+◌, Ok, Err}
use Rattle.std.proofs.lemmas.Result.{err_from_is_err_and}
use Rattle.ledger_core.specs.declared.fault.LedgerFault.TheVariants as faults
use Rattle.input_core.specs.Faults.{of_ledger}
use Rattle.input_core.specs.declared.inputs.TheConstants.{LONGEST_LEDGER}
use Rattle.input_core.specs.Readings.{faulted, ledger_in}
use Rattle.outside_core.specs.Reads.{WhichFailed}
use Rattle.input_core.proofs.FilesRead.{input_err, input_front, faulted_ok, faulted_err}
use Rattle.input_core.proofs.LongestLedger.{ledger-same}
use Rattle.input_core.proofs.inputs.ledger_in.Goals as goal

pub returns-in_err-bytes-clause-input : goal.returns-in_err-bytes-clause-input
returns-in_err-bytes-clause-input g c =
    let p = err_from_is_err_and c.from_residual.result c.from_residual.ensures.1 in
    rw (p.1, p.2)
    (input_err (g.D.Depot.files c.args.depot.now) (WhichFailed g.D.Depot c.args.depot.now _) c.args.name.now ledger_in (λ l. l) c.in_err-bytes.field-0.0
    c.in_err-bytes.ensures.failed c.in_err-bytes.ensures.unblamed)

pub returns-in_err-decode_ledger-clause-input : goal.returns-in_err-decode_ledger-clause-input
returns-in_err-decode_ledger-clause-input g c =
    let p = err_from_is_err_and c.from_residual-in_err-decode_ledger.result c.from_residual-in_err-decode_ledger.ensures.1 in
    rw (p.1, p.2)
    (input_front (g.D.Depot.files c.args.depot.now) (WhichFailed g.D.Depot c.args.depot.now _) c.args.name.now c.in_ok-bytes.bytes.items (LONGEST_LEDGER + 1) ledger_in (λ l. l)
    (Err (of_ledger c.in_err-decode_ledger.field-0.0)) c.in_ok-bytes.bytes (λ file. ap (faulted of_ledger) (ledger-same file)) c.in_ok-bytes.ensures.bytes c.in_ok-bytes.ensures.unblamed
    (faulted_err of_ledger faults.NoMemory c.in_err-decode_ledger.field-0.0 (λ l. l) _ refl (rw c.deref.ensures.value at c.in_err-decode_ledger.ensures.exact)))

pub returns-clause-input : goal.returns-clause-input
returns-clause-input g c =
    input_front (g.D.Depot.files c.args.depot.now) (WhichFailed g.D.Depot c.args.depot.now _) c.args.name.now c.in_ok-bytes.bytes.items (LONGEST_LEDGER + 1) ledger_in (λ l. l)
    (Ok c.in_ok-decode_ledger.field-0) c.in_ok-bytes.bytes (λ file. ap (faulted of_ledger) (ledger-same file)) c.in_ok-bytes.ensures.bytes c.in_ok-bytes.ensures.unblamed
    (faulted_ok of_ledger (λ l. l) c.in_ok-decode_ledger.field-0 _ (rw c.deref.ensures.value at c.in_ok-decode_ledger.ensures.exact))
