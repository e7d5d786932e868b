use Rattle.std.proofs.Common.{refl, Ok, Err}
use Rattle.std.proofs.lemmas.Result.{err_from_is_err_and}
use Rattle.job_core.specs.declared.fault.JobFault.TheVariants as job
use Rattle.job_core.specs.JobText.{JobContents}
use Rattle.input_core.specs.Faults.{of_job}
use Rattle.outside_core.specs.Reads.{WhichFailed}
use Rattle.input_core.proofs.FilesRead.{input_err, input_whole, faulted_err}
use Rattle.input_core.proofs.Reading.{all_of}
use Rattle.command_core.specs.Longer.{head_in}
use Rattle.command_core.proofs.PagesRead.{head_opened}
use Rattle.command_core.proofs.lengthening.head_in.Goals as goal

pub returns-in_err-bytes-clause-refused : goal.returns-in_err-bytes-clause-refused
returns-in_err-bytes-clause-refused g c =
    let p = err_from_is_err_and c.from_residual.result c.from_residual.ensures.1 in
    rw (p.1, p.2)
    (input_err (g.D.Depot.files c.args.depot.now) (WhichFailed g.D.Depot c.args.depot.now _) c.args.name.now head_in (λ (x : JobContents). x) c.in_err-bytes.field-0.0
    c.in_err-bytes.ensures.failed c.in_err-bytes.ensures.unblamed)

pub returns-in_err-new-clause-refused : goal.returns-in_err-new-clause-refused
returns-in_err-new-clause-refused g c =
    let p = err_from_is_err_and c.from_residual-in_err-new.result c.from_residual-in_err-new.ensures.1 in
    rw (p.1, p.2)
    (input_whole (g.D.Depot.files c.args.depot.now) (WhichFailed g.D.Depot c.args.depot.now _) c.args.name.now c.in_ok-bytes.bytes.items head_in (λ (x : JobContents). x)
    (Err (of_job c.in_err-new.field-0.0)) c.in_ok-bytes.bytes
    (all_of (g.D.Depot.files c.args.depot.now) c.args.name.now (Ok c.in_ok-bytes.bytes) c.in_ok-bytes.ensures.bytes) c.in_ok-bytes.ensures.unblamed
    (faulted_err of_job job.NoMemory c.in_err-new.field-0.0 (λ (x : JobContents). x) _ refl (λ _. c.in_err-new.ensures.err)))

pub returns-clause-opened : goal.returns-clause-opened
returns-clause-opened g c =
    head_opened (g.D.Depot.files c.args.depot.now) (WhichFailed g.D.Depot c.args.depot.now _) c.args.name.now c.in_ok-bytes.bytes.items c.in_ok-new.field-0 c.in_ok-bytes.bytes
    (all_of (g.D.Depot.files c.args.depot.now) c.args.name.now (Ok c.in_ok-bytes.bytes) c.in_ok-bytes.ensures.bytes) c.in_ok-bytes.ensures.unblamed c.in_ok-new.ensures.ok
