use Rattle.std.proofs.Common.{◌+◌, Ok, Err, sym, ap}
use Rattle.std.proofs.lemmas.Result.{err_from_is_err_and}
use Rattle.sct_core.specs.declared.bounds.TheConstants.{MAX_CERTIFICATE}
use Rattle.input_core.specs.declared.fault.FileFault.TheVariants.{BadCert}
use Rattle.input_core.specs.Readings.{faulted}
use Rattle.input_core.specs.Certificates.{certificate_in}
use Rattle.outside_core.specs.Reads.{WhichFailed}
use Rattle.input_core.proofs.CertificateLaws.{certificate_front}
use Rattle.input_core.proofs.FilesRead.{input_err, input_front}
use Rattle.input_core.proofs.certificates.certificate_in.Goals as goal

pub returns-in_err-bytes-clause-input : goal.returns-in_err-bytes-clause-input
returns-in_err-bytes-clause-input g c =
    let p = err_from_is_err_and c.from_residual.result c.from_residual.ensures.1 in
    rw (p.1, p.2)
    (input_err (g.D.Depot.files c.args.depot.now) (WhichFailed g.D.Depot c.args.depot.now _) c.args.name.now certificate_in (λ x. x) c.in_err-bytes.field-0.0
    c.in_err-bytes.ensures.failed c.in_err-bytes.ensures.unblamed)

pub returns-in_err-certificate_of-clause-input : goal.returns-in_err-certificate_of-clause-input
returns-in_err-certificate_of-clause-input g c =
    let p = err_from_is_err_and c.from_residual-in_err-certificate_of.result c.from_residual-in_err-certificate_of.ensures.1 in
    rw (p.1, p.2)
    (input_front (g.D.Depot.files c.args.depot.now) (WhichFailed g.D.Depot c.args.depot.now _) c.args.name.now c.in_ok-bytes.bytes.items (MAX_CERTIFICATE + 1) certificate_in (λ x. x)
    (Err (BadCert c.in_err-certificate_of.field-0.0)) c.in_ok-bytes.bytes certificate_front c.in_ok-bytes.ensures.bytes c.in_ok-bytes.ensures.unblamed
    (λ refute. ap (faulted BadCert) (sym (rw c.deref.ensures.value at c.in_err-certificate_of.ensures))))

pub returns-clause-input : goal.returns-clause-input
returns-clause-input g c =
    input_front (g.D.Depot.files c.args.depot.now) (WhichFailed g.D.Depot c.args.depot.now _) c.args.name.now c.in_ok-bytes.bytes.items (MAX_CERTIFICATE + 1) certificate_in (λ x. x)
    (Ok c.in_ok-certificate_of.field-0) c.in_ok-bytes.bytes certificate_front c.in_ok-bytes.ensures.bytes c.in_ok-bytes.ensures.unblamed
    (ap (faulted BadCert) (sym (rw c.deref.ensures.value at c.in_ok-certificate_of.ensures)))
