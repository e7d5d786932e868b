use Rattle.std.proofs.Common.{◌∙◌, refl, sym}
use Rattle.std.proofs.lemmas.Result.{err_from_is_err_and}
use Rattle.store_core.specs.declared.store.StartFault.TheVariants as starts
use Rattle.store_core.proofs.Reading.{first-fault, not-begun, is-begun}
use Rattle.view_core.specs.Scanning.{end_of}
use Rattle.view_core.proofs.Chains.{kind_is}
use Rattle.view_core.proofs.scan.first_at.Goals as goal

pub returns-in_err-read-clause-part : goal.returns-in_err-read-clause-part
returns-in_err-read-clause-part c =
    let p = err_from_is_err_and c.from_residual.result c.from_residual.ensures.1 in
    rw (p.1, p.2) (first-fault c.args.bytes.now c.args.at c.in_err-read.field-0.0 c.in_err-read.ensures.part)

pub returns-in-Snapshot-clause-part : goal.returns-in-Snapshot-clause-part
returns-in-Snapshot-clause-part c =
    let (s, read, of) = c.in_ok-read.ensures.part in
    (s, is-begun c.args.bytes.now c.args.at s (end_of c.in_ok-read.read) _ read (sym (kind_is c.args.bytes.now c.in_ok-read.read s of) ∙ c.in-Snapshot.is) refl, of)

pub returns-in-Delta-clause-part : goal.returns-in-Delta-clause-part
returns-in-Delta-clause-part c =
    let (s, read, of) = c.in_ok-read.ensures.part in
    not-begun c.args.bytes.now c.args.at s (end_of c.in_ok-read.read) (starts.NotSnapshot s) read (refl, sym (kind_is c.args.bytes.now c.in_ok-read.read s of) ∙ c.in-Delta.is) (λ e. cc)
