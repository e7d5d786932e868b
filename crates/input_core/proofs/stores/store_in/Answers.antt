use Rattle.std.proofs.Common.{ℕ, List}
use Rattle.std.proofs.lemmas.Result.{err_from_is_err_and}
use Rattle.octets_core.specs.Reading.{GivesUnless}
use Rattle.part_text.specs.SealedFields.{SealedFields}
use Rattle.outside_core.specs.Reads.{WhichFailed}
use Rattle.input_core.specs.declared.fault.FileFault.TheVariants.{NoMemory}
use Rattle.input_core.specs.Readings.{store_in}
use Rattle.input_core.proofs.FedFiles.{input-value, input-fault}
use Rattle.input_core.proofs.stores.store_in.Goals as goal

pub returns-in_err-store-clause-input : goal.returns-in_err-store-clause-input
returns-in_err-store-clause-input g c =
    let p = err_from_is_err_and c.from_residual.result c.from_residual.ensures.1 in
    rw (p.1, p.2)
    (input-fault (g.D.Depot.files c.args.depot.now) (WhichFailed g.D.Depot c.args.depot.now c.made_of.new.depot) c.args.name.now
    (λ bytes r. GivesUnless NoMemory (λ (x : List SealedFields × ℕ). x.0) r (store_in bytes)) store_in (λ (s : List SealedFields). s) c.in_err-store.field-0.0 (λ bytes h. h) c.in_err-store.ensures.fed)

pub returns-clause-input : goal.returns-clause-input
returns-clause-input g c =
    input-value (g.D.Depot.files c.args.depot.now) (WhichFailed g.D.Depot c.args.depot.now c.made_of.new.depot) c.args.name.now
    (λ bytes r. GivesUnless NoMemory (λ (x : List SealedFields × ℕ). x.0) r (store_in bytes)) store_in (λ (s : List SealedFields). s) _ _ (λ bytes h. h) c.in_ok-store.ensures.fed
