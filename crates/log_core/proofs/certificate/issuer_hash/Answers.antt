use Rattle.log_core.proofs.EntryLaws.{hash-found, hash-only}
use Rattle.log_core.proofs.certificate.issuer_hash.Goals as goal

pub returns-clause-found : goal.returns-clause-found
returns-clause-found c = hash-found c.args.cert.now c.key_hash.result c.key_hash.ensures

pub returns-clause-only : goal.returns-clause-only
returns-clause-only c = hash-only c.args.cert.now c.key_hash.result c.key_hash.ensures
