use Rattle.std.proofs.lemmas.Result.{err_from_is_err_and}
use Rattle.store_core.proofs.StoreReads.{part-begins, part-begins_none, part-taken, part-refused}
use Rattle.store_core.proofs.reader.longer.Goals as goal

pub returns-in_err-install-in-Some-clause-err : goal.returns-in_err-install-in-Some-clause-err
returns-in_err-install-in-Some-clause-err c =
    let p = err_from_is_err_and c.from_residual.result c.from_residual.ensures.1 in
    rw (p.1, p.2) (λ wants count at end bytes some is. rw c.in-Some.is
    (part-refused count c.in-Some.store c.args.part c.in_err-install-in-Some.field-0.0.why bytes at end some c.in_err-install-in-Some.ensures.refused.1 is))

pub returns-in_err-start-in-None-clause-err : goal.returns-in_err-start-in-None-clause-err
returns-in_err-start-in-None-clause-err c =
    let p = err_from_is_err_and c.from_residual-in_err-start-in-None.result c.from_residual-in_err-start-in-None.ensures.1 in
    rw (p.1, p.2) (λ wants count at end bytes some is. rw c.in-None.is
    (part-begins_none count c.args.part c.in_err-start-in-None.field-0.0 bytes at end c.in_err-start-in-None.ensures.refused wants is))

pub returns-in_ok-install-in-Some-clause-ok : goal.returns-in_ok-install-in-Some-clause-ok
returns-in_ok-install-in-Some-clause-ok c = λ count at end bytes some is. rw c.in-Some.is
    (part-taken count c.in-Some.store c.install.new.self c.args.part bytes at end some c.in_ok-install-in-Some.ensures.admitted c.in_ok-install-in-Some.ensures.added is)

pub returns-in_ok-start-in-None-clause-ok : goal.returns-in_ok-start-in-None-clause-ok
returns-in_ok-start-in-None-clause-ok c = λ count at end bytes some is. rw c.in-None.is
    (part-begins count c.args.part c.in_ok-start-in-None.field-0 bytes at end c.in_ok-start-in-None.ensures.snapshot c.in_ok-start-in-None.ensures.store is)
