use Rattle.std.proofs.Common.{arith, refl}
use Rattle.std.proofs.lemmas.Result.{err_from_is_err_and}
use Rattle.store_core.proofs.StoreReads.{closed, not-closed, not-whole}
use Rattle.store_core.proofs.reader.Parts.close.Goals as goal

pub returns-in-Err-clause-err : goal.returns-in-Err-clause-err
returns-in-Err-clause-err c =
    not-whole c.args.self.now c.in-Err.fault c.moved.result c.requires.some (omega arith) c.moved.ensures
    (rw c.replace-part.ensures.value at c.in-Err.ensures.err)

pub returns-in_err-longer-clause-err : goal.returns-in_err-longer-clause-err
returns-in_err-longer-clause-err c =
    let p = err_from_is_err_and c.from_residual.result c.from_residual.ensures.1 in
    rw (p.1, p.2) (λ wants b x r ends.
    not-closed c.args.self.now b x c.in-Ok.sealed c.in_err-longer.field-0.0 c.requires.some (rw c.replace-part.ensures.value at c.in-Ok.ensures.ok)
    (rw c.take.ensures.value at (c.in_err-longer.ensures.err wants)) r)

pub returns-clause-ok : goal.returns-clause-ok
returns-clause-ok c = λ b r.
    closed c.args.self.now _ b c.in-Ok.sealed c.in_ok-longer.field-0 c.requires.some (rw c.replace-part.ensures.value at c.in-Ok.ensures.ok)
    (rw c.take.ensures.value at c.in_ok-longer.ensures.ok) refl refl refl refl
    (rw c.replace-part.ensures.after c.new.ensures.stands) (rw c.replace-part.ensures.after c.new.ensures.fresh) r
