use Rattle.std.proofs.Common.{drop, length, ◌-◌, refl, arith, rules, length-take, length-drop}
use Rattle.std.proofs.lemmas.Result.{err_from_is_err_and}
use Rattle.outside_core.proofs.Appending.{extending-next, Torn-next, KeepsOthers-extending, KeepsOthers-Torn, KeepsOthers-then}
use Rattle.outside_core.proofs.append.append_all.Goals as goal

pub returns-in_err-done-clause-err : goal.returns-in_err-done-clause-err
returns-in_err-done-clause-err g c =
    let p = err_from_is_err_and c.from_residual.result c.from_residual.ensures.1 in
    rw p.1 (Torn-next (g.D.Depot.files c.args.depot.now) _ _ c.args.name.now c.args.bytes.now _ c.loop-done.done (length c.args.bytes.now - c.loop-done.done) refl (omega arith)
    c.loop-done.invariant.files c.in_err-done.ensures.err)

pub returns-in_err-done-clause-others : goal.returns-in_err-done-clause-others
returns-in_err-done-clause-others g c =
    KeepsOthers-then (g.D.Depot.files c.args.depot.now) (g.D.Depot.files c.loop-done.depot) (g.D.Depot.files c.append.new.self) c.args.name.now
    (KeepsOthers-extending _ _ c.args.name.now _ c.loop-done.invariant.files)
    (KeepsOthers-Torn _ _ c.args.name.now _ c.in_err-done.ensures.err)

pub loop-done-preserved : goal.loop-done-preserved
loop-done-preserved g c =
    let left = length c.args.bytes.now - c.loop-done.done in
    record {
      within = omega (arith, length-take left (drop c.loop-done.done c.args.bytes.now), length-drop c.loop-done.done c.args.bytes.now, c.in_ok-done.ensures.ok.within);
      files = extending-next (g.D.Depot.files c.args.depot.now) _ _ c.args.name.now c.args.bytes.now _ c.loop-done.done left c.in_ok-done.field-0 refl
          c.in_ok-done.ensures.ok.within c.loop-done.invariant.files c.in_ok-done.ensures.ok.bytes;
      only_writes = search rules;
    }

pub returns-clause-others : goal.returns-clause-others
returns-clause-others g c = KeepsOthers-extending (g.D.Depot.files c.args.depot.now) (g.D.Depot.files c.loop-done.depot) c.args.name.now _ c.loop-done.invariant.files
