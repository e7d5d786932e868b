use Rattle.lending_core.proofs.Slices.{own_stands, fault_stands}
use Rattle.lending_core.proofs.opened.own_sightings.Goals as goal

pub returns-in-Ok-clause-ok : goal.returns-in-Ok-clause-ok
returns-in-Ok-clause-ok c = own_stands c.args.query.now c.args.all.now c.in-Ok.own.now c.in-Ok.ensures.ok

pub returns-in-Err-clause-err : goal.returns-in-Err-clause-err
returns-in-Err-clause-err c = fault_stands c.args.query.now c.args.all.now c.in-Err.fault c.in-Err.ensures.err
