use Rattle.der_core.specs.Elements.{der_of}
use Rattle.der_core.proofs.TimeGrammarLaws.{time-found, time-only}
use Rattle.der_core.proofs.moment.time.Goals as goal

pub returns-clause-found : goal.returns-clause-found
returns-clause-found c = rw c.ok_or.ensures.value (time-found c.seconds_in.result _ (der_of c.args.e.now) c.seconds_in.ensures)

pub returns-clause-only : goal.returns-clause-only
returns-clause-only c = rw c.ok_or.ensures.value (time-only c.seconds_in.result _ (der_of c.args.e.now) c.seconds_in.ensures)
