use Rattle.der_core.proofs.FaultLaws.{faulty-read, faulty-taken}
use Rattle.der_core.proofs.GrammarLaws.{items-read, items-taken}
use Rattle.der_core.proofs.read.elements.Goals as goal

pub returns-clause-whole : goal.returns-clause-whole
returns-clause-whole c = λ es. (items-read es c.args.contents.now, items-taken es c.args.contents.now)

pub returns-clause-faulty : goal.returns-clause-faulty
returns-clause-faulty c = λ es f. (faulty-read es f c.args.contents.now, faulty-taken es f c.args.contents.now)
