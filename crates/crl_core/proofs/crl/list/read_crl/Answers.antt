use Rattle.crl_core.proofs.CrlLaws.{taken, refused, malformed, only, one-reading}
use Rattle.crl_core.proofs.FitLaws.{fits-of}
use Rattle.crl_core.proofs.crl.list.read_crl.Goals as goal

pub returns-clause-taken : goal.returns-clause-taken
returns-clause-taken c = taken c.args.bytes.now c.outcome_in.result c.outcome_in.ensures

pub returns-clause-refused : goal.returns-clause-refused
returns-clause-refused c = refused c.args.bytes.now c.outcome_in.result c.outcome_in.ensures

pub returns-clause-malformed : goal.returns-clause-malformed
returns-clause-malformed c = malformed c.args.bytes.now c.outcome_in.result c.outcome_in.ensures

pub returns-clause-only : goal.returns-clause-only
returns-clause-only c = only c.args.bytes.now c.outcome_in.result c.outcome_in.ensures

pub returns-clause-one_reading : goal.returns-clause-one_reading
returns-clause-one_reading c = λ x y h k. one-reading x y c.args.bytes.now h k

pub returns-clause-fits : goal.returns-clause-fits
returns-clause-fits c = fits-of c.args.bytes.now c.outcome_in.result (taken c.args.bytes.now c.outcome_in.result c.outcome_in.ensures)
