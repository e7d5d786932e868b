use Rattle.equation_core.specs.RowLaws.{bit_or-one_odd}
use Rattle.benches.proofs.ribbon.Random.row.Goals as goal

pub returns-clause-odd : goal.returns-clause-odd
returns-clause-odd c = bit_or-one_odd _
