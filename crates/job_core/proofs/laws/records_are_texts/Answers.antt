use Rattle.std.proofs.Common.{◌-◌, length, arith}
use Rattle.job_core.proofs.Steps.{fails, enough}
use Rattle.job_core.proofs.Items.{serials-kept}
use Rattle.job_core.proofs.Passing.{passes}
use Rattle.job_core.proofs.laws.records_are_texts.Goals as goal

pub returns-clause-passed : goal.returns-clause-passed
returns-clause-passed c = λ brings limits h serials xs before rest pass. passes brings limits h serials xs before rest pass

pub returns-clause-fault : goal.returns-clause-fault
returns-clause-fault c = λ brings limits h serials bytes at e is. fails brings limits h serials bytes at e is

pub returns-clause-steps : goal.returns-clause-steps
returns-clause-steps c = λ brings n limits h serials bytes at le. enough brings limits n (length bytes - at) h serials bytes at le (omega arith)

pub returns-clause-serials : goal.returns-clause-serials
returns-clause-serials c = λ xs. omega (arith, serials-kept 0 xs)
