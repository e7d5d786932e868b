use Rattle.command_core.proofs.Prefixes.{first_of, from_first}
use Rattle.command_core.proofs.laws.rehearsals_go_file_by_file.Goals as goal

pub returns : goal.returns
returns c = λ queries names inputs o. (from_first queries names inputs o, first_of queries names inputs o)
