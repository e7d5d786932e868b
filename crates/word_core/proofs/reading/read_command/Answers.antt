use Rattle.std.proofs.Common.{map}
use Rattle.std.specs.Prelude.{string_bytes}
use Rattle.word_core.proofs.Commands.{query_not_check}
use Rattle.word_core.proofs.reading.read_command.Goals as goal

pub returns-in_err-read_query-in-query-clause-lent : goal.returns-in_err-read_query-in-query-clause-lent
returns-in_err-read_query-in-query-clause-lent c = λ name h. absurd (query_not_check c.args.command.now (map string_bytes c.args.rest.now) name c.in-query.is h)
