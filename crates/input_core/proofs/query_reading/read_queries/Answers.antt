use Rattle.std.proofs.Common.{map, arith}
use Rattle.input_core.specs.Queries.{as_query}
use Rattle.input_core.proofs.Decodes.{spelled-of, fits-of, each-of, only-of}
use Rattle.input_core.proofs.QueryBounds.{at-of}
use Rattle.input_core.proofs.query_reading.read_queries.Goals as goal

pub returns-clause-spelled : goal.returns-clause-spelled
returns-clause-spelled c = spelled-of (λ v. map as_query v.items) c.args.bytes.now c.file_of.result (λ i. omega (arith, c.type_inv.bytes i)) c.file_of.ensures

pub returns-clause-fits : goal.returns-clause-fits
returns-clause-fits c = fits-of (λ v. map as_query v.items) c.args.bytes.now c.file_of.result (λ i. omega (arith, c.type_inv.bytes i)) c.file_of.ensures

pub returns-clause-each : goal.returns-clause-each
returns-clause-each c = each-of (λ v. v.items) c.file_of.result (fits-of (λ v. map as_query v.items) c.args.bytes.now c.file_of.result (λ i. omega (arith, c.type_inv.bytes i)) c.file_of.ensures)

pub returns-clause-only : goal.returns-clause-only
returns-clause-only c = λ qs fits is. only-of (λ v. map as_query v.items) c.args.bytes.now c.file_of.result qs c.file_of.ensures fits is

pub returns-clause-at : goal.returns-clause-at
returns-clause-at c = at-of (λ v. map as_query v.items) c.args.bytes.now c.file_of.result c.file_of.ensures
