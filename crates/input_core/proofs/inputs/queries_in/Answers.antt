use Rattle.std.proofs.Common.{map, refl, ap, ◌+◌, Ok, Err, Vec, Global}
use Rattle.std.proofs.lemmas.Result.{err_from_is_err_and}
use Rattle.input_core.specs.declared.query.Asked.{Asked}
use Rattle.input_core.specs.Queries.{as_query}
use Rattle.input_core.specs.declared.fault.QueriesFault.TheVariants as faults
use Rattle.input_core.specs.Faults.{of_queries}
use Rattle.input_core.specs.declared.inputs.TheConstants.{LONGEST_QUERIES}
use Rattle.input_core.specs.Readings.{faulted, queries_in}
use Rattle.outside_core.specs.Reads.{WhichFailed}
use Rattle.input_core.proofs.FilesRead.{input_err, input_front, faulted_ok, faulted_err}
use Rattle.input_core.proofs.LongestQueries.{queries-same}
use Rattle.input_core.proofs.inputs.queries_in.Goals as goal

pub returns-in_err-bytes-clause-input : goal.returns-in_err-bytes-clause-input
returns-in_err-bytes-clause-input g c =
    let p = err_from_is_err_and c.from_residual.result c.from_residual.ensures.1 in
    rw (p.1, p.2)
    (input_err (g.D.Depot.files c.args.depot.now) (WhichFailed g.D.Depot c.args.depot.now _) c.args.name.now queries_in (λ (v : Vec Asked Global). map as_query v.items) c.in_err-bytes.field-0.0
    c.in_err-bytes.ensures.failed c.in_err-bytes.ensures.unblamed)

pub returns-in_err-read_queries-clause-input : goal.returns-in_err-read_queries-clause-input
returns-in_err-read_queries-clause-input g c =
    let p = err_from_is_err_and c.from_residual-in_err-read_queries.result c.from_residual-in_err-read_queries.ensures.1 in
    rw (p.1, p.2)
    (input_front (g.D.Depot.files c.args.depot.now) (WhichFailed g.D.Depot c.args.depot.now _) c.args.name.now c.in_ok-bytes.bytes.items (LONGEST_QUERIES + 1)
    queries_in (λ (v : Vec Asked Global). map as_query v.items)
    (Err (of_queries c.in_err-read_queries.field-0.0)) c.in_ok-bytes.bytes (λ file. ap (faulted of_queries) (queries-same file)) c.in_ok-bytes.ensures.bytes c.in_ok-bytes.ensures.unblamed
    (faulted_err of_queries faults.NoMemory c.in_err-read_queries.field-0.0 (λ (v : Vec Asked Global). map as_query v.items) _ refl (rw c.deref.ensures.value at c.in_err-read_queries.ensures.exact)))

pub returns-clause-input : goal.returns-clause-input
returns-clause-input g c =
    input_front (g.D.Depot.files c.args.depot.now) (WhichFailed g.D.Depot c.args.depot.now _) c.args.name.now c.in_ok-bytes.bytes.items (LONGEST_QUERIES + 1)
    queries_in (λ (v : Vec Asked Global). map as_query v.items)
    (Ok c.in_ok-read_queries.field-0) c.in_ok-bytes.bytes (λ file. ap (faulted of_queries) (queries-same file)) c.in_ok-bytes.ensures.bytes c.in_ok-bytes.ensures.unblamed
    (faulted_ok of_queries (λ (v : Vec Asked Global). map as_query v.items) c.in_ok-read_queries.field-0 _ (rw c.deref.ensures.value at c.in_ok-read_queries.ensures.exact))
