use Rattle.std.proofs.Common.{◌∙◌}
use Rattle.std.proofs.lemmas.Result.{err_from_is_err_and}
use Rattle.input_core.proofs.Steps.{queries-go_on, queries-end, queries-done}
use Rattle.input_core.proofs.query_reading.queries_of.Goals as goal

pub returns-in_err-query : goal.returns-in_err-query
returns-in_err-query c =
    let p = err_from_is_err_and c.from_residual-in_err-query.result c.from_residual-in_err-query.ensures.1 in
    rw (p.1, p.2) (λ wants. queries-end c.loop.queries.items c.args.count c.loop.counter c.loop.cursor.bytes c.loop.cursor.at c.in_err-query.field-0.0 _
    c.loop-test.true (c.in_err-query.ensures wants) c.loop.invariant.read)

pub loop-preserved : goal.loop-preserved
loop-preserved c =
    let read = c.in_ok-query.ensures in
    record {
      read = rw (c.in_ok-push.ensures.items, read.1) (queries-go_on c.loop.queries.items c.in_ok-query.query c.args.count c.loop.counter c.loop.cursor.bytes
          c.loop.cursor.at c.query_of.new.cursor.at _ c.loop-test.true read.0 c.loop.invariant.read);
      same = read.1 ∙ c.loop.invariant.same;
    }

pub returns : goal.returns
returns c = (queries-done c.loop.queries.items c.args.count c.loop.counter c.loop.cursor.bytes c.loop.cursor.at _ c.loop-test.false c.loop.invariant.read, c.loop.invariant.same)
