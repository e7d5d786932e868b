use Rattle.std.proofs.Common.{map, ◌∙◌}
use Rattle.lending_core.specs.Lent.{sighting_of}
use Rattle.lending_core.specs.Asking.{store_of}
use Rattle.lending_core.proofs.Each.{each_read, each_fault}
use Rattle.lending_core.proofs.asking.query_each.Goals as goal

pub returns-in-Ok : goal.returns-in-Ok
returns-in-Ok c =
    each_read (store_of c.args.store.now) c.in-Ok.store (map sighting_of c.args.sightings.now) c.deref.result.now c.args.queries.now c.answer_each.new.queries c.alone.result
    c.in-Ok.ensures.store (c.deref.ensures.value ∙ c.in-Ok.ensures.sightings) c.answer_each.ensures c.alone.ensures

pub returns-in-Err : goal.returns-in-Err
returns-in-Err c =
    each_fault (store_of c.args.store.now) c.in-Err.fault (map sighting_of c.args.sightings.now) c.args.queries.now c.number_each.new.queries c.fault_answer-answer.result
    c.in-Err.ensures.store c.fault_answer-answer.ensures c.number_each.ensures
