use Rattle.std.proofs.Common.{[], ◌<◌, ◌≡◌, ◌∙◌, ap, length, map, Ok, arith}
use Rattle.lending_core.specs.declared.replies.Answer.{Answer}
use Rattle.lending_core.specs.Lent.{sighting_of}
use Rattle.lending_core.specs.Replies.{answer_of, verdict_number, answered}
use Rattle.lending_core.proofs.Numbering.{one_more}
use Rattle.lending_core.proofs.opened.ask_each.Goals as goal

pub loop-query-preserved : goal.loop-query-preserved
loop-query-preserved c = λ parts opened.
    let lt : c.loop-query.query-index < length c.args.queries.now = omega arith in
    let same : length c.loop-query.queries ≡ length c.args.queries.now = omega arith in
    let number = ap (λ (a : Answer). a.number) (c.verdict_answer.ensures.value ∙ ap (answer_of verdict_number) (c.asked_one.ensures parts opened)) in
    rw number
    (one_more (answered (Ok parts) (map sighting_of c.args.sightings.now)) c.args.queries.now c.loop-query.queries c.loop-query.query-index
    (record { issuer = []; serial = []; serial_len = 0; first_sighting = 0; sightings = 0; answer = 0 }) lt same (c.loop-query.invariant parts opened))
