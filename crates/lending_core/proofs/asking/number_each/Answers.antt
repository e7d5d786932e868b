use Rattle.std.proofs.Common.{[], ◌<◌, ◌≡◌, length, arith}
use Rattle.lending_core.specs.Replies.{with_number}
use Rattle.lending_core.proofs.Numbering.{one_more}
use Rattle.lending_core.proofs.asking.number_each.Goals as goal

pub loop-query-preserved : goal.loop-query-preserved
loop-query-preserved c =
    let lt : c.loop-query.query-index < length c.args.queries.now = omega arith in
    let same : length c.loop-query.queries ≡ length c.args.queries.now = omega arith in
    one_more (with_number c.args.number) c.args.queries.now c.loop-query.queries c.loop-query.query-index
    (record { issuer = []; serial = []; serial_len = 0; first_sighting = 0; sightings = 0; answer = 0 }) lt same c.loop-query.invariant
