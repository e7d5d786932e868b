use Rattle.std.proofs.lemmas.Result.{err_from_is_err_and}
use Rattle.input_core.proofs.One.{one-read, one-fault}
use Rattle.input_core.proofs.query_reading.sightings_of.Goals as goal

pub returns-in_err-sighting : goal.returns-in_err-sighting
returns-in_err-sighting c =
    let p = err_from_is_err_and c.from_residual.result c.from_residual.ensures.1 in
    rw (p.1, p.2) (λ wants. one-fault c.args.count c.args.cursor.now.bytes c.args.cursor.now.at c.in_err-sighting.field-0.0 c.if-count-eq1.true c.in_err-sighting.ensures.0)

pub returns-then-count-eq1 : goal.returns-then-count-eq1
returns-then-count-eq1 c = (
  one-read c.args.count c.args.cursor.now.bytes c.args.cursor.now.at c.in_ok-sighting.sighting c.sighting_of.new.cursor.at c.if-count-eq1.true
      c.in_ok-sighting.ensures.0,
  c.in_ok-sighting.ensures.1,
)
