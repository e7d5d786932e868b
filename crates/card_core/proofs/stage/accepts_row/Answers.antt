use Rattle.std.proofs.Common.{ℕ, length, get_or, arith}
use Rattle.ribbon_core.specs.Equations.{sum_of}
use Rattle.ribbon_core.specs.Rows.{equation_of}
use Rattle.card_core.proofs.Accepting.{accepts_bits}
use Rattle.card_core.proofs.stage.accepts_row.Goals as goal

pub returns-clause-value : goal.returns-clause-value
returns-clause-value g c id =
    let k : ℕ = length c.args.stage.now.planes.columns in
    let f : ℕ → ℕ = λ p. sum_of (equation_of c.args.row.now) (get_or c.args.stage.now.planes.columns p 0) in
    let e = accepts_bits k c.parity-sums.result c.args.row.now.tag f c.parity-sums.ensures.few_planes c.parity-sums.ensures.sums c.planes.result
    c.planes.ensures.count (omega (arith, c.planes.ensures.count, c.planes.ensures.few)) in
    rw (c.from.ensures, c.from-2.ensures) e
