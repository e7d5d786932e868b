use Rattle.std.proofs.Common.{◌≡◌, length, refl, arith}
use Rattle.std.specs.Vec.{vec_len}
use Rattle.gather_core.proofs.Taken.{piece-held}
use Rattle.gather_core.proofs.texts.read_piece.Goals as goal

pub returns-clause-ok : goal.returns-clause-ok
returns-clause-ok c =
    let same : vec_len c.args.bytes ≡ length c.args.bytes.items = omega (arith, c.args.bytes.ok) in
    piece-held c.args.bytes.items c.in_ok-tally.tally (record { text = c.pop.new.self; start = _; count = _ }) (rw (c.deref.ensures.value, c.piece_limits.ensures) at c.in_ok-tally.ensures)
    refl (rw same at c.pop.ensures.rest) refl
