use Rattle.std.proofs.Common.{◌/◌, ◌%◌, ◌^◌, ◌*◌, arith}
use Rattle.view_core.proofs.Planes.{stands_word}
use Rattle.view_core.proofs.plane.word_at.Goals as goal

pub returns-clause-value : goal.returns-clause-value
returns-clause-value g c width Z lt s =
    c.number64_at.ensures (Z / 2 ^ (64 * c.args.i) % 2 ^ 64) (omega arith) (stands_word c.args.bytes.now c.args.at width Z c.args.i lt s)
