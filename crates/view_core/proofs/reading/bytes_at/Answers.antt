use Rattle.std.proofs.Common.{arith}
use Rattle.view_core.proofs.Texts.{stands_within}
use Rattle.view_core.proofs.reading.bytes_at.Goals as goal

pub returns-then-last-at-clause-there : goal.returns-then-last-at-clause-there
returns-then-last-at-clause-there c = λ text len some s.
    let end = stands_within c.args.bytes.now c.args.at text (omega (arith, some, len)) s in
    absurd (omega (arith, end, len, some, c.if-last-at.true))

pub returns-then-bytes-count-clause-there : goal.returns-then-bytes-count-clause-there
returns-then-bytes-count-clause-there c = λ text len some s.
    let end = stands_within c.args.bytes.now c.args.at text (omega (arith, some, len)) s in
    absurd (omega (arith, end, len, some, c.if-bytes-count.true))
