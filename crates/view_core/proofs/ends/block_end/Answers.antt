use Rattle.std.proofs.Common.{◌≡◌, ◌+◌, ◌-◌, ◌∙◌, Some, sym, ap, arith}
use Rattle.view_core.proofs.Endings.{standing_block}
use Rattle.view_core.proofs.ends.block_end.Goals as goal

pub returns-clause-value : goal.returns-clause-value
returns-clause-value c = λ b fits s.
    let holds = standing_block c.args.bytes.now c.args.at b fits s in
    let place : c.args.at + 33 - 1 ≡ c.args.at + 32 = omega arith in
    let mode = c.number8_at.ensures _ holds.few (rw place holds.mode) in
    c.body_end.ensures.value b.body fits.body (sym mode) holds.body ∙ ap Some (omega (arith, holds.long))
