use Rattle.std.proofs.Common.{◌≡◌, ◌+◌, length, Some, sym, ap, ◌∙◌, arith}
use Rattle.part_text.specs.PartText.{approx_text}
use Rattle.part_text.proofs.Lengths.{length_mixed}
use Rattle.view_core.proofs.Endings.{standing_mixed}
use Rattle.view_core.proofs.ends.mixed_end.Goals as goal

pub returns-in_err-exact-clause-value : goal.returns-in_err-exact-clause-value
returns-in_err-exact-clause-value c = λ m fits s.
    let holds = standing_mixed c.args.bytes.now c.args.at m fits s in
    let width = c.number8_at.ensures _ holds.few holds.width in
    let none = c.in_err-exact.ensures.value m.approx fits.approx (sym width) holds.approx in
    absurd cc

pub returns-clause-value : goal.returns-clause-value
returns-clause-value c = λ m fits s.
    let holds = standing_mixed c.args.bytes.now c.args.at m fits s in
    let width = c.number8_at.ensures _ holds.few holds.width in
    let some = c.in_ok-exact.ensures.value m.approx fits.approx (sym width) holds.approx in
    let place : c.in_ok-exact.exact ≡ c.args.at + 1 + length (approx_text m.approx) = cc in
    let exact = rw (← place) at holds.exact in
    let is = c.stage_end.ensures.value m.exact fits.exact fits.one exact in
    is ∙ ap Some (omega (arith, place, length_mixed m))
