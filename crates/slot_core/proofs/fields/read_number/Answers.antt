use Rattle.std.proofs.Common.{ℕ, take, drop, sym, ap, ◌∙◌}
use Rattle.slot_core.proofs.fields.read_number.Goals as goal

pub returns-then-branch-clause-number : goal.returns-then-branch-clause-number
returns-then-branch-clause-number g c = λ bytes told.
    let filled = rw c.if-branch.true at (c.in_ok-fill.ensures.bytes bytes told) in
    sym (ap (λ (n : ℕ). take n (drop c.args.at bytes)) c.fill.auto.buf) ∙ sym filled.0 ∙ c.spelled.ensures
