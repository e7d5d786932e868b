use Rattle.std.proofs.Common.{◌≤◌, ◌-◌, ◌+◌, length, refl, ◌∙◌, arith}
use Rattle.slot_core.proofs.FieldLaws.{slot-there, short-slot, filled-whole}
use Rattle.slot_core.proofs.examine.read_length.Goals as goal
use Rattle.slot_core.proofs.examine.read_length.Goals.{else-count-gt0-via-then-count-gt0+in_ok-fill+else-not-branch, else-count-gt0-via-else-count-gt0}

pub returns-in_default-2-clause-refusal : goal.returns-in_default-2-clause-refusal
returns-in_default-2-clause-refusal g c = λ device told. (refl, short-slot c.args.at c.args.capacity device (rw c.in_default.is at (c.in_ok-count.ensures.number device told)))

pub returns-clause-ok : goal.returns-clause-ok
returns-clause-ok g c = λ device told.
    let there : c.in-Some.count ≤ length device - (c.args.at + 8) = elim c.else-count-gt0.branch [
      | else-count-gt0-via-then-count-gt0+in_ok-fill+else-not-branch w ↦
          let is_there = filled-whole _ device _ _ w.if-not-branch.false (w.in_ok-fill.ensures.bytes device (c.read_number.ensures.quiet.same ∙ told)) in
          omega (arith, is_there, w.fill.auto.buf, w.if-count-gt0.true)
      | else-count-gt0-via-else-count-gt0 w ↦ omega arith
    ] in
    slot-there c.args.at c.args.capacity c.in-Some.count device (rw c.in-Some.is at (c.in_ok-count.ensures.number device told)) c.if-count-capacity.true there
