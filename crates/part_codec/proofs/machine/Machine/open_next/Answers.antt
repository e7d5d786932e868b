use Rattle.std.proofs.Common.{refl, arith}
use Rattle.part_codec.proofs.FieldSteps.{room-steps, starts-steps}
use Rattle.part_codec.proofs.MachineStands.{field-goes, passes-of, end-of}
use Rattle.part_codec.proofs.machine.Machine.open_next.Goals as goal

pub invariant_of-self : goal.invariant_of-self
invariant_of-self c =
    let m = c.args.self.now in
    let steps = room-steps m.field m.kept c.args.last.now c.requires.limits m.starts in
    record {
      few = omega arith;
      before = omega arith;
      order = λ some. absurd (omega arith);
      starts = rw c.keep.ensures (starts-steps m.field m.kept c.args.last.now c.requires.limits m.starts);
      room = rw (c.next_of-self.ensures, c.keep.ensures) (omega (arith, steps, c.requires.len, c.requires.passed, m.room));
    }

pub returns-clause-ok : goal.returns-clause-ok
returns-clause-ok c = λ s b o w t.
    field-goes c.args.self.now _ s c.args.last.now b o w c.requires.limits t c.keep.ensures c.next_of-self.ensures
    (end-of c.args.self.now c.args.last.now b w c.requires.len c.requires.passed) refl refl

pub returns-clause-moved : goal.returns-clause-moved
returns-clause-moved c = λ s b o w t.
    passes-of c.args.self.now _ s c.args.last.now b o w c.requires.limits t c.keep.ensures (end-of c.args.self.now c.args.last.now b w c.requires.len c.requires.passed)
