use Rattle.std.proofs.Common.{◌-◌, ◌≤◌, drop, length, length-take, length-drop, refl, ◌∙◌, arith}
use borrow.Rule.Slice.PartMut.{same_len_mid}
use Rattle.slot_core.proofs.Quiet.{Quiet-none, Quiet-then}
use Rattle.slot_core.proofs.Filling.{filled-next}
use Rattle.slot_core.proofs.fields.fill.Goals as goal

pub loop-done-init : goal.loop-done-init
loop-done-init g c = record {
  within = omega arith;
  bytes = λ bytes told. (refl, omega arith);
  later = omega arith;
  quiet = Quiet-none (g.D.Disk.state c.args.disk.now);
}

pub loop-done-preserved : goal.loop-done-preserved
loop-done-preserved g c =
    let few : c.in_ok-count.count ≤ length c.read_at.new.buf = omega (arith, c.in_ok-count.ensures.count, c.read_at.auto.buf) in
    let kept = same_len_mid c.loop-done.done (length c.loop-done.buf - c.loop-done.done) c.loop-done.buf c.read_at.new.buf c.read_at.auto.buf in
    record {
      within = omega (
        arith,
        kept,
        c.in_ok-count.ensures.count,
        length-take (length c.loop-done.buf - c.loop-done.done) (drop c.loop-done.done c.loop-done.buf),
        length-drop c.loop-done.done c.loop-done.buf,
      );
      bytes = λ bytes told.
          let before = c.loop-done.invariant.bytes bytes told in
          let given = c.in_ok-count.ensures.bytes bytes (c.loop-done.invariant.quiet.same ∙ told) in (
            filled-next bytes c.loop-done.buf c.read_at.new.buf _ c.args.at c.loop-done.done c.in_ok-count.count c.loop-done.invariant.within few before.0 given.same,
            omega (arith, before.1, given.within),
          );
      later = omega arith;
      quiet = Quiet-then (g.D.Disk.state c.args.disk.now) (g.D.Disk.state c.loop-done.disk) (g.D.Disk.state c.read_at.new.self) c.loop-done.invariant.quiet c.read_at.ensures.quiet;
    }
