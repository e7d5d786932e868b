use Rattle.std.proofs.Common.{true, sym, arith}
use Rattle.part_codec.proofs.Collects.{can-put, steps-put}
use Rattle.part_codec.proofs.walk.step_field.Goals as goal

pub step_apart-requires : goal.step_apart-requires
step_apart-requires g c = rw (c.whole_field-n.ensures.left c.if-n-eq0.true) c.requires.can

pub put-requires : goal.put-requires
put-requires g c = λ whole.
    rw (sym c.requires.field) (can-put g.C.Collector.holds c.args.machine.now c.whole_field-n.new.self c.args.to.now c.args.piece.now c.whole_field-n.result true c.requires.can
    (c.whole_field-n.ensures.taken (omega (arith, c.if-n-eq0.false))) whole)

pub returns-clause-ok : goal.returns-clause-ok
returns-clause-ok g c =
    steps-put g.C.Collector.holds c.args.machine.now c.whole_field-n.new.self c.args.to.now c.put.new.self c.args.piece.now c.whole_field-n.result true c.requires.can
    (c.whole_field-n.ensures.taken (omega (arith, c.if-n-eq0.false))) (rw c.requires.field c.in_ok-put.ensures.ok)
