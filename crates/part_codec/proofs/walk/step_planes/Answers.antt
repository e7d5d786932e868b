use Rattle.std.proofs.Common.{arith}
use Rattle.part_codec.proofs.MachineStands.{bytes-front}
use Rattle.part_codec.proofs.WholeStages.{can-put-planes, steps-planes}
use Rattle.part_codec.proofs.walk.step_planes.Goals as goal

pub step_apart-requires : goal.step_apart-requires
step_apart-requires g c = rw (c.whole_planes-n.ensures.left c.if-n-eq0.true) c.requires.can

pub put_planes-requires : goal.put_planes-requires
put_planes-requires g c =
    can-put-planes g.C.Collector.holds c.args.machine.now c.whole_planes-n.new.self c.args.to.now _ c.requires.can c.requires.field
    (bytes-front _ c.args.piece.now (λ i. omega (arith, c.type_inv.piece i))) (c.whole_planes-n.ensures.taken (omega (arith, c.if-n-eq0.false)))

pub returns-clause-ok : goal.returns-clause-ok
returns-clause-ok g c =
    steps-planes g.C.Collector.holds c.args.machine.now c.whole_planes-n.new.self c.args.to.now c.put_planes.new.self c.args.piece.now c.whole_planes-n.result c.requires.can c.requires.field
    (λ i. omega (arith, c.type_inv.piece i)) c.whole_planes-n.ensures.count (omega (arith, c.if-n-eq0.false)) (c.whole_planes-n.ensures.taken (omega (arith, c.if-n-eq0.false)))
    c.in_ok-put_planes.ensures.ok
