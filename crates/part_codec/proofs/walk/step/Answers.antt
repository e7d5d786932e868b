use Rattle.part_codec.proofs.Collects.{can-put, steps-put}
use Rattle.part_codec.proofs.walk.step.Goals as goal

pub put-requires : goal.put-requires
put-requires g c = λ is. can-put g.C.Collector.holds c.args.machine.now c.advance.new.self c.args.to.now c.args.piece.now c.in_ok-n.n c.in_ok-n.whole c.requires c.in_ok-n.ensures.ok is

pub returns-clause-ok : goal.returns-clause-ok
returns-clause-ok g c =
    steps-put g.C.Collector.holds c.args.machine.now c.advance.new.self c.args.to.now c.put.new.self c.args.piece.now c.in_ok-n.n c.in_ok-n.whole c.requires c.in_ok-n.ensures.ok c.in_ok-put.ensures.ok
