use Rattle.std.proofs.Common.{◌+◌, ◌++◌, sym, ap, subst, arith}
use Rattle.part_codec.specs.ReadPlanes.{AreStageBytes}
use Rattle.part_codec.specs.PileFields.{PileFields}
use Rattle.part_codec.proofs.Onces.{pile-can-planes}
use Rattle.part_codec.proofs.pile.PileCollector.put_planes.Goals as goal

pub overflow_add-self : goal.overflow_add-self
overflow_add-self c =
    omega (arith, (pile-can-planes c.args.self.now c.args.kept.now c.args.count c.args.bytes.now c.requires).few_planes, ap (λ (p : PileFields). p.done) c.self.view_is)

pub stage-requires : goal.stage-requires
stage-requires c =
    rw c.in_ok-extend_from_slice.ensures.items (subst (λ (p : PileFields). AreStageBytes c.args.kept.now.starts (p.done + c.args.count) (p.bytes ++ c.args.bytes.now)) (sym c.self.view_is)
    (pile-can-planes c.args.self.now c.args.kept.now c.args.count c.args.bytes.now c.requires))
