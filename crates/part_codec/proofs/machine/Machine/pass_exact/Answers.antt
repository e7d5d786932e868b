use Rattle.std.proofs.Common.{[], inr, sym, ap, subst, ◌∙◌, arith}
use Rattle.part_codec.specs.declared.fields.Open.{Open}
use Rattle.part_codec.specs.declared.fields.Open.TheVariants as opens
use Rattle.part_codec.specs.Stepping.{kept_after, open_after, AreLimits}
use Rattle.part_codec.proofs.FieldSteps.{starts-steps}
use Rattle.part_codec.proofs.WholePlanes.{plane-width, whole-room}
use Rattle.part_codec.proofs.machine.Machine.pass_exact.Goals as goal

pub invariant_of-self : goal.invariant_of-self
invariant_of-self c =
    let m = c.args.self.now in
    let t = c.args.plane.now in
    let limits : AreLimits m.field [] = subst (λ (o : Open). AreLimits o []) (sym c.requires.field) tt in
    let kept = c.keep_leaf.ensures ∙ sym (ap (λ (o : Open). kept_after o m.kept []) c.requires.field) in
    let next = c.at_leaf-self.ensures ∙ sym (ap (λ (o : Open). open_after o c.keep_leaf.new.kept) c.requires.field) in
    record {
      few = omega arith;
      before = omega arith;
      order = λ some. absurd (omega arith);
      starts = rw c.keep_leaf.ensures (starts-steps opens.ExactPlane m.kept [] tt m.starts);
      room = omega (arith, whole-room m c.keep_leaf.new.kept c.at_leaf-self.result t [] limits kept next (plane-width m t (inr c.requires.field) c.requires.len));
    }

pub returns-clause-kept : goal.returns-clause-kept
returns-clause-kept c = λ last. c.keep_leaf.ensures ∙ sym (ap (λ (o : Open). kept_after o c.args.self.now.kept last) c.requires.field)

pub returns-clause-next : goal.returns-clause-next
returns-clause-next c = c.at_leaf-self.ensures ∙ sym (ap (λ (o : Open). open_after o c.keep_leaf.new.kept) c.requires.field)
