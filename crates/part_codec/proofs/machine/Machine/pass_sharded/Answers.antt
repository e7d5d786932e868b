use Rattle.std.proofs.Common.{[], drop, Err, sym, ap, subst, ◌∙◌, arith}
use Rattle.octets_core.specs.Reading.{fault_at}
use Rattle.octets_core.specs.declared.fault.LayoutFault.{LayoutFault}
use Rattle.part_codec.specs.declared.fields.Open.{Open}
use Rattle.part_codec.specs.Remaining.{Seen}
use Rattle.part_codec.specs.Scanning.{Stands}
use Rattle.part_codec.specs.Stepping.{in_front, name_of, wrong_of, skips, tail_of, seen_after, kept_after, AreLimits}
use Rattle.part_codec.proofs.FieldSteps.{front-goes}
use Rattle.part_codec.proofs.MachineStands.{field-fails, at-sharded}
use Rattle.part_codec.proofs.machine.Machine.pass_sharded.Goals as goal

pub passes-requires : goal.passes-requires
passes-requires c = record {
  front = ap in_front c.requires.field;
  len = sym (ap tail_of c.requires.field);
  starts = c.args.self.now.starts;
}

pub open_next-requires : goal.open_next-requires
open_next-requires c =
    let m = c.args.self.now in
    record {
      goes = front-goes m.field (ap in_front c.requires.field);
      passed = c.requires.passed ∙ sym (ap (λ (o : Open). skips o m.kept) c.requires.field);
      len = sym (ap tail_of c.requires.field);
      limits = subst (λ (o : Open). AreLimits o []) (sym c.requires.field) tt;
    }

pub returns-then-not-passes-clause-err : goal.returns-then-not-passes-clause-err
returns-then-not-passes-clause-err c = λ s b x st.
    let m = c.args.self.now in
    field-fails m s [] b x st.opens (at-sharded m s b c.requires.field c.requires.passed st) (front-goes m.field (ap in_front c.requires.field))
    (sym (c.passes.ensures.exact _) ∙ c.if-not-passes.true)
    ∙ ap (λ (o : Open). Err (fault_at (wrong_of o) (name_of m.field) m.at)) c.requires.field ∙ ap (λ (e : LayoutFault). Err e) (sym c.fault.ensures)

pub returns-clause-ok : goal.returns-clause-ok
returns-clause-ok c = λ s b st.
    let m = c.args.self.now in
    subst (λ (q : Seen). Stands c.open_next.new.self q b) (ap (λ (o : Open). seen_after o m.kept s (drop m.at b)) c.requires.field)
    (c.open_next.ensures.ok s b st.opens (at-sharded m s b c.requires.field c.requires.passed st) (sym (c.passes.ensures.exact _) ∙ c.if-not-passes.false))

pub returns-clause-kept : goal.returns-clause-kept
returns-clause-kept c = c.open_next.ensures.kept ∙ ap (λ (o : Open). kept_after o c.args.self.now.kept []) c.requires.field

pub returns-clause-at : goal.returns-clause-at
returns-clause-at c = omega (arith, c.open_next.ensures.at, c.requires.passed)
