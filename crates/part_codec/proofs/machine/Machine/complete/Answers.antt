use Rattle.std.proofs.Common.{Err, sym, ap, ◌∙◌}
use Rattle.octets_core.specs.Reading.{fault_at}
use Rattle.octets_core.specs.declared.fault.Why.{Why}
use Rattle.octets_core.specs.declared.fault.LayoutFault.{LayoutFault}
use Rattle.part_codec.specs.Stepping.{name_of}
use Rattle.part_codec.proofs.FieldSteps.{front-goes, wrong-front}
use Rattle.part_codec.proofs.MachineStands.{field-fails, ok-map, err-map, moved-settled, next-settled, partial-settled}
use Rattle.part_codec.proofs.machine.Machine.complete.Goals as goal

pub open_next-requires-clause-goes : goal.open_next-requires-clause-goes
open_next-requires-clause-goes c = front-goes c.args.self.now.field c.requires.front

pub returns-then-not-passes-clause-err : goal.returns-then-not-passes-clause-err
returns-then-not-passes-clause-err c = λ s b x o w.
    let m = c.args.self.now in
    field-fails m s c.args.last.now b x o w (front-goes m.field c.requires.front) (sym (c.passes.ensures.exact _) ∙ c.if-not-passes.true)
    ∙ ap (λ (y : Why). Err (fault_at y (name_of m.field) m.at)) (wrong-front m.field c.requires.front) ∙ ap (λ (e : LayoutFault). Err e) (sym c.fault.ensures)

pub returns-clause-ok : goal.returns-clause-ok
returns-clause-ok c = ok-map c.settle.result (λ f s b o w. f _ b (c.open_next.ensures.ok s b o w (sym (c.passes.ensures.exact _) ∙ c.if-not-passes.false))) c.settle.ensures.ok

pub returns-clause-moved : goal.returns-clause-moved
returns-clause-moved c =
    moved-settled c.settle.result c.args.self.now c.open_next.new.self c.settle.new.self c.args.last.now c.settle.ensures.next c.settle.ensures.kept c.settle.ensures.at c.open_next.ensures.next
    (λ s b o w. c.open_next.ensures.moved s b o w (sym (c.passes.ensures.exact _) ∙ c.if-not-passes.false))

pub returns-clause-err : goal.returns-clause-err
returns-clause-err c = err-map _ _ c.settle.result
    (λ e f s b x o w. f _ b x (c.open_next.ensures.ok s b o w (sym (c.passes.ensures.exact _) ∙ c.if-not-passes.false))) c.settle.ensures.err

pub returns-clause-next : goal.returns-clause-next
returns-clause-next c =
    next-settled c.settle.result c.args.self.now c.open_next.new.self c.settle.new.self c.settle.ensures.next c.settle.ensures.kept c.open_next.ensures.next

pub returns-clause-partial : goal.returns-clause-partial
returns-clause-partial c = partial-settled c.settle.result c.settle.new.self c.open_next.new.self.field c.settle.ensures.next c.settle.ensures.empty
