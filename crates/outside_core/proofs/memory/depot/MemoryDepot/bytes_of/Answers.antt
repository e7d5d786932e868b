use Rattle.std.proofs.Common.{ap, sym, ◌∙◌, Some}
use Rattle.outside_core.specs.Entries.{place_of}
use Rattle.outside_core.specs.declared.memory.entries.Entry.{Entry}
use Rattle.outside_core.proofs.Entries.{get-place, get-no_place}
use Rattle.outside_core.proofs.memory.depot.MemoryDepot.bytes_of.Goals as goal

pub returns-in-Some : goal.returns-in-Some
returns-in-Some c = rw (← c.self.view_is) (
    let is = ap (λ es. place_of es c.args.name.now) (sym c.deref.ensures.value) ∙ sym c.in-Some.ensures in
    ap Some (c.as_slice.ensures.value ∙ ap (λ (e : Entry). e.bytes.items) c.index.ensures)
    ∙ sym (get-place c.self.inside.entries.items c.args.name.now c.in-Some.i c.index.result.now is))

pub returns-in-None : goal.returns-in-None
returns-in-None c = rw (← c.self.view_is) (
    sym (get-no_place c.self.inside.entries.items c.args.name.now (ap (λ es. place_of es c.args.name.now) (sym c.deref.ensures.value) ∙ sym c.in-None.ensures)))
