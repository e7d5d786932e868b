use Rattle.std.proofs.Common.{◌≡◌, Some, None, is_some, true, false, ap, sym, ◌∙◌, refl, inr}
use Rattle.std.specs.FinMap.{get}
use Rattle.outside_core.specs.Calls.{CallsView, is_failing, one_made, one_failed}
use Rattle.outside_core.specs.Entries.{place_of}
use Rattle.outside_core.specs.View.{DepotView}
use Rattle.outside_core.specs.declared.memory.entries.Entry.{Entry}
use Rattle.outside_core.proofs.Entries.{get-place, get-no_place, is_some-place}
use Rattle.outside_core.proofs.View.{read_count-missing, read_count-held, reads-missing, reads-failed}
use Rattle.outside_core.proofs.memory.depot.MemoryDepotDepot.read_at.Goals as goal

-- the name isn't held
none : (c : goal.In_default) → get c.args.self.now.files c.args.name.now ≡ None
none c =
    sym (ap (λ (v : DepotView). get v.files c.args.name.now) c.self.view_is)
    ∙ get-no_place c.self.inside.entries.items c.args.name.now (ap (λ es. place_of es c.args.name.now) (sym c.deref.ensures.value) ∙ sym c.in_default.ensures)

pub returns-in_default-clause-cause : goal.returns-in_default-clause-cause
returns-in_default-clause-cause c = inr (c.args.self.now.files, refl, none c)

pub returns-in_default-clause-answer : goal.returns-in_default-clause-answer
returns-in_default-clause-answer c = read_count-missing c.args.self.now c.args.name.now c.args.at _ (none c)

pub returns-in_default-clause-leaves : goal.returns-in_default-clause-leaves
returns-in_default-clause-leaves c =
    let with_reads : CallsView → DepotView = λ reads. record { files = c.args.self.now.files; reads = reads; writes = c.args.self.now.writes } in
    let made = c.next_fails-fails.ensures.made ∙ ap (λ (v : DepotView). one_made v.reads) c.self.view_is in
    ap (λ (v : DepotView). record v { reads = c.next_fails-fails.new.self }) c.self.view_is
    ∙ ap with_reads (reads-missing c.args.self.now c.args.name.now _ (none c) made)

-- the name is held
is_held : (c : goal.After-fault) → is_some (get c.args.self.now.files c.args.name.now) ≡ true
is_held c =
    sym (ap (λ (v : DepotView). is_some (get v.files c.args.name.now)) c.self.view_is)
    ∙ is_some-place c.self.inside.entries.items c.args.name.now c.in-Some.i (ap (λ es. place_of es c.args.name.now) (sym c.deref.ensures.value) ∙ sym c.in-Some.ensures)

pub returns-then-fails-clause-missing : goal.returns-then-fails-clause-missing
returns-then-fails-clause-missing c = λ (files, same, none).
    let e : c.args.self.now.files ≡ files = cc in
    let gone : is_some (get c.args.self.now.files c.args.name.now) ≡ false = ap (λ f. is_some (get f c.args.name.now)) e ∙ ap is_some none in
    let there = is_held c in
    cc

pub returns-then-fails-clause-leaves : goal.returns-then-fails-clause-leaves
returns-then-fails-clause-leaves c =
    let with_reads : CallsView → DepotView = λ reads. record { files = c.args.self.now.files; reads = reads; writes = c.args.self.now.writes } in
    let fails = sym (c.if-fails.ensures.fails ∙ ap (λ (v : DepotView). is_failing v.reads) c.self.view_is) in
    let counted = c.fault.ensures.counted ∙ ap one_failed (c.if-fails.ensures.made ∙ ap (λ (v : DepotView). one_made v.reads) c.self.view_is) in
    ap (λ (v : DepotView). record v { reads = c.fault.new.self }) c.self.view_is
    ∙ ap with_reads (reads-failed c.args.self.now c.args.name.now _ (is_held c) fails counted)

-- what the name holds
held : (c : goal.After-slice_known-2-1) → get c.args.self.now.files c.args.name.now ≡ Some c.deref-2.result.now
held c =
    sym (ap (λ (v : DepotView). get v.files c.args.name.now) c.self.view_is)
    ∙ get-place c.self.inside.entries.items c.args.name.now c.in-Some.i c.index.result.now
    (ap (λ es. place_of es c.args.name.now) (sym c.deref.ensures.value) ∙ sym c.in-Some.ensures)
    ∙ ap (λ (e : Entry). Some e.bytes.items) (sym c.index.ensures)
    ∙ ap Some (sym c.deref-2.ensures.value)

pub returns-clause-bytes : goal.returns-clause-bytes
returns-clause-bytes c = λ files e.
    let same : c.args.self.now.files ≡ files = cc in
    (c.deref-2.result.now, ap (λ f. get f c.args.name.now) (sym same) ∙ held c, c.copy_from.ensures.piece)

pub returns-clause-answer : goal.returns-clause-answer
returns-clause-answer c =
    let goes = sym (c.if-fails.ensures.fails ∙ ap (λ (v : DepotView). is_failing v.reads) c.self.view_is) in
    read_count-held c.args.self.now c.args.name.now c.deref-2.result.now c.args.at _ c.copy_from.result (held c) goes c.copy_from.ensures.count
