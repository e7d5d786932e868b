use Rattle.std.proofs.Common.{ap, sym, ◌∙◌, ◌++◌, List, ℕ, rules}
use Rattle.std.specs.FinMap.{insert}
use Rattle.std.proofs.lemmas.Result.{err_from_is_err_and}
use Rattle.outside_core.specs.Entries.{place_of, files_of}
use Rattle.outside_core.proofs.Entries.{files_of-set_bytes, files_of-same_bytes, held-place, held-no_place}
use Rattle.outside_core.proofs.memory.entries.add.Goals as goal

pub returns-in_err-extend_from_slice-in-Some-clause-err : goal.returns-in_err-extend_from_slice-in-Some-clause-err
returns-in_err-extend_from_slice-in-Some-clause-err c =
    let p = err_from_is_err_and c.from_residual.result c.from_residual.ensures.1 in
    rw p.1 (files_of-same_bytes c.args.entries.now.items c.args.name.now c.in-Some.i c.index_mut-entry.result.now c.extend_from_slice.new.self c.index_mut-entry.ensures.value
    (ap (λ es. place_of es c.args.name.now) (sym c.deref.ensures.value) ∙ sym c.in-Some.ensures)
    c.in_err-extend_from_slice-in-Some.ensures.items)

pub returns-in_ok-extend_from_slice-in-Some-clause-ok : goal.returns-in_ok-extend_from_slice-in-Some-clause-ok
returns-in_ok-extend_from_slice-in-Some-clause-ok c =
    let is = ap (λ es. place_of es c.args.name.now) (sym c.deref.ensures.value) ∙ sym c.in-Some.ensures in
    files_of-set_bytes c.args.entries.now.items c.args.name.now c.in-Some.i c.index_mut-entry.result.now c.extend_from_slice.new.self c.index_mut-entry.ensures.value is
    ∙ ap (insert (files_of c.args.entries.now.items) c.args.name.now)
    (c.in_ok-extend_from_slice-in-Some.ensures.items
    ∙ ap (λ (h : List ℕ). h ++ c.args.bytes.now) (sym (held-place c.args.entries.now.items c.args.name.now c.in-Some.i c.index_mut-entry.result.now c.index_mut-entry.ensures.value is)))

pub returns-in_ok-put-in-None-clause-ok : goal.returns-in_ok-put-in-None-clause-ok
returns-in_ok-put-in-None-clause-ok c =
    let is = ap (λ es. place_of es c.args.name.now) (sym c.deref.ensures.value) ∙ sym c.in-None.ensures in
    c.in_ok-put-in-None.ensures.ok
    ∙ ap (insert (files_of c.args.entries.now.items) c.args.name.now)
    (search rules
    ∙ ap (λ (h : List ℕ). h ++ c.args.bytes.now) (sym (held-no_place c.args.entries.now.items c.args.name.now is)))
