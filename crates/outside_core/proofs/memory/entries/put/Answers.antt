use Rattle.std.proofs.Common.{◌≡◌, List, ℕ, Option, None, IsSome, is_some, false, ap, sym, ◌∙◌}
use Rattle.std.specs.FinMap.{get}
use Rattle.outside_core.specs.Entries.{place_of, files_of}
use Rattle.outside_core.specs.declared.memory.entries.Entry.{Entry}
use Rattle.outside_core.proofs.Entries.{files_of-set_bytes, files_of-push, get-no_place}
use Rattle.outside_core.proofs.memory.entries.put.Goals as goal

pub returns-in-Some-clause-ok : goal.returns-in-Some-clause-ok
returns-in-Some-clause-ok c =
    files_of-set_bytes c.args.entries.now.items c.args.name.now c.in-Some.i c.index_mut-entry.result.now c.args.bytes c.index_mut-entry.ensures.value
    (ap (λ es. place_of es c.args.name.now) (sym c.deref.ensures.value) ∙ sym c.in-Some.ensures)

pub returns-in_ok-push-in-None-clause-ok : goal.returns-in_ok-push-in-None-clause-ok
returns-in_ok-push-in-None-clause-ok c =
    rw c.in_ok-push-in-None.ensures.items
    (files_of-push c.args.entries.now.items c.args.name.now _ c.in_ok-name-in-None.ensures.ok
    (ap (λ es. place_of es c.args.name.now) (sym c.deref.ensures.value) ∙ sym c.in-None.ensures))

-- a name for which there is no entry isn't held
not_held : (es : List Entry) (name : List ℕ) → place_of es name ≡ None → IsSome (get (files_of es) name) → ⊥
not_held es name none held =
    let gone : is_some (get (files_of es) name) ≡ false = ap (λ (o : Option (List ℕ)). is_some o) (get-no_place es name none) in
    cc

pub returns-in_err-name-in-None-clause-held : goal.returns-in_err-name-in-None-clause-held
returns-in_err-name-in-None-clause-held c = λ held.
    absurd (not_held c.args.entries.now.items c.args.name.now (ap (λ es. place_of es c.args.name.now) (sym c.deref.ensures.value) ∙ sym c.in-None.ensures) held)

pub returns-in_err-push-in-None-clause-held : goal.returns-in_err-push-in-None-clause-held
returns-in_err-push-in-None-clause-held c = λ held.
    absurd (not_held c.args.entries.now.items c.args.name.now (ap (λ es. place_of es c.args.name.now) (sym c.deref.ensures.value) ∙ sym c.in-None.ensures) held)
