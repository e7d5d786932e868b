use Rattle.std.proofs.Common.{List, ℕ, ◌∙◌, ap, subst}
use Rattle.std.proofs.lemmas.Result.{err_from_is_err_and}
use Rattle.outside_core.specs.Files.{extending, Torn}
use Rattle.outside_core.proofs.Appending.{KeepsOthers-then}
use Rattle.sample_core.proofs.Moving.{front-torn, middle-torn, end-torn, rest-torn, whole-written, on-ok, on-err}
use Rattle.sample_core.proofs.sample.append_sample.Goals as goal

pub returns-in_err-append_all-clause-err : goal.returns-in_err-append_all-clause-err
returns-in_err-append_all-clause-err g c =
    let p = err_from_is_err_and c.from_residual.result c.from_residual.ensures.1 in
    rw p.1 (front-torn (g.D.Depot.files c.args.depot.now) (g.D.Depot.files c.append_all.new.depot) c.args.name.now c.args.prepared.now.front.items
    c.args.prepared.now.buffer c.args.keys.now c.args.count c.requires.head
    (subst (λ (l : List ℕ). Torn (g.D.Depot.files c.args.depot.now) (g.D.Depot.files c.append_all.new.depot) c.args.name.now l) c.as_slice.ensures.value c.in_err-append_all.ensures.err))

pub returns-in_err-put_entries-clause-err : goal.returns-in_err-put_entries-clause-err
returns-in_err-put_entries-clause-err g c =
    let p = err_from_is_err_and c.from_residual-in_err-put_entries.result c.from_residual-in_err-put_entries.ensures.1 in
    rw p.1 (middle-torn (g.D.Depot.files c.args.depot.now) (g.D.Depot.files c.append_all.new.depot) (g.D.Depot.files c.put_entries.new.depot) c.args.name.now
    c.args.prepared.now.front.items c.args.prepared.now.buffer c.args.keys.now c.args.count c.requires.head
    (c.in_ok-append_all.ensures.ok ∙ ap (λ (l : List ℕ). extending (g.D.Depot.files c.args.depot.now) c.args.name.now l) c.as_slice.ensures.value)
    c.in_err-put_entries.ensures.err)

pub returns-in_err-put_entries-clause-others : goal.returns-in_err-put_entries-clause-others
returns-in_err-put_entries-clause-others g c =
    KeepsOthers-then (g.D.Depot.files c.args.depot.now) (g.D.Depot.files c.append_all.new.depot) (g.D.Depot.files c.put_entries.new.depot) c.args.name.now
    c.in_ok-append_all.ensures.others c.in_err-put_entries.ensures.others

pub returns-in_err-put-clause-err : goal.returns-in_err-put-clause-err
returns-in_err-put-clause-err g c =
    let p = err_from_is_err_and c.from_residual-in_err-put.result c.from_residual-in_err-put.ensures.1 in
    rw p.1 (end-torn (g.D.Depot.files c.args.depot.now) (g.D.Depot.files c.append_all.new.depot) (g.D.Depot.files c.put_entries.new.depot)
    (g.D.Depot.files c.put.new.depot) c.args.name.now c.args.prepared.now.front.items c.args.prepared.now.buffer c.put_entries.new.buffer c.args.keys.now
    c.args.count c.requires.head
    (c.in_ok-append_all.ensures.ok ∙ ap (λ (l : List ℕ). extending (g.D.Depot.files c.args.depot.now) c.args.name.now l) c.as_slice.ensures.value)
    c.in_ok-put_entries.ensures.ok c.in_err-put.ensures.err)

pub returns-in_err-put-clause-others : goal.returns-in_err-put-clause-others
returns-in_err-put-clause-others g c =
    KeepsOthers-then (g.D.Depot.files c.args.depot.now) (g.D.Depot.files c.put_entries.new.depot) (g.D.Depot.files c.put.new.depot) c.args.name.now
    (KeepsOthers-then (g.D.Depot.files c.args.depot.now) (g.D.Depot.files c.append_all.new.depot) (g.D.Depot.files c.put_entries.new.depot) c.args.name.now
    c.in_ok-append_all.ensures.others c.in_ok-put_entries.ensures.others)
    c.in_err-put.ensures.others

pub returns-clause-ok : goal.returns-clause-ok
returns-clause-ok g c =
    on-ok c.write_rest.result _ _
    (whole-written (g.D.Depot.files c.args.depot.now) (g.D.Depot.files c.append_all.new.depot) (g.D.Depot.files c.put_entries.new.depot)
    (g.D.Depot.files c.put.new.depot) (g.D.Depot.files c.write_rest.new.depot) c.args.name.now c.args.prepared.now.front.items c.args.prepared.now.buffer
    c.put_entries.new.buffer c.put.new.self c.args.keys.now c.args.count c.requires.head
    (c.in_ok-append_all.ensures.ok ∙ ap (λ (l : List ℕ). extending (g.D.Depot.files c.args.depot.now) c.args.name.now l) c.as_slice.ensures.value)
    c.in_ok-put_entries.ensures.ok c.in_ok-put.ensures.ok)
    c.write_rest.ensures.ok

pub returns-clause-err : goal.returns-clause-err
returns-clause-err g c =
    on-err c.write_rest.result _ _
    (rest-torn (g.D.Depot.files c.args.depot.now) (g.D.Depot.files c.append_all.new.depot) (g.D.Depot.files c.put_entries.new.depot)
    (g.D.Depot.files c.put.new.depot) (g.D.Depot.files c.write_rest.new.depot) c.args.name.now c.args.prepared.now.front.items c.args.prepared.now.buffer
    c.put_entries.new.buffer c.put.new.self c.args.keys.now c.args.count c.requires.head
    (c.in_ok-append_all.ensures.ok ∙ ap (λ (l : List ℕ). extending (g.D.Depot.files c.args.depot.now) c.args.name.now l) c.as_slice.ensures.value)
    c.in_ok-put_entries.ensures.ok c.in_ok-put.ensures.ok)
    c.write_rest.ensures.err

pub returns-clause-others : goal.returns-clause-others
returns-clause-others g c =
    KeepsOthers-then (g.D.Depot.files c.args.depot.now) (g.D.Depot.files c.put.new.depot) (g.D.Depot.files c.write_rest.new.depot) c.args.name.now
    (KeepsOthers-then (g.D.Depot.files c.args.depot.now) (g.D.Depot.files c.put_entries.new.depot) (g.D.Depot.files c.put.new.depot) c.args.name.now
    (KeepsOthers-then (g.D.Depot.files c.args.depot.now) (g.D.Depot.files c.append_all.new.depot) (g.D.Depot.files c.put_entries.new.depot) c.args.name.now
    c.in_ok-append_all.ensures.others c.in_ok-put_entries.ensures.others)
    c.in_ok-put.ensures.others)
    c.write_rest.ensures.others
