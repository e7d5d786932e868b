use Rattle.std.proofs.Common.{◌∙◌, ap, sym, subst, map, length, None, arith}
use Rattle.job_core.specs.JobFields.{fields_of_job}
use Rattle.ledger_core.specs.LedgerFields.{AreParts, part_fields}
use Rattle.universe_core.specs.Judging.{IsSearchable}
use Rattle.universe_core.proofs.Searchable.{parts_searchable}
use Rattle.audit_core.proofs.Knowing.{on_ok, if_ok, if_err, mapped_at, known_length, Known, known, known_agree, known_count, known_few, known_first}
use Rattle.audit_core.proofs.Causes.{entries_to}
use Rattle.audit_core.proofs.auditing.check_job.Goals as goal

pub bounds-parts-place : goal.bounds-parts-place
bounds-parts-place c =
    let e = known_length c.parts.result.now c.args.jobs.now c.args.ledger.now c.parts.ensures.value c.requires.ledger in
    omega (arith, e, c.requires.place)

pub check_entries-requires-clause-part : goal.check_entries-requires-clause-part
check_entries-requires-clause-part c =
    let e = known_length c.parts.result.now c.args.jobs.now c.args.ledger.now c.parts.ensures.value c.requires.ledger in
    let all = parts_searchable None c.parts.result.now (subst AreParts (sym c.parts.ensures.value) c.parts.ensures.facts.parts) in
    subst IsSearchable (sym c.index-parts-place.is) (all c.args.place c.index-parts-place.result (omega (arith, e, c.requires.place)))

pub check_entries-requires-clause-few : goal.check_entries-requires-clause-few
check_entries-requires-clause-few c =
    let same = ap length (c.deref.ensures.value ∙ ap (λ k. k.entries.items) (sym c.index-jobs-place.is)) in
    let to = entries_to (map fields_of_job c.args.jobs.now) c.args.place (fields_of_job c.index-jobs-place.result)
    (mapped_at fields_of_job c.args.jobs.now c.args.place c.index-jobs-place.result c.requires.place c.index-jobs-place.is) in
    omega (arith, same, to, c.requires.entries)

known_at : (c : goal.After-check_entries) → Known (map fields_of_job c.args.jobs.now) c.args.place c.args.ledger.now (fields_of_job c.index-jobs-place.result)
    (part_fields c.index-parts-place.result) c.deref.result.now
known_at c =
    known c.args.jobs.now c.args.place c.args.ledger.now c.parts.result.now c.index-jobs-place.result c.index-parts-place.result c.deref.result.now c.requires.place
    c.requires.admitted c.requires.ledger c.parts.ensures.value c.index-jobs-place.is c.index-parts-place.is c.deref.ensures.value

pub returns-clause-agree : goal.returns-clause-agree
returns-clause-agree c = on_ok c.check_entries.result _ _ c.check_entries.ensures.fine (known_agree _ _ _ _ _ _ (known_at c) (map (λ s. s.part) c.args.store.now))

pub returns-clause-count : goal.returns-clause-count
returns-clause-count c = if_ok c.check_entries.result _ _ c.check_entries.ensures.count (known_count _ _ _ _ _ _ (known_at c))

pub returns-clause-few : goal.returns-clause-few
returns-clause-few c = if_ok c.check_entries.result _ _ c.check_entries.ensures.count (known_few _ _ _ _ _ _ (known_at c))

pub returns-clause-disagree : goal.returns-clause-disagree
returns-clause-disagree c = if_err c.check_entries.result _ _ c.check_entries.ensures.first (known_first _ _ _ _ _ _ (known_at c) (map (λ s. s.part) c.args.store.now))
