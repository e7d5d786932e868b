use Rattle.std.proofs.Common.{◌≡◌, ◌≤◌, ◌∙◌, ◌++◌, ◌∷◌, [], ℕ, List, None, ap, sym, subst, map, length, arith}
use Rattle.std.specs.List.Sorted.{IsStrictlySortedBy}
use Rattle.std.proofs.lemmas.List.{length-map}
use Rattle.std.proofs.lemmas.Result.{err_from_is_err_and}
use Rattle.ident_core.specs.Order.{octets_cmp}
use Rattle.ident_core.specs.declared.range.Range.{Range}
use Rattle.job_core.specs.declared.bounds.What.TheVariants as what
use Rattle.job_core.specs.JobFields.{fields_of_job}
use Rattle.job_core.specs.declared.meaning.Job.{Job}
use Rattle.ledger_core.specs.LedgerFields.{IsLedger, ledger_fields, newest, part_fields, sealed_with}
use Rattle.universe_core.specs.Jobs.{facts_of_job, enrolled}
use Rattle.universe_core.specs.Following.{early}
use Rattle.universe_core.specs.Groups.{group_fields}
use Rattle.universe_core.specs.HeldJobs.{job_held}
use Rattle.universe_core.specs.Members.{first_part, members_in}
use Rattle.universe_core.specs.Step.{kind_by, parent_by}
use Rattle.universe_core.specs.declared.fault.AdmitFault.TheVariants as faults
use Rattle.universe_core.proofs.Beginning.{job_issuers_few}
use Rattle.universe_core.proofs.Continuing.{refused_as, refusal_early, refusal_many, refusal_none, members_many, settled_many, ids_ascend, groups_facts, is_next, next_is, counts_are, crls_few}
use Rattle.universe_core.proofs.Holding.{frame_left, are_of}
use Rattle.universe_core.proofs.Issuers.{enrolled_ascend}
use Rattle.universe_core.proofs.Searchable.{parts_searchable}
use Rattle.universe_core.proofs.admission.step.Goals as goal

pub returns-in_err-check_early : goal.returns-in_err-check_early
returns-in_err-check_early g c =
    let q = err_from_is_err_and c.from_residual.result c.from_residual.ensures.1 in
    rw (q.1, q.2) (refused_as c.args.limits.now (ledger_fields c.args.parts.now c.args.items.now) (job_held c.args.job) c.in_err-check_early.field-0.0
    (refusal_early c.args.limits.now (ledger_fields c.args.parts.now c.args.items.now) (fields_of_job (job_held c.args.job)) c.in_err-check_early.field-0.0
    (ap (λ (j : Job). early (map part_fields c.args.parts.now) (fields_of_job j)) (sym c.job.ensures) ∙ c.in_err-check_early.ensures.refused)))

pub accept-requires-clause-parts : goal.accept-requires-clause-parts
accept-requires-clause-parts g c = parts_searchable None c.args.parts.now c.requires.before.parts

pub accept-requires-clause-few_crls : goal.accept-requires-clause-few_crls
accept-requires-clause-few_crls g c = crls_few c.args.limits.now (job_held c.args.job) c.requires.few.crls c.requires.published.crls

pub accept-requires-clause-ascend : goal.accept-requires-clause-ascend
accept-requires-clause-ascend g c = c.requires.before.items_ascend

pub returns-in_err-check_identities : goal.returns-in_err-check_identities
returns-in_err-check_identities g c =
    let q = err_from_is_err_and c.from_residual-in_err-check_identities.result c.from_residual-in_err-check_identities.ensures.1 in
    let ledger = ledger_fields c.args.parts.now c.args.items.now in
    let job = job_held c.args.job in
    let many = members_many ledger (facts_of_job job) c.in_ok-accepted.accepted.members.items.items c.in_ok-accepted.accepted.members.settled.items c.in_ok-accepted.ensures.members in
    let len = c.len.ensures in
    let above = c.in_err-check_identities.ensures.many in
    rw (q.1, q.2, above.0) (refused_as c.args.limits.now ledger job (faults.TooMany what.Identities c.args.limits.now.identities)
    (refusal_many c.args.limits.now ledger (fields_of_job job)
    (ap (λ (j : Job). early (map part_fields c.args.parts.now) (fields_of_job j)) (sym c.job.ensures) ∙ c.in_ok-check_early.ensures.follows) (omega (arith, above.1))))

pub build-requires-clause-issuers : goal.build-requires-clause-issuers
build-requires-clause-issuers g c =
    subst (λ ks. IsStrictlySortedBy octets_cmp ks) (sym (c.deref-2.ensures.value ∙ c.in_ok-accepted.ensures.issuers)) (enrolled_ascend (facts_of_job (job_held c.args.job)))

pub build-requires-clause-ascend : goal.build-requires-clause-ascend
build-requires-clause-ascend g c =
    ids_ascend (ledger_fields c.args.parts.now c.args.items.now) (facts_of_job (job_held c.args.job)) c.requires.before
    c.in_ok-accepted.accepted.members.items.items c.in_ok-accepted.accepted.members.settled.items c.in_ok-accepted.ensures.members

pub build-requires-clause-beside : goal.build-requires-clause-beside
build-requires-clause-beside g c =
    settled_many (members_in (ledger_fields c.args.parts.now c.args.items.now) (facts_of_job (job_held c.args.job)))
    c.in_ok-accepted.accepted.members.items.items c.in_ok-accepted.accepted.members.settled.items c.in_ok-accepted.ensures.members

pub overflow_cast-counts : goal.overflow_cast-counts
overflow_cast-counts g c =
    let crls = crls_few c.args.limits.now (job_held c.args.job) c.requires.few.crls c.requires.published.crls in
    let few = job_issuers_few (job_held c.args.job) crls in
    let k = ap length c.in_ok-accepted.ensures.issuers in
    let n = c.len-2.ensures in
    omega arith

pub next_draft-requires : goal.next_draft-requires
next_draft-requires g c =
    let many = members_many (ledger_fields c.args.parts.now c.args.items.now) (facts_of_job (job_held c.args.job)) c.in_ok-accepted.accepted.members.items.items c.in_ok-accepted.accepted.members.settled.items c.in_ok-accepted.ensures.members in
    let len = c.len.ensures in
    let below = c.in_ok-check_identities.ensures.few in
    let most : c.args.limits.now.identities ≤ 4194304 = c.requires.published.identities in
    let crls = crls_few c.args.limits.now (job_held c.args.job) c.requires.few.crls c.requires.published.crls in
    let of = are_of (job_held c.args.job) (job_held c.in_ok-accepted.accepted.rest) c.job-rest.result.now c.job-rest.ensures
    (ledger_fields c.args.parts.now c.args.items.now) c.deref.result.now c.deref-2.result.now c.in_ok-accepted.accepted.issuers.items
    c.in_ok-accepted.accepted.members.items.items c.in_ok-accepted.accepted.members.settled.items
    c.in_ok-accepted.ensures.crls c.deref.ensures.value c.deref-2.ensures.value c.in_ok-accepted.ensures.issuers c.in_ok-accepted.ensures.members in
    let frame = frame_left (job_held c.args.job) (job_held c.in_ok-accepted.accepted.rest) c.job-rest.result.now c.job-rest.ensures
    c.in_ok-accepted.ensures.epoch c.in_ok-accepted.ensures.ranges in
    subst (λ (x : ℕ × List Range). IsLedger (record {
      parts = map part_fields c.args.parts.now ++ first_part x.0 x.1 c.in_ok-accepted.accepted.issuers.items ∷ [];
      items = c.in_ok-built.built.items.items;
    })) (sym frame)
    (is_next (ledger_fields c.args.parts.now c.args.items.now) (fields_of_job (job_held c.args.job)) c.in_ok-accepted.accepted.issuers.items
    c.in_ok-built.built.items.items c.requires.before
    (ap (λ (j : Job). early (map part_fields c.args.parts.now) (fields_of_job j)) (sym c.job.ensures) ∙ c.in_ok-check_early.ensures.follows)
    c.requires.ranges
    c.in_ok-accepted.ensures.issuers
    (c.in_ok-built.ensures.items (ledger_fields c.args.parts.now c.args.items.now) (facts_of_job (job_held c.args.job)) of (sym (length-map c.args.parts.now part_fields)))
    (job_issuers_few (job_held c.args.job) crls) (omega arith))

pub returns : goal.returns
returns g c =
    let ledger = ledger_fields c.args.parts.now c.args.items.now in
    let job = job_held c.args.job in
    let accepted = c.in_ok-accepted.accepted in
    let built = c.in_ok-built in
    let many = members_many ledger (facts_of_job job) accepted.members.items.items accepted.members.settled.items c.in_ok-accepted.ensures.members in
    let len = c.len.ensures in
    let below = c.in_ok-check_identities.ensures.few in
    let k = ap length c.in_ok-accepted.ensures.issuers in
    let n = c.len-2.ensures in
    let issuers : c.len-2.result ≡ length (enrolled (facts_of_job job)) = omega arith in
    let of = are_of job (job_held accepted.rest) c.job-rest.result.now c.job-rest.ensures
    ledger c.deref.result.now c.deref-2.result.now accepted.issuers.items accepted.members.items.items accepted.members.settled.items
    c.in_ok-accepted.ensures.crls c.deref.ensures.value c.deref-2.ensures.value c.in_ok-accepted.ensures.issuers c.in_ok-accepted.ensures.members in
    let frame = frame_left job (job_held accepted.rest) c.job-rest.result.now c.job-rest.ensures c.in_ok-accepted.ensures.epoch c.in_ok-accepted.ensures.ranges in
    let groups = built.ensures.groups ledger (facts_of_job job) of in
    record {
      admitted = refusal_none c.args.limits.now ledger (fields_of_job job)
          (ap (λ (j : Job). early (map part_fields c.args.parts.now) (fields_of_job j)) (sym c.job.ensures) ∙ c.in_ok-check_early.ensures.follows) (omega arith);
      refused = tt;
      head = c.in_ok-head.ensures
          ∙ ap (λ (x : ℕ × List Range). record { kind = kind_by (map part_fields c.args.parts.now); epoch = x.0; parent = parent_by (newest (map part_fields c.args.parts.now)); ranges = x.1 }) frame;
      groups = groups;
      facts = groups_facts ledger (facts_of_job job) c.requires.before (map group_fields built.built.groups.items) groups;
      counts = counts_are ledger (facts_of_job job) _ issuers (built.ensures.universe ledger (facts_of_job job) of) (built.ensures.revoked ledger (facts_of_job job) of)
          c.in_ok-accepted.ensures.unread c.in_ok-accepted.ensures.uncovered c.in_ok-accepted.ensures.unenrolled c.in_ok-accepted.ensures.late c.in_ok-accepted.ensures.accepted;
      next = λ trailer. ap (λ d. sealed_with d trailer) c.in_ok-next.ensures
          ∙ ap (λ (x : ℕ × List Range). sealed_with (record {
            parts = map part_fields c.args.parts.now ++ first_part x.0 x.1 accepted.issuers.items ∷ [];
            items = built.built.items.items;
          }) trailer) frame
          ∙ next_is ledger (facts_of_job job) accepted.issuers.items built.built.items.items trailer c.in_ok-accepted.ensures.issuers
          (built.ensures.items ledger (facts_of_job job) of (sym (length-map c.args.parts.now part_fields)));
    }
