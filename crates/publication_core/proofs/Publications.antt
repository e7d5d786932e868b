-- What is published behind the ledger of a history is that of the history.
use Rattle.std.proofs.Common.{◌≡◌, List, [], map, length, None, Ok, refl, sym, ap, ◌∙◌, subst, arith}
use Rattle.sha2.specs.Sha256.{sha256}
use Rattle.equation_core.specs.Rows.{sha256_row}
use Rattle.card_core.specs.PartFields.{PartFields}
use Rattle.part_text.specs.SealedFields.{SealedFields}
use Rattle.part_text.specs.PartText.{unsealed_text}
use Rattle.job_core.specs.declared.bounds.TheConstants.Limits.{PUBLISHED}
use Rattle.job_core.specs.JobFields.{JobFields}
use Rattle.job_core.specs.Fitting.{FitsPublishing, IsWithinLimits}
use Rattle.universe_core.specs.Jobs.{facts_of}
use Rattle.universe_core.specs.Formats.{in_format}
use Rattle.universe_core.specs.History.{Release, past_of}
use Rattle.universe_core.specs.Groups.{GroupFields}
use Rattle.universe_core.specs.Ledgers.{next_ledger, part_from, ledger_of}
use Rattle.universe_core.specs.Counting.{counts}
use Rattle.universe_core.specs.Step.{refusal, head_after, groups_after, counts_after}
use Rattle.history_core.specs.Facts.{IsSound}
use Rattle.history_core.proofs.Ledger.{next_is, groups_are, counts_are}
use Rattle.ledger_core.specs.LedgerFields.{LedgerFields}
use Rattle.builder_core.specs.Building.{AreGroupBlocks}
use Rattle.publication_core.specs.Formats.{current, blocks_in}
use Rattle.publication_core.specs.Histories.{IsPartOf, IsAdmissible, History, members, with_job, IsHistory, releases_of}
use Rattle.publication_core.specs.Building.{HaveBlocks, IsSealedPart}
use Rattle.publication_core.specs.Publishing.{PublicationFields, Publishes}
use Rattle.publication_core.proofs.Histories.{with_job_leaves, with_job_is, members_many, history_sound}
use Rattle.publication_core.proofs.Admitting.{admitted, not_refused, parts_many}

heads_same : (rs : List Release) (job : JobFields) → head_after (ledger_of rs).parts (facts_of job) ≡ head_after (map part_from rs) (facts_of job)
unfolding ledger_of
heads_same rs job = refl

-- the part that is published is that of the history
part_of_history : (rs : List Release) (job : JobFields) (s : SealedFields) → IsSound rs
    → IsSealedPart current (head_after (ledger_of rs).parts (facts_of job)) (groups_after (ledger_of rs) (facts_of job)) s → IsPartOf rs (in_format current job) s
part_of_history rs job s sound is = record {
  head_is = is.head_is ∙ heads_same rs job;
  blocks = subst (λ (gs : List GroupFields). AreGroupBlocks (blocks_in current) sha256_row gs s.part.blocks) (groups_are rs sound (facts_of job) []) is.blocks;
  trailer = is.trailer;
}

-- A job that is admitted behind a ledger, with a block for each group, is published.
pub admitted_published : (ledger : LedgerFields) (job : JobFields) → refusal PUBLISHED ledger job ≡ None → HaveBlocks current (groups_after ledger (facts_of job))
    → (p : PublicationFields) × Publishes ledger job (Ok p)
admitted_published ledger job none (blocks, are) =
    let made : PartFields = record { head = head_after ledger.parts (facts_of job); blocks = blocks } in
    let sealed : SealedFields = record { part = made; trailer = sha256 (unsealed_text made) } in (
      record {
        place = length ledger.parts;
        sealed = sealed;
        ledger = next_ledger ledger (facts_of job) sealed.trailer;
        counts = counts_after ledger (facts_of job);
      },
      (none, record { head_is = refl; blocks = are; trailer = refl }, refl, refl, refl),
    )

-- a job that is published is admissible
admissible_then : (rs : List Release) (job : JobFields) (p : PublicationFields) → IsSound rs → FitsPublishing job → IsWithinLimits PUBLISHED job
    → Publishes (ledger_of rs) job (Ok p) → IsAdmissible rs (in_format current job)
admissible_then rs job p sound fits limits x =
    let a = admitted rs job sound x.0 in
    record {
      fits = fits;
      limits = limits;
      crls = a.crls;
      goes_on = a.goes_on;
      few_parts = a.few_parts;
      few_identities = a.few_identities;
      blocks = (p.sealed.part.blocks, (part_of_history rs job p.sealed sound x.1).blocks);
    }

module _ (h : History) (job : JobFields) (is : IsHistory h) where
  pub published_admissible : (p : PublicationFields) → FitsPublishing job → IsWithinLimits PUBLISHED job → Publishes (ledger_of (releases_of h)) job (Ok p)
      → IsAdmissible (releases_of h) (in_format current job)
  published_admissible p fits limits x = admissible_then (releases_of h) job p (history_sound h is) fits limits x

  pub published_history : (p : PublicationFields) → FitsPublishing job → IsWithinLimits PUBLISHED job → Publishes (ledger_of (releases_of h)) job (Ok p)
      → IsHistory (with_job h (in_format current job) p.sealed)
  published_history p fits limits x =
      with_job_is h (record { job = in_format current job; sealed = p.sealed }) is (published_admissible p fits limits x) (part_of_history (releases_of h) job p.sealed (history_sound h is) x.1)

  pub published_ledger : (p : PublicationFields) → Publishes (ledger_of (releases_of h)) job (Ok p) → p.ledger ≡ ledger_of (releases_of (with_job h (in_format current job) p.sealed))
  published_ledger p x =
      x.3 ∙ next_is (releases_of h) (history_sound h is) (facts_of job) p.sealed.trailer ∙ ap ledger_of (sym (with_job_leaves h (record { job = in_format current job; sealed = p.sealed })))

  pub published_counts : (p : PublicationFields) → Publishes (ledger_of (releases_of h)) job (Ok p) → p.counts ≡ counts (past_of (releases_of h)) (facts_of job)
  published_counts p x = x.4 ∙ counts_are (releases_of h) (history_sound h is) (facts_of job)

  pub published_place : (p : PublicationFields) → Publishes (ledger_of (releases_of h)) job (Ok p) → p.place ≡ members h
  published_place p x =
      let many = parts_many (releases_of h) job (history_sound h is) in
      omega (arith, x.2, many, members_many h)

  -- An admissible job is published.
  pub admissible_published : IsAdmissible (releases_of h) (in_format current job) → (p : PublicationFields) × Publishes (ledger_of (releases_of h)) job (Ok p)
  admissible_published a =
      let rs : List Release = releases_of h in
      let sound : IsSound rs = history_sound h is in
      admitted_published (ledger_of rs) job
      (not_refused rs job sound (record { crls = a.crls; goes_on = a.goes_on; few_parts = a.few_parts; few_identities = a.few_identities }))
      (subst (HaveBlocks current) (sym (groups_are rs sound (facts_of job) [])) a.blocks)
