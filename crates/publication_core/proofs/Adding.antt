-- What a job that is published adds to a rehearsal, from what the layers promise of histories.
use Rattle.std.proofs.Common.{◌≡◌, ℕ, ◌<◌, ◌≤◌, List, [], ◌∷◌, ◌++◌, length, Option, Some, None, Ok, refl, sym, ap, ◌∙◌, subst, arith}
use Rattle.std.proofs.lemmas.List.{length_push}
use Rattle.ident_core.specs.HeadFields.{HeadFields}
use Rattle.part_text.specs.SealedFields.{SealedFields}
use Rattle.job_core.specs.declared.bounds.TheConstants.Limits.{PUBLISHED}
use Rattle.job_core.specs.JobFields.{JobFields}
use Rattle.job_core.specs.Fitting.{FitsPublishing, IsWithinLimits}
use Rattle.ledger_core.specs.LedgerFields.{LedgerFields}
use Rattle.universe_core.specs.declared.counts.Counts.{Counts}
use Rattle.universe_core.specs.Jobs.{facts_of}
use Rattle.universe_core.specs.Formats.{in_format}
use Rattle.universe_core.specs.History.{past_of}
use Rattle.universe_core.specs.Counting.{counts}
use Rattle.universe_core.specs.Ledgers.{no_ledger, ledger_of}
use Rattle.store_core.specs.declared.chain.Refusal.{Refusal}
use Rattle.store_core.specs.Chain.{refusal_of, IsChain}
use Rattle.publication_core.specs.Formats.{current}
use Rattle.publication_core.specs.Histories.{History, of_jobs, members, with_job, IsHistory, parts_of, releases_of}
use Rattle.publication_core.specs.Publishing.{PublicationFields, Publishes}
use Rattle.publication_core.specs.Rehearsing.{RehearsalFields, of_none, IsOf, Adds, report_of}
use Rattle.publication_core.proofs.Histories.{with_job_parts}

-- What the layers promise of histories.
pub record Layers : Type 0 where
  pub none : ledger_of (releases_of (of_jobs [])) ≡ no_ledger
  pub next : (h : History) (job : JobFields) (p : PublicationFields) → IsHistory h → FitsPublishing job → IsWithinLimits PUBLISHED job
      → Publishes (ledger_of (releases_of h)) job (Ok p) → IsHistory (with_job h (in_format current job) p.sealed)
  pub ledger : (h : History) (job : JobFields) (p : PublicationFields) → IsHistory h
      → Publishes (ledger_of (releases_of h)) job (Ok p) → p.ledger ≡ ledger_of (releases_of (with_job h (in_format current job) p.sealed))
  pub numbers : (h : History) (job : JobFields) (p : PublicationFields) → IsHistory h
      → Publishes (ledger_of (releases_of h)) job (Ok p) → p.counts ≡ counts (past_of (releases_of h)) (facts_of job)
  pub place : (h : History) (job : JobFields) (p : PublicationFields) → IsHistory h
      → Publishes (ledger_of (releases_of h)) job (Ok p) → p.place ≡ members h
  pub chain : (h : History) → IsHistory h → IsChain (parts_of h)
  pub few : (h : History) → IsHistory h → members h ≤ 64
  pub grown : (parts : List SealedFields) (p : SealedFields) → IsChain (parts ++ p ∷ []) → 1 ≤ length parts → length parts < 64 → IsChain parts × (refusal_of parts p ≡ None)

module _ (layers : Layers) where
  pub none_is : IsOf (of_jobs []) of_none
  none_is = record { is_history = tt; parts = refl; ledger = sym layers.none }

  module _ (h : History) (before : RehearsalFields) (job : JobFields) (p : PublicationFields) (of : IsOf h before) (fits : FitsPublishing job) (limits : IsWithinLimits PUBLISHED job)
      (published : Publishes before.ledger job (Ok p)) where
    abbrev after : History
    after = with_job h (in_format current job) p.sealed

    behind : Publishes (ledger_of (releases_of h)) job (Ok p)
    behind = subst (λ (l : LedgerFields). Publishes l job (Ok p)) of.ledger published

    pub next_is : IsHistory after
    next_is = layers.next h job p of.is_history fits limits behind

    more_parts : before.parts ++ p.sealed ∷ [] ≡ parts_of after
    more_parts = ap (λ (ss : List SealedFields). ss ++ p.sealed ∷ []) of.parts ∙ sym (with_job_parts h (record { job = in_format current job; sealed = p.sealed }))

    pub after_is : IsOf after (record { parts = before.parts ++ p.sealed ∷ []; ledger = p.ledger })
    after_is = record { is_history = next_is; parts = more_parts; ledger = layers.ledger h job p of.is_history behind }

    reported : record { epoch = p.sealed.part.head.epoch; place = p.place; counts = p.counts } ≡ report_of h job
    reported =
        ap (λ (e : HeadFields). record { epoch = e.epoch; place = p.place; counts = p.counts }) published.1.head_is
        ∙ ap (λ (n : ℕ). record { epoch = job.epoch; place = n; counts = p.counts }) (layers.place h job p of.is_history behind)
        ∙ ap (λ (c : Counts). record { epoch = job.epoch; place = members h; counts = c }) (layers.numbers h job p of.is_history behind)

    pub adds : Adds h job (record { parts = before.parts ++ p.sealed ∷ []; ledger = p.ledger }) (record { epoch = p.sealed.part.head.epoch; place = p.place; counts = p.counts })
    adds = record { sealed = p.sealed; is_of = after_is; report = reported }

    -- a client takes the part
    pub taken : 1 ≤ length before.parts → refusal_of before.parts p.sealed ≡ None
    taken some =
        (layers.grown before.parts p.sealed (subst IsChain (sym more_parts) (layers.chain after next_is)) some
        (let few = layers.few after next_is in omega (arith, few, ap length more_parts, length_push before.parts p.sealed))).1

pub not_refused : (r : Option Refusal) (why : Refusal) → r ≡ None → r ≡ Some why → ⊥
not_refused r why none is = let h : ◌≡◌ {A = Option Refusal} None (Some why) = sym none ∙ is in cc
