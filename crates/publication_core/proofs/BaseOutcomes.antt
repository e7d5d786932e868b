-- One thing comes of a rebase behind a ledger.
use Rattle.std.proofs.Common.{◌≡◌, ℕ, ◌<◌, ◌≤◌, length, Result, Ok, Err, refl, sym, ap, ◌∙◌, inl, inr, arith}
use Rattle.std.proofs.lemmas.Bool.{cases_lt}
use Rattle.equation_core.specs.Rows.{sha256_row}
use Rattle.part_text.specs.SealedFields.{SealedFields}
use Rattle.job_core.specs.declared.bounds.What.TheVariants.{Issuers}
use Rattle.ledger_core.specs.LedgerFields.{LedgerFields}
use Rattle.place_core.specs.Cuts.{Cut}
use Rattle.universe_core.specs.Formats.{dated}
use Rattle.universe_core.specs.Rebases.{ledger_cut, is_lasting, issuers_in, rebased_head, rebased_groups, rebased_ledger}
use Rattle.builder_core.proofs.Existing.{blocks_or_refusal}
use Rattle.builder_core.proofs.FirstRefused.{refused_no_blocks, first_refused_once}
use Rattle.publication_core.specs.declared.base_fault.BaseFault.{BaseFault}
use Rattle.publication_core.specs.declared.base_fault.BaseFault.TheVariants.{TooMany, SeedsExhausted, NoMemory}
use Rattle.publication_core.specs.Formats.{blocks_in}
use Rattle.publication_core.specs.Rebasing.{BasePublicationFields, PublishesBase}
use Rattle.publication_core.proofs.Bases.{base_made}
use Rattle.publication_core.proofs.Unique.{sealed_same}

module _ (ledger : LedgerFields) (moment : ℕ) (cut : Cut) where
  abbrev rest : LedgerFields
  rest = ledger_cut cut ledger

  published_same : (p q : BasePublicationFields) → PublishesBase ledger moment cut (Ok p) → PublishesBase ledger moment cut (Ok q) → p ≡ q
  published_same p q x y =
      let sealed : p.sealed ≡ q.sealed = sealed_same dated (rebased_head rest.parts) (rebased_groups (is_lasting moment) rest) p.sealed q.sealed x.1 y.1 in
      λ i. record {
        sealed = sealed i;
        ledger = (x.2 ∙ ap (λ (s : SealedFields). rebased_ledger (is_lasting moment) rest s.trailer) sealed ∙ sym y.2) i;
        counts = (x.3 ∙ sym y.3) i;
      }

  not_both : {A : Type 0} → length (issuers_in rest.parts) ≤ 65535 → 65535 < length (issuers_in rest.parts) → A
  not_both few many = absurd (omega (arith, few, many))

  pub base_outcome_unique : (a b : Result BasePublicationFields BaseFault) → PublishesBase ledger moment cut a → PublishesBase ledger moment cut b → a ≡ b
  base_outcome_unique (Ok p) (Ok q) x y = ap (λ (r : BasePublicationFields). Ok r) (published_same p q x y)
  base_outcome_unique (Ok p) (Err (TooMany what limit)) x y = not_both x.0 y.2
  base_outcome_unique (Ok p) (Err (SeedsExhausted issuer stage)) x y =
      absurd (refused_no_blocks (blocks_in dated) sha256_row (rebased_groups (is_lasting moment) rest) issuer stage p.sealed.part.blocks y.1 x.1.blocks)
  base_outcome_unique (Ok p) (Err NoMemory) x y = absurd y
  base_outcome_unique (Err (TooMany what limit)) (Ok q) x y = not_both y.0 x.2
  base_outcome_unique (Err (TooMany what limit)) (Err (TooMany other most)) x y = λ i. Err (TooMany ((x.0 ∙ sym y.0) i) ((x.1 ∙ sym y.1) i))
  base_outcome_unique (Err (TooMany what limit)) (Err (SeedsExhausted issuer stage)) x y = not_both y.0 x.2
  base_outcome_unique (Err (TooMany what limit)) (Err NoMemory) x y = absurd y
  base_outcome_unique (Err (SeedsExhausted issuer stage)) (Ok q) x y =
      absurd (refused_no_blocks (blocks_in dated) sha256_row (rebased_groups (is_lasting moment) rest) issuer stage q.sealed.part.blocks x.1 y.1.blocks)
  base_outcome_unique (Err (SeedsExhausted issuer stage)) (Err (TooMany what limit)) x y = not_both x.0 y.2
  base_outcome_unique (Err (SeedsExhausted issuer stage)) (Err (SeedsExhausted other at)) x y =
      let same = first_refused_once (blocks_in dated) sha256_row (rebased_groups (is_lasting moment) rest) issuer other stage at x.1 y.1 in
      λ i. Err (SeedsExhausted (same.0 i) (same.1 i))
  base_outcome_unique (Err (SeedsExhausted issuer stage)) (Err NoMemory) x y = absurd y
  base_outcome_unique (Err NoMemory) b x y = absurd x

  by_blocks : length (issuers_in rest.parts) ≤ 65535 → (o : Result BasePublicationFields BaseFault) × PublishesBase ledger moment cut o
  by_blocks few = elim (blocks_or_refusal (blocks_in dated) sha256_row (rebased_groups (is_lasting moment) rest)) [
    | inl b ↦ (let p = base_made ledger moment cut few b in (Ok p.0, p.1))
    | inr r ↦ (Err (SeedsExhausted r.0 r.1), (few, r.2))
  ]

  -- Something is published, or something stands against it.
  pub some_outcome : (o : Result BasePublicationFields BaseFault) × PublishesBase ledger moment cut o
  some_outcome = elim (cases_lt 65535 (length (issuers_in rest.parts))) [
    | inl many ↦ (Err (TooMany Issuers 65535), (refl, refl, many))
    | inr few ↦ by_blocks few
  ]
