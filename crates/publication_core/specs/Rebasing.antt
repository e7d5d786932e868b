-- What a rebase publishes behind a ledger, which need not be that of a history, said as in `Publishing`:
-- `BasePublicationFields` is what is published, and `PublishesBase` ties the ledger to that, or to why nothing is.
use Rattle.std.specs.Prelude.{◌≡◌, ℕ, ◌<◌, ◌≤◌, List, [], filter, length, count_by, not, Result, Ok, Err}
use Rattle.ident_core.specs.declared.bounds.TheConstants.{MAX_ISSUERS}
use Rattle.equation_core.specs.Rows.{sha256_row}
use Rattle.part_text.specs.SealedFields.{SealedFields}
use Rattle.job_core.specs.declared.bounds.What.TheVariants.{Issuers}
use Rattle.ledger_core.specs.LedgerFields.{LedgerFields}
use Rattle.place_core.specs.Cuts.{Cut, is_kept}
use Rattle.universe_core.specs.Formats.{dated}
use Rattle.universe_core.specs.History.{Release, accepted_by, is_listed}
use Rattle.universe_core.specs.Rebases.{ledger_cut, count_left, is_lasting, issuers_in, kept, kept_revoked}
use Rattle.universe_core.specs.Rebases.{count_pruned, rebased_head, rebased_groups, rebased_ledger}
use Rattle.history_core.specs.Bases.{all_issuers, kept_by, releases_cut, is_lasting_by}
use Rattle.builder_core.specs.Building.{IsFirstRefused}
use Rattle.publication_core.specs.declared.base.BaseCounts.{BaseCounts}
use Rattle.publication_core.specs.declared.base_fault.BaseFault.{BaseFault}
use Rattle.publication_core.specs.declared.base_fault.BaseFault.TheVariants.{TooMany, SeedsExhausted, NoMemory}
use Rattle.publication_core.specs.Formats.{blocks_in}
use Rattle.publication_core.specs.Building.{IsSealedPart}

-- ---- how many there are

-- what a rebase of the ledger, cut, keeps, and what it doesn't
abbrev pub base_counts_after : ℕ → Cut → LedgerFields → BaseCounts
base_counts_after moment cut ledger = record {
  issuers = length (issuers_in (ledger_cut cut ledger).parts);
  universe = length (kept (is_lasting moment) (ledger_cut cut ledger));
  revoked = length (kept_revoked (is_lasting moment) (ledger_cut cut ledger));
  pruned = count_pruned (is_lasting moment) (ledger_cut cut ledger);
  left = count_left cut ledger;
}

-- the same of the base of releases
abbrev pub counts_of_base : ℕ → List Release → ℕ → BaseCounts
counts_of_base moment rs left = record {
  issuers = length (all_issuers rs);
  universe = length (kept_by (is_lasting_by moment rs) rs);
  revoked = length (filter (is_listed rs) (kept_by (is_lasting_by moment rs) rs));
  pruned = count_by (λ x. not (is_lasting_by moment rs x)) (accepted_by [] rs);
  left = left;
}

-- the same of the base of what a cut keeps of these releases
abbrev pub base_counts : ℕ → Cut → List Release → BaseCounts
base_counts moment cut rs =
    counts_of_base moment (releases_cut cut rs) (count_by (λ x. not (is_kept cut x)) (accepted_by [] rs))

-- ---- what is published

-- The part that begins a chain anew, the ledger behind it, and how many they have of each.
pub record BasePublicationFields : Type 0 where
  pub sealed : SealedFields
  pub ledger : LedgerFields
  pub counts : BaseCounts

-- Of the issuers of the ledger's parts few enough are taken, and this is its part of what is kept at the moment, with its
-- ledger and its counts; or more are taken than a part may have; or they aren't, and an issuer has no block.
abbrev pub PublishesBase : LedgerFields → ℕ → Cut → Result BasePublicationFields BaseFault → Type 0
PublishesBase ledger moment cut (Ok p) =
    (length (issuers_in (ledger_cut cut ledger).parts) ≤ MAX_ISSUERS)
    × IsSealedPart dated (rebased_head (ledger_cut cut ledger).parts)
    (rebased_groups (is_lasting moment) (ledger_cut cut ledger)) p.sealed
    × (p.ledger ≡ rebased_ledger (is_lasting moment) (ledger_cut cut ledger) p.sealed.trailer)
    × (p.counts ≡ base_counts_after moment cut ledger)
PublishesBase ledger moment cut (Err (TooMany what limit)) =
    (what ≡ Issuers) × (limit ≡ MAX_ISSUERS) × (MAX_ISSUERS < length (issuers_in (ledger_cut cut ledger).parts))
PublishesBase ledger moment cut (Err (SeedsExhausted issuer stage)) =
    (length (issuers_in (ledger_cut cut ledger).parts) ≤ MAX_ISSUERS)
    × IsFirstRefused (blocks_in dated) sha256_row (rebased_groups (is_lasting moment) (ledger_cut cut ledger)) issuer stage
PublishesBase ledger moment cut (Err NoMemory) = ⊥
