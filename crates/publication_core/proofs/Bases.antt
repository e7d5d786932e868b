-- What a rebase publishes behind the ledger of a history is that of the history's base.
use Rattle.std.proofs.Common.{◌≡◌, ℕ, ◌≤◌, Bool, not, List, [], ◌∷◌, map, length, Ok, refl, sym, ap, ◌∙◌, subst, arith}
use Rattle.std.specs.Prelude.{count_by, filter}
use Rattle.std.proofs.lemmas.List.{length-map}
use Rattle.sha2.specs.Sha256.{sha256}
use Rattle.equation_core.specs.Rows.{sha256_row}
use Rattle.card_core.specs.declared.block.Block.{Block}
use Rattle.card_core.specs.PartFields.{PartFields}
use Rattle.part_text.specs.SealedFields.{SealedFields}
use Rattle.part_text.specs.PartText.{unsealed_text}
use Rattle.ledger_core.specs.declared.fields.LedgerItem.{LedgerItem}
use Rattle.ledger_core.specs.LedgerFields.{LedgerFields}
use Rattle.ident_core.specs.Sets.{key_set}
use Rattle.place_core.specs.Cuts.{Cut, is_kept}
use Rattle.universe_core.specs.Formats.{dated}
use Rattle.universe_core.specs.Groups.{GroupFields}
use Rattle.universe_core.specs.History.{Release, accepted_by, is_listed}
use Rattle.universe_core.specs.Ledgers.{item_from, ledger_of}
use Rattle.universe_core.specs.Rebases.{ledger_cut, count_left, is_lasting, issuers_in, kept, kept_revoked, count_pruned, rebased_head, rebased_groups, rebased_ledger}
use Rattle.universe_core.proofs.Tallies.{count_by-map}
use Rattle.history_core.specs.Facts.{IsSound}
use Rattle.history_core.specs.Bases.{all_issuers, kept_by, releases_cut, base_at, is_lasting_by}
use Rattle.history_core.proofs.BaseLedgers.{issuers_same, head_same, ledger_same, accepted_same, revoked_same, groups_same}
use Rattle.history_core.proofs.Cuts.{cut_sound, ledger_cut-of, many_cut}
use Rattle.builder_core.specs.Building.{AreGroupBlocks}
use Rattle.publication_core.specs.Formats.{blocks_in}
use Rattle.publication_core.specs.Histories.{base_groups, IsBasePart, IsRebasable, History, rebased, members, IsHistory, releases_of}
use Rattle.publication_core.specs.Building.{HaveBlocks}
use Rattle.publication_core.specs.Rebasing.{BasePublicationFields, PublishesBase, base_counts_after, base_counts}
use Rattle.publication_core.proofs.Histories.{members_many, history_sound}

-- ---- any ledger

-- A ledger, of whose issuers few are taken, with a block for each, is rebased.
pub base_made : (ledger : LedgerFields) (moment : ℕ) (cut : Cut) → length (issuers_in (ledger_cut cut ledger).parts) ≤ 65535
    → HaveBlocks dated (rebased_groups (is_lasting moment) (ledger_cut cut ledger)) → (p : BasePublicationFields) × PublishesBase ledger moment cut (Ok p)
base_made ledger moment cut few (blocks, are) =
    let made : PartFields = record { head = rebased_head (ledger_cut cut ledger).parts; blocks = blocks } in
    let sealed : SealedFields = record { part = made; trailer = sha256 (unsealed_text made) } in (
      record {
        sealed = sealed;
        ledger = rebased_ledger (is_lasting moment) (ledger_cut cut ledger) sealed.trailer;
        counts = base_counts_after moment cut ledger;
      },
      (few, record { head_is = refl; blocks = are; trailer = refl }, refl, refl),
    )

-- ---- the ledger of releases

issuers_are : (rs : List Release) → issuers_in (ledger_of rs).parts ≡ all_issuers rs
unfolding ledger_of
issuers_are rs = ap key_set (issuers_same rs)

module _ (moment : ℕ) (rs : List Release) (sound : IsSound rs) where
  abbrev keeps : LedgerItem → Bool
  keeps i = is_lasting moment i

  universe_same : length (kept keeps (ledger_of rs)) ≡ length (kept_by (is_lasting_by moment rs) rs)
  unfolding ledger_of
  universe_same = sym (length-map (filter keeps (map (item_from rs) (accepted_by [] rs))) (λ i. i.id)) ∙ ap length (accepted_same keeps rs [] sound)

  revoked_many : length (kept_revoked keeps (ledger_of rs)) ≡ length (filter (is_listed rs) (kept_by (is_lasting_by moment rs) rs))
  unfolding ledger_of
  revoked_many = sym (length-map (kept_revoked keeps (ledger_of rs)) (λ i. i.id)) ∙ ap length (revoked_same keeps rs [] sound)

  pruned_same : count_pruned keeps (ledger_of rs) ≡ count_by (λ x. not (is_lasting_by moment rs x)) (accepted_by [] rs)
  unfolding ledger_of
  pruned_same = count_by-map (λ i. not (keeps i)) (item_from rs) (accepted_by [] rs)

  -- the groups of the base
  pub blocks_same : (blocks : List Block) → AreGroupBlocks (blocks_in dated) sha256_row (rebased_groups keeps (ledger_of rs)) blocks
      → AreGroupBlocks (blocks_in dated) sha256_row (base_groups moment rs) blocks
  blocks_same blocks are = subst (λ (gs : List GroupFields). AreGroupBlocks (blocks_in dated) sha256_row gs blocks) (groups_same keeps rs [] sound) are

-- how many identities aren't kept
left_same : (cut : Cut) (rs : List Release) → count_left cut (ledger_of rs) ≡ count_by (λ x. not (is_kept cut x)) (accepted_by [] rs)
unfolding ledger_of
left_same cut rs = count_by-map (λ (i : LedgerItem). not (is_kept cut i.id)) (item_from rs) (accepted_by [] rs)

-- ---- the same of what a cut keeps

module _ (moment : ℕ) (cut : Cut) (old : List Release) (sound : IsSound old) where
  abbrev rest : List Release
  rest = releases_cut cut old

  rest_sound : IsSound rest
  rest_sound = cut_sound cut old sound

  -- the ledger, cut, is that of the releases, cut
  same : ledger_cut cut (ledger_of old) ≡ ledger_of rest
  same = ledger_cut-of cut old

  counts_same : base_counts_after moment cut (ledger_of old) ≡ base_counts moment cut old
  counts_same = λ i. record {
    issuers = (ap (λ (l : LedgerFields). length (issuers_in l.parts)) same ∙ ap length (issuers_are rest)) i;
    universe = (ap (λ l. length (kept (is_lasting moment) l)) same ∙ universe_same moment rest rest_sound) i;
    revoked = (ap (λ l. length (kept_revoked (is_lasting moment) l)) same ∙ revoked_many moment rest rest_sound) i;
    pruned = (ap (λ l. count_pruned (is_lasting moment) l) same ∙ pruned_same moment rest rest_sound) i;
    left = left_same cut old i;
  }

  few_same : length (issuers_in (ledger_cut cut (ledger_of old)).parts) ≡ length (all_issuers rest)
  few_same = ap (λ (l : LedgerFields). length (issuers_in l.parts)) same ∙ ap length (issuers_are rest)

  base_blocks : (blocks : List Block) → AreGroupBlocks (blocks_in dated) sha256_row (rebased_groups (is_lasting moment) (ledger_cut cut (ledger_of old))) blocks
      → AreGroupBlocks (blocks_in dated) sha256_row (base_groups moment rest) blocks
  base_blocks blocks are =
      blocks_same moment rest rest_sound blocks
      (subst (λ (l : LedgerFields). AreGroupBlocks (blocks_in dated) sha256_row (rebased_groups (is_lasting moment) l) blocks) same are)

  rebasable_then : (p : BasePublicationFields) → 1 ≤ length old → PublishesBase (ledger_of old) moment cut (Ok p) → IsRebasable moment rest
  rebasable_then p some x = record {
    some = omega (arith, some, many_cut cut old);
    few_issuers = omega (arith, few_same, x.0);
    blocks = (p.sealed.part.blocks, base_blocks p.sealed.part.blocks x.1.blocks);
  }

  base_part : (p : BasePublicationFields) → PublishesBase (ledger_of old) moment cut (Ok p) → IsBasePart moment rest p.sealed
  base_part p x = record {
    head_is = x.1.head_is ∙ ap (λ (l : LedgerFields). rebased_head l.parts) same ∙ head_same rest;
    blocks = base_blocks p.sealed.part.blocks x.1.blocks;
    trailer = x.1.trailer;
  }

  base_next : (p : BasePublicationFields) → PublishesBase (ledger_of old) moment cut (Ok p) → p.ledger ≡ ledger_of (base_at moment rest p.sealed.trailer ∷ [])
  base_next p x = x.2 ∙ ap (λ l. rebased_ledger (is_lasting moment) l p.sealed.trailer) same ∙ ledger_same (is_lasting moment) rest p.sealed.trailer rest_sound

  rebased_then : IsRebasable moment rest → (p : BasePublicationFields) × PublishesBase (ledger_of old) moment cut (Ok p)
  rebased_then can =
      base_made (ledger_of old) moment cut (omega (arith, few_same, can.few_issuers))
      (subst (λ (l : LedgerFields). HaveBlocks dated (rebased_groups (is_lasting moment) l)) (sym same)
      (subst (HaveBlocks dated) (sym (groups_same (is_lasting moment) rest [] rest_sound)) can.blocks))

-- ---- the ledger of a history

module _ (h : History) (moment : ℕ) (cut : Cut) (is : IsHistory h) where
  pub base_rebasable : (p : BasePublicationFields) → 1 ≤ members h → PublishesBase (ledger_of (releases_of h)) moment cut (Ok p)
      → IsRebasable moment (releases_cut cut (releases_of h))
  base_rebasable p some x = rebasable_then moment cut (releases_of h) (history_sound h is) p (omega (arith, members_many h, some)) x

  pub base_history : (p : BasePublicationFields) → 1 ≤ members h → PublishesBase (ledger_of (releases_of h)) moment cut (Ok p)
      → IsHistory (rebased h moment cut p.sealed [])
  base_history p some x = (is, base_rebasable p some x, base_part moment cut (releases_of h) (history_sound h is) p x, tt)

  pub base_ledger : (p : BasePublicationFields) → PublishesBase (ledger_of (releases_of h)) moment cut (Ok p)
      → p.ledger ≡ ledger_of (releases_of (rebased h moment cut p.sealed []))
  base_ledger p x = base_next moment cut (releases_of h) (history_sound h is) p x

  pub base_numbers : (p : BasePublicationFields) → PublishesBase (ledger_of (releases_of h)) moment cut (Ok p) → p.counts ≡ base_counts moment cut (releases_of h)
  base_numbers p x = x.3 ∙ counts_same moment cut (releases_of h) (history_sound h is)

  pub rebasable_published : IsRebasable moment (releases_cut cut (releases_of h)) → (p : BasePublicationFields) × PublishesBase (ledger_of (releases_of h)) moment cut (Ok p)
  rebasable_published can = rebased_then moment cut (releases_of h) (history_sound h is) can
