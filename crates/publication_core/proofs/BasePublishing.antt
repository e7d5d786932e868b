-- What is built of a ledger that is rebased is its publication.
use Rattle.std.proofs.Common.{◌≡◌, ℕ, ◌≤◌, List, map, length, Bool, Ok, sym, ap, ◌∙◌, subst, arith}
use Rattle.std.specs.Prelude.{filter, flat_map, is_some}
use Rattle.std.specs.List.Sorted.{IsStrictlySortedBy}
use Rattle.std.proofs.lemmas.List.{length-map}
use Rattle.std.proofs.lemmas.List.Sums.{length-filter, count_by-le-length}
use Rattle.ident_core.specs.Order.{octets_cmp}
use Rattle.ident_core.specs.HeadFields.{HeadFields}
use Rattle.equation_core.specs.Rows.{sha256_row}
use Rattle.part_text.specs.SealedFields.{SealedFields}
use Rattle.ledger_core.specs.declared.fields.LedgerItem.{LedgerItem}
use Rattle.ledger_core.specs.LedgerFields.{LedgerPartFields, LedgerFields, IsLedger, ids, sealed_with}
use Rattle.ident_core.proofs.Sets.{key_set_ascends}
use Rattle.place_core.specs.Cuts.{Cut}
use Rattle.universe_core.specs.declared.admitted.Group.{Group}
use Rattle.universe_core.specs.Formats.{dated}
use Rattle.universe_core.specs.Groups.{GroupFields, group_fields}
use Rattle.universe_core.specs.Rebases.{ledger_cut, count_left, is_lasting, issuers_in, kept, kept_revoked, count_pruned, group_among, rebased_head, rebased_groups, rebased_item, rebased_ledger}
use Rattle.publication_core.proofs.Kept.{lasts_rebased}
use Rattle.builder_core.specs.Building.{AreGroupBlocks, issuers_of, identities_in}
use Rattle.builder_core.proofs.Admitted.{issuers_among, identities_among}
use Rattle.publication_core.specs.declared.base.BaseCounts.{BaseCounts}
use Rattle.publication_core.specs.Building.{IsSealedPart}
use Rattle.publication_core.specs.Formats.{blocks_in}
use Rattle.publication_core.specs.Rebasing.{BasePublicationFields, PublishesBase}

-- ---- what building asks

module _ (keeps : LedgerItem → Bool) (ledger : LedgerFields) where
  pub base_ascends : (gs : List GroupFields) → gs ≡ rebased_groups keeps ledger → IsStrictlySortedBy octets_cmp (issuers_of gs)
  unfolding rebased_groups
  base_ascends gs is =
      let e : issuers_of gs ≡ issuers_in ledger.parts = ap issuers_of is ∙ issuers_among (ids (kept keeps ledger)) (ids (kept_revoked keeps ledger)) (issuers_in ledger.parts) in
      subst (IsStrictlySortedBy octets_cmp) (sym e) (key_set_ascends (flat_map (λ (p : LedgerPartFields). p.issuers) ledger.parts))

  -- a group for each issuer
  pub base_many : (gs : List GroupFields) → gs ≡ rebased_groups keeps ledger → length gs ≡ length (issuers_in ledger.parts)
  unfolding rebased_groups
  base_many gs is = ap length is ∙ length-map (issuers_in ledger.parts) (group_among (ids (kept keeps ledger)) (ids (kept_revoked keeps ledger)))

  kept_few : length (ids (kept keeps ledger)) ≤ length ledger.items
  kept_few = omega (arith, length-map (kept keeps ledger) (λ (i : LedgerItem). i.id), length-filter keeps ledger.items, count_by-le-length keeps ledger.items)

  pub base_identities : (gs : List GroupFields) → gs ≡ rebased_groups keeps ledger → IsLedger ledger → identities_in gs ≤ 4194304
  unfolding rebased_groups
  base_identities gs is facts =
      let few : identities_in (rebased_groups keeps ledger) ≤ length (ids (kept keeps ledger))
      = identities_among (ids (kept keeps ledger)) (ids (kept_revoked keeps ledger)) (issuers_in ledger.parts) (key_set_ascends (flat_map (λ (p : LedgerPartFields). p.issuers) ledger.parts)) in
      omega (arith, ap identities_in is, few, kept_few, facts.few_items)

-- ---- how many there are

-- the new ledger has a last of those that are revoked
revoked_is : (keeps : LedgerItem → Bool) (ledger : LedgerFields) → length (filter (λ i. is_some i.last) (map rebased_item (kept keeps ledger))) ≡ length (kept_revoked keeps ledger)
revoked_is keeps ledger =
    sym (length-map (filter (λ i. is_some i.last) (map rebased_item (kept keeps ledger))) (λ (i : LedgerItem). i.id))
    ∙ ap length (lasts_rebased (kept keeps ledger))
    ∙ length-map (kept_revoked keeps ledger) (λ (i : LedgerItem). i.id)

-- ---- what is built

pub base_publishes : (ledger : LedgerFields) (moment : ℕ) (cut : Cut) (head : HeadFields) (groups : List Group) (next new : LedgerFields) (sealed : SealedFields)
    (counts : BaseCounts) (p : BasePublicationFields) → length (issuers_in (ledger_cut cut ledger).parts) ≤ 65535 → head ≡ rebased_head (ledger_cut cut ledger).parts
    → map group_fields groups ≡ rebased_groups (is_lasting moment) (ledger_cut cut ledger)
    → ((trailer : List ℕ) → sealed_with next trailer ≡ rebased_ledger (is_lasting moment) (ledger_cut cut ledger) trailer)
    → IsSealedPart dated head (map group_fields groups) sealed × (new ≡ sealed_with next sealed.trailer) → counts.issuers ≡ length groups → counts.universe ≡ length new.items
    → counts.revoked ≡ length (filter (λ i. is_some i.last) new.items) → counts.pruned ≡ count_pruned (is_lasting moment) (ledger_cut cut ledger)
    → counts.left ≡ count_left cut ledger → p ≡ record { sealed = sealed; ledger = new; counts = counts } → PublishesBase ledger moment cut (Ok p)
base_publishes ledger moment cut head groups next new sealed counts p few head_is is seals (built, ledger_is) issuers universe revoked pruned left made_is =
    let rest : LedgerFields = ledger_cut cut ledger in
    let made : new ≡ rebased_ledger (is_lasting moment) rest sealed.trailer = ledger_is ∙ seals sealed.trailer in
    let many : counts.issuers ≡ length (issuers_in rest.parts) = issuers ∙ sym (length-map groups group_fields) ∙ base_many (is_lasting moment) rest (map group_fields groups) is in
    let held : counts.universe ≡ length (kept (is_lasting moment) rest) = universe ∙ ap (λ (l : LedgerFields). length l.items) made ∙ length-map (kept (is_lasting moment) rest) rebased_item in
    let listed : counts.revoked ≡ length (kept_revoked (is_lasting moment) rest)
    = revoked ∙ ap (λ (l : LedgerFields). length (filter (λ (i : LedgerItem). is_some i.last) l.items)) made ∙ revoked_is (is_lasting moment) rest in
    subst (λ (q : BasePublicationFields). PublishesBase ledger moment cut (Ok q)) (sym made_is) (
      few,
      record {
        head_is = built.head_is ∙ head_is;
        blocks = subst (λ (gs : List GroupFields). AreGroupBlocks (blocks_in dated) sha256_row gs sealed.part.blocks) is built.blocks;
        trailer = built.trailer;
      },
      made,
      λ i. record { issuers = many i; universe = held i; revoked = listed i; pruned = pruned i; left = left i },
    )
