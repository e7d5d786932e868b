-- A search in items whose identities ascend, wherever it looks.
use Rattle.std.specs.List.{AllWithin, find}
use Rattle.std.specs.List.Sorted.{IsStrictlySortedBy}
use Rattle.std.specs.declared.cmp.Ordering.TheVariants.{Less, Equal, Greater}
use Rattle.std.specs.Ordering.{ordering_reverse}
use Rattle.std.proofs.Common.{◌≡◌, ℕ, ◌+◌, ◌<◌, ◌≤◌, List, length, get_or, None, Some, refl, sym, ap, ◌∙◌, subst, inl, inr, arith}
use Rattle.std.proofs.lemmas.Bool.{cases_lt}
use Rattle.std.proofs.lemmas.List.{get_or_read, length-map}
use Rattle.std.proofs.lemmas.List.Elements.{AllWithin-none}
use Rattle.std.proofs.lemmas.Map.Keys.{Less-from_sorted}
use Rattle.std.proofs.lemmas.Option.{slice_get_read}
use Rattle.ident_core.specs.declared.identity.Identity.{Identity}
use Rattle.ident_core.specs.Order.{identity_cmp, is_same}
use Rattle.ledger_core.specs.declared.fields.LedgerItem.{LedgerItem}
use Rattle.ledger_core.specs.LedgerFields.{ids}
use Rattle.ident_core.proofs.Keyed.{get_map}
use Rattle.ident_core.proofs.Sets.{identity_total}
use Rattle.universe_core.proofs.Searching.{bare_item, found, missed, find_at, find_none}

-- the identity can only stand from low up to high
pub record Narrowed (items : List LedgerItem) (x : Identity) (low high : ℕ) : Type 0 where
  pub order : low ≤ high
  pub within : high ≤ length items
  pub below : AllWithin (λ (m : LedgerItem). identity_cmp m.id x ≡ Less) items 0 low
  pub above : AllWithin (λ (m : LedgerItem). identity_cmp m.id x ≡ Greater) items high (length items)

pub begun : (items : List LedgerItem) (x : Identity) → Narrowed items x 0 (length items)
begun items x = record {
  order = omega arith;
  within = omega arith;
  below = AllWithin-none (λ (m : LedgerItem). identity_cmp m.id x ≡ Less) items 0;
  above = AllWithin-none (λ (m : LedgerItem). identity_cmp m.id x ≡ Greater) items (length items);
}

earlier : (items : List LedgerItem) → IsStrictlySortedBy identity_cmp (ids items) → (j k : ℕ) (d : LedgerItem) → j < k → k < length items
    → identity_cmp (get_or items j d).id (get_or items k d).id ≡ Less
earlier items s j k d before within =
    let n = length-map items (λ (m : LedgerItem). m.id) in
    subst (λ y. identity_cmp y (get_or items k d).id ≡ Less) (get_map (λ (m : LedgerItem). m.id) items j d)
    (subst (λ y. identity_cmp (get_or (ids items) j d.id) y ≡ Less) (get_map (λ (m : LedgerItem). m.id) items k d)
    (Less-from_sorted identity_cmp (ids items) j k d.id s before (omega arith)))

module _ (items : List LedgerItem) (x : Identity) (s : IsStrictlySortedBy identity_cmp (ids items)) (low high : ℕ) (n : Narrowed items x low high) where
  pub nowhere : high ≤ low → None ≡ find (λ (m : LedgerItem). is_same x m.id) items
  nowhere le = find_none items x (missed (λ (m : LedgerItem). m.id) bare_item (λ y. refl) items x low s (λ rises. (n.below, λ k d from to. n.above k d (omega (arith, n.order)) to)))

  module _ (middle : ℕ) (m : LedgerItem) (inside : middle < length items) (is : m ≡ get_or items middle m) where
    at : (d : LedgerItem) → m ≡ get_or items middle d
    at d = get_or_read items middle m inside is d

    pub here : identity_cmp m.id x ≡ Equal → Some m ≡ find (λ (i : LedgerItem). is_same x i.id) items
    here e =
        sym (slice_get_read items (length items) middle m refl inside is)
        ∙ find_at items x middle s
        (found (λ (i : LedgerItem). i.id) bare_item (λ y. refl) items x middle inside (λ d. ap (λ (i : LedgerItem). identity_cmp i.id x) (sym (at d)) ∙ e))

    pub behind : middle < high → identity_cmp m.id x ≡ Less → Narrowed items x (middle + 1) high
    behind lt e = record {
      order = omega arith;
      within = n.within;
      below = λ k d from to. elim (cases_lt k middle) [
        | inl before ↦ identity_total.trans (get_or items k d).id (get_or items middle d).id x (earlier items s k middle d before inside)
            (ap (λ (i : LedgerItem). identity_cmp i.id x) (sym (at d)) ∙ e)
        | inr others ↦ (let same : middle ≡ k = omega arith in ap (λ (i : LedgerItem). identity_cmp i.id x) (sym (at d ∙ ap (λ (j : ℕ). get_or items j d) same)) ∙ e)
      ];
      above = n.above;
    }

    pub before : low ≤ middle → identity_cmp m.id x ≡ Greater → Narrowed items x low middle
    before le e = record {
      order = le;
      within = omega arith;
      below = n.below;
      above = λ k d from to. elim (cases_lt middle k) [
        | inl later ↦ identity_total.antisymm (get_or items k d).id x
            ∙ ap ordering_reverse (identity_total.trans x (get_or items middle d).id (get_or items k d).id
            (identity_total.antisymm x (get_or items middle d).id ∙ ap ordering_reverse (ap (λ (i : LedgerItem). identity_cmp i.id x) (sym (at d)) ∙ e))
            (earlier items s middle k d later to))
        | inr others ↦ (let same : middle ≡ k = omega arith in ap (λ (i : LedgerItem). identity_cmp i.id x) (sym (at d ∙ ap (λ (j : ℕ). get_or items j d) same)) ∙ e)
      ];
    }
