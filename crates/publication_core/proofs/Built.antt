-- What a rebase builds: the groups, and the ledger of one part.
use Rattle.std.specs.List.{filter}
use Rattle.std.specs.List.Sorted.{IsStrictlySortedBy}
use Rattle.std.specs.Option.{option_map}
use Rattle.std.specs.Prelude.{IfSome, count_by, is_some, not}
use Rattle.std.proofs.Common.{◌≡◌, ℕ, ◌+◌, ◌<◌, ◌≤◌, List, [], ◌∷◌, map, length, All, Bool, false, ◌&&◌, Option, Some, None, refl, sym, ap, ◌∙◌, subst, arith}
use Rattle.std.proofs.lemmas.List.{length-map}
use Rattle.std.proofs.lemmas.List.Elements.{All-map}
use Rattle.std.proofs.lemmas.List.Filters.{length-filter_both}
use Rattle.std.proofs.lemmas.List.Sums.{length-filter}
use Rattle.ident_core.specs.declared.identity.Identity.{Identity}
use Rattle.ident_core.specs.declared.range.Range.{Range}
use Rattle.ident_core.specs.Order.{identity_cmp, octets_cmp}
use Rattle.ident_core.specs.Coverage.{RangesFit}
use Rattle.ident_core.specs.declared.kind.Kind.TheVariants as kinds
use Rattle.ident_core.specs.HeadFields.{zero_key}
use Rattle.ledger_core.specs.LedgerFields.{LedgerPartFields, LedgerFields, IsLedger, IsItemOf, ids, newest, sealed_with}
use Rattle.ledger_core.specs.declared.fields.LedgerItem.{LedgerItem}
use Rattle.place_core.specs.Cuts.{Cut}
use Rattle.universe_core.specs.Groups.{GroupFields, IsGroup}
use Rattle.universe_core.specs.History.{Release}
use Rattle.universe_core.specs.Members.{first_part}
use Rattle.universe_core.specs.Rebases.{is_kept_item, ledger_cut, count_left, kept, count_pruned, group_among, issuers_in, epoch_by, ranges_by, rebased_item, rebased_head, rebased_groups, rebased_ledger}
use Rattle.universe_core.proofs.Beginning.{every, group_facts}
use Rattle.publication_core.proofs.Kept.{sorted_kept, ids_rebased, lasts_rebased}
use Rattle.publication_core.proofs.Cuts.{kept_cut, left_and_others, head_cut}

-- the kept items of the ledger, cut, as a slice shows its items
pub kept_of : (cut : Cut) (keeps : LedgerItem → Bool) (ledger : LedgerFields) (seen items : List LedgerItem) → seen ≡ ledger.items
    → items ≡ map rebased_item (filter (λ i. keeps i && is_kept_item cut i) seen) → items ≡ map rebased_item (kept keeps (ledger_cut cut ledger))
kept_of cut keeps ledger seen items s e = e ∙ ap (λ is. map rebased_item (filter (λ i. keeps i && is_kept_item cut i) is)) s ∙ ap (map rebased_item) (kept_cut cut keeps ledger)

-- ---- how many are pruned

pub pruned_is : (keeps : LedgerItem → Bool) (ledger : LedgerFields) (n m : ℕ) → n ≡ length ledger.items → m ≡ length (map rebased_item (kept keeps ledger))
    → m + count_pruned keeps ledger ≡ n
pruned_is keeps ledger n m e f =
    omega (
      arith,
      e,
      f,
      length-map (kept keeps ledger) rebased_item,
      length-filter_both keeps (λ i. not (keeps i)) (λ i. refl) ledger.items,
      length-filter (λ (i : LedgerItem). not (keeps i)) ledger.items,
    )

-- the items that are neither kept nor left out
pub each_item : (cut : Cut) (keeps : LedgerItem → Bool) (ledger : LedgerFields)
    → length (kept keeps (ledger_cut cut ledger)) + count_pruned keeps (ledger_cut cut ledger) + count_left cut ledger ≡ length ledger.items
each_item cut keeps ledger =
    omega (
      arith,
      pruned_is keeps (ledger_cut cut ledger) (length (ledger_cut cut ledger).items) (length (map rebased_item (kept keeps (ledger_cut cut ledger)))) refl refl,
      length-map (kept keeps (ledger_cut cut ledger)) rebased_item,
      left_and_others cut ledger,
    )

-- the same of a slice of the items, and of the kept ones as they are renewed
pub counted : (cut : Cut) (keeps : LedgerItem → Bool) (ledger : LedgerFields) (seen also items : List LedgerItem) (left : ℕ) → seen ≡ ledger.items → also ≡ ledger.items
    → items ≡ map rebased_item (kept keeps (ledger_cut cut ledger)) → left ≡ count_by (λ i. not (is_kept_item cut i)) also
    → (left ≡ count_left cut ledger) × (length items + count_pruned keeps (ledger_cut cut ledger) + left ≡ length seen)
counted cut keeps ledger seen also items left s t i e =
    let l : left ≡ count_left cut ledger = e ∙ ap (count_by (λ (x : LedgerItem). not (is_kept_item cut x))) t in (
      l,
      omega (arith, l, ap length s, ap length i, length-map (kept keeps (ledger_cut cut ledger)) rebased_item, each_item cut keeps ledger),
    )

-- ---- the groups

-- a release with these identities, whose groups are of the same form
abbrev of_kept : List Identity → List Identity → Release
of_kept xs revoked = record { epoch = 0; trailer = []; ranges = []; issuers = []; lists = λ x. false; shown = []; accepted = xs; revoked = revoked }

module _ (keeps : LedgerItem → Bool) (ledger : LedgerFields) where
  pub groups_are : (issuers : List (List ℕ)) (items : List LedgerItem) (out : List GroupFields) → issuers ≡ issuers_in ledger.parts
      → items ≡ map rebased_item (kept keeps ledger)
      → out ≡ map (group_among (ids items) (ids (filter (λ i. is_some i.last) items))) issuers → out ≡ rebased_groups keeps ledger
  unfolding rebased_groups
  groups_are issuers items out k i o =
      o
      ∙ (λ j. map (group_among (ids (i j)) (ids (filter (λ x. is_some x.last) (i j)))) (k j))
      ∙ (λ j. map (group_among (ids_rebased (kept keeps ledger) j) (lasts_rebased (kept keeps ledger) j)) (issuers_in ledger.parts))

pub groups_facts : (xs revoked : List Identity) (issuers : List (List ℕ)) → IsStrictlySortedBy identity_cmp xs → All IsGroup (map (group_among xs revoked) issuers)
groups_facts xs revoked issuers s =
    All-map IsGroup (group_among xs revoked) issuers (every (λ k. IsGroup (group_among xs revoked k)) issuers (λ k. group_facts (of_kept xs revoked) k s))

-- ---- the ledger

last_fits : (o : Option ℕ) → IfSome (option_map {U = ℕ} (λ r. 0) o) (λ r. (0 ≤ r) × (r < 1))
last_fits None = tt
last_fits (Some r) = (omega arith, omega arith)

pub kept_ascend : (keeps : LedgerItem → Bool) (ledger : LedgerFields) (items : List LedgerItem) → IsStrictlySortedBy identity_cmp (ids ledger.items)
    → items ≡ map rebased_item (kept keeps ledger) → IsStrictlySortedBy identity_cmp (ids items)
kept_ascend keeps ledger items s i =
    subst (λ xs. IsStrictlySortedBy identity_cmp xs) (sym (ap ids i ∙ ids_rebased (kept keeps ledger))) (sorted_kept keeps ledger.items s)

pub is_ledger : (keeps : LedgerItem → Bool) (ledger : LedgerFields) (epoch : ℕ) (ranges : List Range) (issuers : List (List ℕ)) (items : List LedgerItem) → IsLedger ledger
    → RangesFit ranges → length issuers ≤ 65535 → IsStrictlySortedBy octets_cmp issuers → items ≡ map rebased_item (kept keeps ledger)
    → IsLedger (record { parts = first_part epoch ranges issuers ∷ []; items = items })
is_ledger keeps ledger epoch ranges issuers items h r few a i = record {
  some_parts = omega arith;
  few_parts = omega arith;
  parts = (record { continues = tt; ranges = r; few_issuers = few; issuers_ascend = a }, tt);
  few_items = omega (arith, ap length i, pruned_is keeps ledger (length ledger.items) (length items) refl (ap length i), h.few_items);
  items_ascend = kept_ascend keeps ledger items h.items_ascend i;
  items = subst (λ is. All (IsItemOf 1) is) (sym i)
      (All-map (IsItemOf 1) rebased_item (kept keeps ledger)
      (every (λ x. IsItemOf 1 (rebased_item x)) (kept keeps ledger) (λ x. record { birth = omega arith; last = last_fits x.last })));
}

-- the head, and the ledger but for the trailer of its part, are those of the ledger, cut

pub head_is : (cut : Cut) (ledger : LedgerFields) (p : LedgerPartFields) → newest ledger.parts ≡ Some p → rebased_head (p ∷ []) ≡ rebased_head (ledger_cut cut ledger).parts
head_is cut ledger p e =
    (λ i. record { kind = kinds.Snapshot; epoch = epoch_by (sym e i); parent = zero_key; ranges = ranges_by (sym e i) }) ∙ sym (head_cut cut ledger)

pub next_is : (cut : Cut) (keeps : LedgerItem → Bool) (ledger : LedgerFields) (p made : LedgerPartFields) (issuers : List (List ℕ)) (items : List LedgerItem) (next : LedgerFields)
    → newest ledger.parts ≡ Some p → made ≡ first_part p.epoch p.ranges issuers → issuers ≡ issuers_in (ledger_cut cut ledger).parts
    → items ≡ map rebased_item (kept keeps (ledger_cut cut ledger)) → next ≡ record { parts = made ∷ []; items = items }
    → (trailer : List ℕ) → sealed_with next trailer ≡ rebased_ledger keeps (ledger_cut cut ledger) trailer
next_is cut keeps ledger p made issuers items next e part_is issuers_are items_are is trailer =
    let head : rebased_head (p ∷ []) ≡ rebased_head (ledger_cut cut ledger).parts = head_is cut ledger p e in
    ap (λ (l : LedgerFields). sealed_with l trailer) is
    ∙ ap (λ (q : LedgerPartFields). sealed_with (record { parts = q ∷ []; items = items }) trailer) part_is
    ∙ (λ i. record {
      parts = record { epoch = (head i).epoch; trailer = trailer; ranges = (head i).ranges; issuers = issuers_are i } ∷ [];
      items = items_are i;
    })
