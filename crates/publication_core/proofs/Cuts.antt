-- A ledger, cut.
use Rattle.std.specs.List.{filter, flat_map}
use Rattle.std.specs.Option.{option_map}
use Rattle.std.proofs.Common.{◌≡◌, ℕ, ◌+◌, ◌≤◌, List, [], ◌∷◌, ◌++◌, map, length, All, Bool, true, false, cond, not, ◌&&◌, Option, Some, None, refl, sym, ap, ◌∙◌, subst, arith}
use Rattle.std.proofs.lemmas.List.{length-map}
use Rattle.std.proofs.lemmas.List.Elements.{All-filter, filter-append}
use Rattle.std.proofs.lemmas.List.Filters.{length-filter_both}
use Rattle.std.proofs.lemmas.List.Kept.{IsStrictlySortedBy-filter}
use Rattle.std.proofs.lemmas.List.Sums.{length-filter, count_by-le-length}
use Rattle.octets_core.specs.Linked.{Linked}
use Rattle.ident_core.specs.declared.kind.Kind.TheVariants as kinds
use Rattle.ident_core.specs.HeadFields.{zero_key}
use Rattle.ident_core.specs.Order.{octets_cmp}
use Rattle.ledger_core.specs.LedgerFields.{LedgerPartFields, LedgerFields, Continues, IsPartAfter, IsLedger, IsItemOf, newest}
use Rattle.ledger_core.specs.declared.fields.LedgerItem.{LedgerItem}
use Rattle.ident_core.specs.Sets.{key_set}
use Rattle.ident_core.proofs.Sets.{has_key_set, key_set_kept}
use Rattle.place_core.specs.Cuts.{Cut, without, everything}
use Rattle.universe_core.specs.Rebases.{is_kept_item, part_cut, ledger_cut, count_left, kept, issuers_in, epoch_by, ranges_by, rebased_head}
use Rattle.publication_core.proofs.Kept.{sorted_kept}

-- ---- the set of the issuers

-- the set of the issuers stands for them
pub without_set : (ks : List (List ℕ)) → without (key_set ks) ≡ without ks
without_set ks = λ i. record { takes = λ k. not (has_key_set ks k i); chooses = λ x. true; unread = true }

-- ---- all of it

filter-all : {A : Type 0} (xs : List A) → filter (λ (x : A). true) xs ≡ xs
filter-all [] = refl
filter-all (x ∷ xs) = ap (λ ys. x ∷ ys) (filter-all xs)

parts_by_everything : (ps : List LedgerPartFields) → map (part_cut everything) ps ≡ ps
parts_by_everything [] = refl
parts_by_everything (p ∷ ps) = λ i. record p { issuers = filter-all p.issuers i } ∷ parts_by_everything ps i

pub cut_of_everything : (l : LedgerFields) → ledger_cut everything l ≡ l
unfolding ledger_cut
cut_of_everything l = λ i. record { parts = parts_by_everything l.parts i; items = filter-all l.items i }

-- ---- its parts

issuers_of_each : (cut : Cut) (ps : List LedgerPartFields)
    → flat_map (λ (p : LedgerPartFields). p.issuers) (map (part_cut cut) ps) ≡ flat_map (λ (p : LedgerPartFields). filter cut.takes p.issuers) ps
issuers_of_each cut [] = refl
issuers_of_each cut (p ∷ ps) = ap (λ ks. filter cut.takes p.issuers ++ ks) (issuers_of_each cut ps)

pub issuers_cut : (cut : Cut) (l : LedgerFields) (ps : List LedgerPartFields) → ps ≡ l.parts
    → key_set (flat_map (λ (p : LedgerPartFields). filter cut.takes p.issuers) ps) ≡ issuers_in (ledger_cut cut l).parts
unfolding ledger_cut
issuers_cut cut l ps e = ap key_set (sym (issuers_of_each cut ps) ∙ ap (λ qs. flat_map (λ (p : LedgerPartFields). p.issuers) (map (part_cut cut) qs)) e)

filtered_each : (cut : Cut) (ps : List LedgerPartFields)
    → flat_map (λ (p : LedgerPartFields). filter cut.takes p.issuers) ps ≡ filter cut.takes (flat_map (λ (p : LedgerPartFields). p.issuers) ps)
filtered_each cut [] = refl
filtered_each cut (p ∷ ps) = ap (λ ks. filter cut.takes p.issuers ++ ks) (filtered_each cut ps) ∙ sym (filter-append cut.takes p.issuers (flat_map (λ (q : LedgerPartFields). q.issuers) ps))

-- The issuers of the parts that are taken.
pub taken_issuers : (cut : Cut) (l : LedgerFields) → issuers_in (ledger_cut cut l).parts ≡ filter cut.takes (issuers_in l.parts)
taken_issuers cut l =
    sym (issuers_cut cut l l.parts refl) ∙ ap key_set (filtered_each cut l.parts) ∙ key_set_kept cut.takes (flat_map (λ (p : LedgerPartFields). p.issuers) l.parts)

newest_cut : (cut : Cut) (p : LedgerPartFields) (ps : List LedgerPartFields)
    → (epoch_by (newest (part_cut cut p ∷ map (part_cut cut) ps)) ≡ epoch_by (newest (p ∷ ps))) × (ranges_by (newest (part_cut cut p ∷ map (part_cut cut) ps)) ≡ ranges_by (newest (p ∷ ps)))
newest_cut cut p [] = (refl, refl)
newest_cut cut p (q ∷ ps) = newest_cut cut q ps

newest_same : (cut : Cut) (ps : List LedgerPartFields)
    → (epoch_by (newest (map (part_cut cut) ps)) ≡ epoch_by (newest ps)) × (ranges_by (newest (map (part_cut cut) ps)) ≡ ranges_by (newest ps))
newest_same cut [] = (refl, refl)
newest_same cut (p ∷ ps) = newest_cut cut p ps

-- The head of a rebase is that of the whole ledger.
pub head_cut : (cut : Cut) (l : LedgerFields) → rebased_head (ledger_cut cut l).parts ≡ rebased_head l.parts
unfolding ledger_cut
head_cut cut l =
    let n = newest_same cut l.parts in
    λ i. record { kind = kinds.Snapshot; epoch = n.0 i; parent = zero_key; ranges = n.1 i }

-- ---- its items

both_step : {A : Type 0} (p q : A → Bool) (x : A) (xs : List A) (a b : Bool) → q x ≡ b → p x ≡ a → filter (λ y. p y && q y) xs ≡ filter p (filter q xs)
    → cond (a && b) (x ∷ filter (λ y. p y && q y) xs) (filter (λ y. p y && q y) xs) ≡ filter p (cond b (x ∷ filter q xs) (filter q xs))
both_step p q x xs true true e f h = ap (λ ys. x ∷ ys) h ∙ ap (λ c. cond c (x ∷ filter p (filter q xs)) (filter p (filter q xs))) (sym f)
both_step p q x xs false true e f h = h ∙ ap (λ c. cond c (x ∷ filter p (filter q xs)) (filter p (filter q xs))) (sym f)
both_step p q x xs true false e f h = h
both_step p q x xs false false e f h = h

filter-both : {A : Type 0} (p q : A → Bool) (xs : List A) → filter (λ y. p y && q y) xs ≡ filter p (filter q xs)
filter-both p q [] = refl
filter-both p q (x ∷ xs) = both_step p q x xs (p x) (q x) refl refl (filter-both p q xs)

-- the kept items are those that last and are kept
pub kept_cut : (cut : Cut) (keeps : LedgerItem → Bool) (l : LedgerFields) → filter (λ i. keeps i && is_kept_item cut i) l.items ≡ kept keeps (ledger_cut cut l)
unfolding ledger_cut
kept_cut cut keeps l = filter-both keeps (is_kept_item cut) l.items

and-swap : (a b : Bool) → (a && b) ≡ (b && a)
and-swap true true = refl
and-swap true false = refl
and-swap false true = refl
and-swap false false = refl

-- Of the items that last, those that are kept.
pub other_kept : (cut : Cut) (keeps : LedgerItem → Bool) (l : LedgerFields) → kept keeps (ledger_cut cut l) ≡ filter (is_kept_item cut) (kept keeps l)
other_kept cut keeps l =
    sym (kept_cut cut keeps l) ∙ (λ i. filter (λ x. and-swap (keeps x) (is_kept_item cut x) i) l.items) ∙ filter-both (is_kept_item cut) keeps l.items

-- each item is left out, or stays
pub left_and_others : (cut : Cut) (l : LedgerFields) → count_left cut l + length (ledger_cut cut l).items ≡ length l.items
unfolding ledger_cut
left_and_others cut l =
    omega (
      arith,
      length-filter_both (is_kept_item cut) (λ i. not (is_kept_item cut i)) (λ i. refl) l.items,
      length-filter (λ (i : LedgerItem). not (is_kept_item cut i)) l.items,
    )

-- ---- its facts

shorter : {A : Type 0} (p : A → Bool) (xs : List A) → length (filter p xs) ≤ length xs
shorter p xs = omega (arith, length-filter p xs, count_by-le-length p xs)

continues_cut : (cut : Cut) (previous : Option LedgerPartFields) (p : LedgerPartFields) → Continues previous p
    → Continues (option_map (part_cut cut) previous) (part_cut cut p)
continues_cut cut None p c = tt
continues_cut cut (Some q) p c = c

parts_linked : (cut : Cut) (previous : Option LedgerPartFields) (ps : List LedgerPartFields) → Linked IsPartAfter (λ before p. Some p) previous ps
    → Linked IsPartAfter (λ before p. Some p) (option_map (part_cut cut) previous) (map (part_cut cut) ps)
parts_linked cut previous [] l = tt
parts_linked cut previous (p ∷ ps) l = (
  record {
    continues = continues_cut cut previous p l.0.continues;
    ranges = l.0.ranges;
    few_issuers = omega (arith, shorter cut.takes p.issuers, l.0.few_issuers);
    issuers_ascend = IsStrictlySortedBy-filter octets_cmp cut.takes p.issuers l.0.issuers_ascend;
  },
  parts_linked cut (Some p) ps l.1,
)

-- It keeps the facts of a ledger.
pub IsLedger-cut : (cut : Cut) (l : LedgerFields) → IsLedger l → IsLedger (ledger_cut cut l)
unfolding ledger_cut
IsLedger-cut cut l h = record {
  some_parts = omega (arith, length-map l.parts (part_cut cut), h.some_parts);
  few_parts = omega (arith, length-map l.parts (part_cut cut), h.few_parts);
  parts = parts_linked cut None l.parts h.parts;
  few_items = omega (arith, shorter (is_kept_item cut) l.items, h.few_items);
  items_ascend = sorted_kept (is_kept_item cut) l.items h.items_ascend;
  items = subst (λ n. All (IsItemOf n) (filter (is_kept_item cut) l.items)) (sym (length-map l.parts (part_cut cut))) (All-filter (is_kept_item cut) (IsItemOf (length l.parts)) l.items h.items);
}
