-- A rebase of a history's ledger makes what the history's base makes.
use Rattle.std.specs.List.{filter, flat_map}
use Rattle.std.specs.Option.{option_map}
use Rattle.std.specs.Prelude.{is_some}
use Rattle.std.proofs.Common.{◌≡◌, ℕ, List, [], ◌∷◌, ◌++◌, map, Bool, true, false, cond, not, ◌&&◌, ◌+◌, Option, Some, None, refl, sym, ap, ◌∙◌}
use Rattle.ident_core.specs.declared.identity.Identity.{Identity}
use Rattle.ident_core.specs.declared.kind.Kind.TheVariants as kinds
use Rattle.ident_core.specs.HeadFields.{zero_key}
use Rattle.ledger_core.specs.LedgerFields.{LedgerPartFields, ids, newest}
use Rattle.ledger_core.specs.declared.fields.LedgerItem.{LedgerItem}
use Rattle.ident_core.specs.Sets.{has, key_set}
use Rattle.ident_core.proofs.Elements.{map_agree}
use Rattle.ident_core.proofs.Sets.{has-from_Among}
use Rattle.universe_core.specs.History.{Release, accepted_by, is_listed, birth}
use Rattle.universe_core.specs.Ledgers.{later, last, last_place, item_from, part_from, ledger_of}
use Rattle.universe_core.specs.Groups.{groups}
use Rattle.universe_core.specs.Rebases.{epoch_by, ranges_by, group_among, rebased_head, rebased_groups, rebased_item, rebased_part, rebased_ledger}
use Rattle.universe_core.proofs.Revoking.{map_map}
use Rattle.history_core.specs.Facts.{IsSound}
use Rattle.history_core.specs.Bases.{newest_ranges, newest_epoch, kept_by, base_with, base_head}
use Rattle.history_core.proofs.Kept.{until_kept}
use Rattle.history_core.proofs.Words.{has-filter, last_for_listed}

-- ---- the part

ranges_behind : (r : Release) (rs : List Release) → ranges_by (newest (part_from r ∷ map part_from rs)) ≡ newest_ranges r.ranges rs
unfolding newest_ranges
ranges_behind r [] = refl
ranges_behind r (q ∷ rs) = ranges_behind q rs

ranges_same : (rs : List Release) → ranges_by (newest (map part_from rs)) ≡ newest_ranges [] rs
unfolding newest_ranges
ranges_same [] = refl
ranges_same (r ∷ rs) = ranges_behind r rs

epoch_behind : (r : Release) (rs : List Release) → epoch_by (newest (part_from r ∷ map part_from rs)) ≡ newest_epoch r.epoch rs
unfolding newest_epoch
epoch_behind r [] = refl
epoch_behind r (q ∷ rs) = epoch_behind q rs

epoch_same : (rs : List Release) → epoch_by (newest (map part_from rs)) ≡ newest_epoch 0 rs
unfolding newest_epoch
epoch_same [] = refl
epoch_same (r ∷ rs) = epoch_behind r rs

pub issuers_same : (rs : List Release) → flat_map (λ (p : LedgerPartFields). p.issuers) (map part_from rs) ≡ flat_map (λ (r : Release). r.issuers) rs
issuers_same [] = refl
issuers_same (r ∷ rs) = ap (λ ks. r.issuers ++ ks) (issuers_same rs)

-- The head of the part is that of the base.
pub head_same : (rs : List Release) → rebased_head (ledger_of rs).parts ≡ base_head rs
unfolding ledger_of
head_same rs = λ i. record { kind = kinds.Snapshot; epoch = epoch_same rs i; parent = zero_key; ranges = ranges_same rs i }

-- ---- the items

filter_step : (p : LedgerItem → Bool) (rs : List Release) (x : Identity) (xs : List Identity) (b : Bool)
    → filter p (map (item_from rs) xs) ≡ map (item_from rs) (filter (λ x. p (item_from rs x)) xs)
    → cond b (item_from rs x ∷ filter p (map (item_from rs) xs)) (filter p (map (item_from rs) xs))
    ≡ map (item_from rs) (cond b (x ∷ filter (λ x. p (item_from rs x)) xs) (filter (λ x. p (item_from rs x)) xs))
filter_step p rs x xs true e = ap (λ is. item_from rs x ∷ is) e
filter_step p rs x xs false e = e

pub filter_items : (p : LedgerItem → Bool) (rs : List Release) (xs : List Identity) → filter p (map (item_from rs) xs) ≡ map (item_from rs) (filter (λ x. p (item_from rs x)) xs)
filter_items p rs [] = refl
filter_items p rs (x ∷ xs) = filter_step p rs x xs (p (item_from rs x)) (filter_items p rs xs)

birth_base : (x : Identity) (r : Release) → has r.accepted x ≡ true → 0 ≡ birth x (r ∷ [])
unfolding birth
birth_base x r h = ap (λ b. cond (not b) (1 + 0) 0) (sym h)

later_base : (b : Bool) → cond b (Some 0) None ≡ later None b
later_base true = refl
later_base false = refl

last_base : (x : Identity) (r : Release) → cond (has r.revoked x) (Some 0) None ≡ last x (r ∷ [])
unfolding last last_place
last_base x r = later_base (has r.revoked x)

first_if : (o : Option ℕ) → option_map {U = ℕ} (λ r. 0) o ≡ cond (is_some o) (Some 0) None
first_if None = refl
first_if (Some r) = refl

and-true : (a b : Bool) → b ≡ true → a ≡ (a && b)
and-true true true h = refl
and-true true false h = sym h
and-true false b h = refl

module _ (keeps_item : LedgerItem → Bool) (rs : List Release) (trailer : List ℕ) (sound : IsSound rs) where
  abbrev keeps : Identity → Bool
  keeps x = keeps_item (item_from rs x)

  revoked_base : (x : Identity) → has (kept_by keeps rs) x ≡ true → is_some (last x rs) ≡ has (base_with keeps rs trailer).revoked x
  unfolding base_with
  revoked_base x h = last_for_listed rs x sound ∙ and-true (is_listed rs x) (has (kept_by keeps rs) x) h ∙ sym (has-filter (is_listed rs) (kept_by keeps rs) x)

  accepted_base : (x : Identity) → has (kept_by keeps rs) x ≡ true → has (base_with keeps rs trailer).accepted x ≡ true
  unfolding base_with
  accepted_base x h = h

  item_same : (x : Identity) → has (kept_by keeps rs) x ≡ true → rebased_item (item_from rs x) ≡ item_from (base_with keeps rs trailer ∷ []) x
  item_same x h = λ i. record {
    id = x;
    birth = birth_base x (base_with keeps rs trailer) (accepted_base x h) i;
    last = (first_if (last x rs) ∙ ap (λ b. cond b (Some 0) None) (revoked_base x h) ∙ last_base x (base_with keeps rs trailer)) i;
    until = sym (until_kept keeps rs trailer x h) i;
  }

  items_same : map rebased_item (filter keeps_item (map (item_from rs) (accepted_by [] rs))) ≡ map (item_from (base_with keeps rs trailer ∷ [])) (kept_by keeps rs)
  items_same =
      ap (map rebased_item) (filter_items keeps_item rs (accepted_by [] rs))
      ∙ map_map (item_from rs) rebased_item (kept_by keeps rs)
      ∙ map_agree (λ x. rebased_item (item_from rs x)) (item_from (base_with keeps rs trailer ∷ [])) (kept_by keeps rs) (λ x a. item_same x (has-from_Among (kept_by keeps rs) x a))

  part_same : rebased_part (map part_from rs) trailer ≡ part_from (base_with keeps rs trailer)
  unfolding base_with
  part_same = λ i. record { epoch = epoch_same rs i; trailer = trailer; ranges = ranges_same rs i; issuers = key_set (issuers_same rs i) }

  kept_items : map (item_from (base_with keeps rs trailer ∷ [])) (kept_by keeps rs)
      ≡ map (item_from (base_with keeps rs trailer ∷ [])) (accepted_by [] (base_with keeps rs trailer ∷ []))
  unfolding base_with accepted_by
  kept_items = refl

  -- The ledger is that of the base.
  pub ledger_same : rebased_ledger keeps_item (ledger_of rs) trailer ≡ ledger_of (base_with keeps rs trailer ∷ [])
  unfolding ledger_of
  ledger_same = λ i. record { parts = part_same i ∷ []; items = (items_same ∙ kept_items) i }

-- ---- the groups

filter_agree : (p q : Identity → Bool) (xs : List Identity) → ((x : Identity) → p x ≡ q x) → filter p xs ≡ filter q xs
filter_agree p q [] h = refl
filter_agree p q (x ∷ xs) h = λ i. cond (h x i) (x ∷ filter_agree p q xs h i) (filter_agree p q xs h i)

ids_of_items : (rs : List Release) (xs : List Identity) → ids (map (item_from rs) xs) ≡ xs
ids_of_items rs [] = refl
ids_of_items rs (x ∷ xs) = ap (λ ys. x ∷ ys) (ids_of_items rs xs)

module _ (keeps_item : LedgerItem → Bool) (rs : List Release) (trailer : List ℕ) (sound : IsSound rs) where
  abbrev kept_ids : List Identity
  kept_ids = filter (λ x. keeps_item (item_from rs x)) (accepted_by [] rs)

  pub accepted_same : ids (filter keeps_item (map (item_from rs) (accepted_by [] rs))) ≡ kept_ids
  accepted_same = ap ids (filter_items keeps_item rs (accepted_by [] rs)) ∙ ids_of_items rs kept_ids

  pub revoked_same : ids (filter (λ (i : LedgerItem). is_some i.last) (filter keeps_item (map (item_from rs) (accepted_by [] rs)))) ≡ filter (is_listed rs) kept_ids
  revoked_same =
      ap (λ is. ids (filter (λ (i : LedgerItem). is_some i.last) is)) (filter_items keeps_item rs (accepted_by [] rs))
      ∙ ap ids (filter_items (λ i. is_some i.last) rs kept_ids)
      ∙ ids_of_items rs (filter (λ x. is_some (last x rs)) kept_ids)
      ∙ filter_agree (λ x. is_some (last x rs)) (is_listed rs) kept_ids (λ x. last_for_listed rs x sound)

  -- The groups are those of the base.
  pub groups_same : rebased_groups keeps_item (ledger_of rs) ≡ groups (base_with (λ x. keeps_item (item_from rs x)) rs trailer)
  unfolding groups rebased_groups base_with ledger_of
  groups_same = λ i. map (group_among (accepted_same i) (revoked_same i)) (key_set (issuers_same rs i))
