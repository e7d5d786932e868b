-- Items that are kept, and which of them have a last.
use Rattle.std.specs.List.{filter}
use Rattle.std.specs.List.Sorted.{IsStrictlySortedBy}
use Rattle.std.specs.Option.{option_map}
use Rattle.std.specs.Prelude.{is_some}
use Rattle.std.specs.declared.cmp.Ordering.TheVariants.{Less}
use Rattle.std.proofs.Common.{◌≡◌, ℕ, inl, inr, List, [], ◌∷◌, map, Bool, true, false, cond, Option, Some, None, refl, sym, ap, ◌∙◌, subst}
use Rattle.ident_core.specs.Order.{identity_cmp}
use Rattle.ledger_core.specs.LedgerFields.{ids}
use Rattle.ledger_core.specs.declared.fields.LedgerItem.{LedgerItem}
use Rattle.ident_core.specs.Among.{Among}
use Rattle.ident_core.specs.Sets.{has}
use Rattle.ident_core.proofs.Canonical.{sorted_cons}
use Rattle.ident_core.proofs.Elements.{Among-filter, Among-in_filter, Among-map, Among-in_map, bool_same, map_agree}
use Rattle.ident_core.proofs.Keys.{less_other}
use Rattle.ident_core.proofs.Order.{sorted_head, sorted_tail}
use Rattle.ident_core.proofs.Sets.{Among-from_has, has-from_Among}
use Rattle.universe_core.specs.Rebases.{rebased_item}

-- ---- their order

sorted_step : (p : LedgerItem → Bool) (x : LedgerItem) (xs : List LedgerItem) (b : Bool) → IsStrictlySortedBy identity_cmp (x.id ∷ ids (filter p xs))
    → IsStrictlySortedBy identity_cmp (ids (filter p xs)) → IsStrictlySortedBy identity_cmp (ids (cond b (x ∷ filter p xs) (filter p xs)))
sorted_step p x xs true a s = a
sorted_step p x xs false a s = s

-- items that are kept ascend as all do
pub sorted_kept : (p : LedgerItem → Bool) (xs : List LedgerItem) → IsStrictlySortedBy identity_cmp (ids xs) → IsStrictlySortedBy identity_cmp (ids (filter p xs))
sorted_kept p [] s = s
sorted_kept p (x ∷ xs) s =
    let rest = sorted_kept p xs (sorted_tail identity_cmp x.id (ids xs) s) in
    sorted_step p x xs (p x)
    (sorted_cons identity_cmp x.id (ids (filter p xs))
    (λ y a.
    let m = Among-map (λ (i : LedgerItem). i.id) (filter p xs) y a in
    let f = Among-filter p xs m.0 m.1 in
    subst (λ z. identity_cmp x.id z ≡ Less) m.2 (sorted_head identity_cmp x.id (ids xs) m.0.id s (Among-in_map (λ (i : LedgerItem). i.id) xs m.0 f.0)))
    rest)
    rest

pub ids_rebased : (xs : List LedgerItem) → ids (map rebased_item xs) ≡ ids xs
ids_rebased [] = refl
ids_rebased (x ∷ xs) = ap (λ is. x.id ∷ is) (ids_rebased xs)

-- ---- those that have a last

abbrev has_last : LedgerItem → Bool
has_last i = is_some i.last

-- an ascending list has one item of an identity
one_item : (xs : List LedgerItem) (i j : LedgerItem) → IsStrictlySortedBy identity_cmp (ids xs) → Among xs i → Among xs j → j.id ≡ i.id → j ≡ i
one_item [] i j s a b e = absurd a
one_item (x ∷ xs) i j s (inl a) (inl b) e = sym b ∙ a
one_item (x ∷ xs) i j s (inl a) (inr b) e =
    absurd (less_other x.id j.id (sorted_head identity_cmp x.id (ids xs) j.id s (Among-in_map (λ (k : LedgerItem). k.id) xs j b)) (ap (λ (k : LedgerItem). k.id) a ∙ sym e))
one_item (x ∷ xs) i j s (inr a) (inl b) e =
    absurd (less_other x.id i.id (sorted_head identity_cmp x.id (ids xs) i.id s (Among-in_map (λ (k : LedgerItem). k.id) xs i a)) (ap (λ (k : LedgerItem). k.id) b ∙ e))
one_item (x ∷ xs) i j s (inr a) (inr b) e = one_item xs i j (sorted_tail identity_cmp x.id (ids xs) s) a b e

flag_is : (xs : List LedgerItem) (i : LedgerItem) → IsStrictlySortedBy identity_cmp (ids xs) → Among xs i → is_some i.last ≡ has (ids (filter has_last xs)) i.id
flag_is xs i s a =
    bool_same (is_some i.last) (has (ids (filter has_last xs)) i.id)
    (λ h. has-from_Among (ids (filter has_last xs)) i.id (Among-in_map (λ (k : LedgerItem). k.id) (filter has_last xs) i (Among-in_filter has_last xs i a h)))
    (λ h.
    let m = Among-map (λ (k : LedgerItem). k.id) (filter has_last xs) i.id (Among-from_has (ids (filter has_last xs)) i.id h) in
    let f = Among-filter has_last xs m.0 m.1 in
    ap (λ (k : LedgerItem). is_some k.last) (sym (one_item xs i m.0 s a f.0 m.2)) ∙ f.1)

mapped : {A B C : Type 0} (f : B → C) (g : A → B) (xs : List A) → map (λ x. f (g x)) xs ≡ map f (map g xs)
mapped f g [] = refl
mapped f g (x ∷ xs) = ap (λ ys. f (g x) ∷ ys) (mapped f g xs)

-- the flags of the items say of their identities which of them have a last
pub flags_are : (xs : List LedgerItem) → IsStrictlySortedBy identity_cmp (ids xs) → map (λ i. is_some i.last) xs ≡ map (has (ids (filter (λ i. is_some i.last) xs))) (ids xs)
flags_are xs s =
    map_agree has_last (λ i. has (ids (filter has_last xs)) i.id) xs (λ i a. flag_is xs i s a) ∙ mapped (has (ids (filter has_last xs))) (λ (i : LedgerItem). i.id) xs

some_rebased : (o : Option ℕ) → is_some (option_map {U = ℕ} (λ r. 0) o) ≡ is_some o
some_rebased None = refl
some_rebased (Some r) = refl

lasts_step : (x : LedgerItem) (new old : List LedgerItem) (b : Bool) → ids new ≡ ids old → ids (cond b (rebased_item x ∷ new) new) ≡ ids (cond b (x ∷ old) old)
lasts_step x new old true e = ap (λ is. x.id ∷ is) e
lasts_step x new old false e = e

-- a rebased item has a last where it had one
pub lasts_rebased : (xs : List LedgerItem) → ids (filter (λ i. is_some i.last) (map rebased_item xs)) ≡ ids (filter (λ i. is_some i.last) xs)
lasts_rebased [] = refl
lasts_rebased (x ∷ xs) =
    ap (λ b. ids (cond b (rebased_item x ∷ filter has_last (map rebased_item xs)) (filter has_last (map rebased_item xs)))) (some_rebased x.last)
    ∙ lasts_step x (filter has_last (map rebased_item xs)) (filter has_last xs) (is_some x.last) (lasts_rebased xs)
