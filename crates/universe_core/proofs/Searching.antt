-- A binary search by identity.
use Rattle.std.specs.List.{slice_get, find}
use Rattle.std.specs.List.Sorted.{IsStrictlySortedBy, IsBinarySearchResult}
use Rattle.std.specs.declared.cmp.Ordering.TheVariants.{Equal}
use Rattle.std.proofs.Common.{◌≡◌, ℕ, zero, suc, ◌<◌, ◌||◌, List, [], ◌∷◌, map, length, get_or, Bool, true, false, cond, Option, None, Some, Err, refl, sym, subst}
use Rattle.std.proofs.lemmas.Bool.{true≢false}
use Rattle.ident_core.specs.declared.identity.Identity.{Identity}
use Rattle.ident_core.specs.Order.{is_same, identity_cmp}
use Rattle.ledger_core.specs.declared.fields.LedgerItem.{LedgerItem}
use Rattle.ledger_core.specs.LedgerFields.{ids}
use Rattle.ident_core.specs.Sets.{has}
use Rattle.ident_core.proofs.Elements.{Among-from_place, some_item}
use Rattle.ident_core.proofs.Order.{sorted_head, sorted_tail}
use Rattle.ident_core.proofs.Sets.{identity_total, identity_exact, same_refl}
use Rattle.ident_core.proofs.Keyed as keyed
use Rattle.ident_core.proofs.Keys.{has_none, same_other, less_other}

abbrev pub bare_item : Identity → LedgerItem
bare_item x = record { id = x; birth = 0; last = None; until = None }

-- a search among what has identities
module _ {A : Type 0} (key : A → Identity) (make : Identity → A) (back : (x : Identity) → key (make x) ≡ x) where
  pub found : (ms : List A) (x : Identity) (i : ℕ) → i < length ms → ((d : A) → identity_cmp (key (get_or ms i d)) x ≡ Equal) → slice_get (map key ms) i ≡ Some x
  found = keyed.found identity_cmp identity_total identity_exact key make back

  pub missed : (ms : List A) (x : Identity) (i : ℕ) → IsStrictlySortedBy identity_cmp (map key ms) → IsBinarySearchResult (λ (m : A). identity_cmp (key m) x) ms (Err i) → has (map key ms) x ≡ false
  missed ms x i s h = has_none (map key ms) x (keyed.missed identity_cmp identity_total identity_exact key make back ms x i s h)

-- ---- the item at a place

pub find_at : (xs : List LedgerItem) (x : Identity) (i : ℕ) → IsStrictlySortedBy identity_cmp (ids xs) → slice_get (ids xs) i ≡ Some x → slice_get xs i ≡ find (λ (j : LedgerItem). is_same x j.id) xs
find_at [] x i s h = absurd cc
find_at (y ∷ xs) x zero s h =
    let t : is_same x y.id ≡ true = subst (λ z. is_same x z ≡ true) (sym (some_item y.id x h)) (same_refl x) in
    rw t refl
find_at (y ∷ xs) x (suc i) s h =
    let f : is_same x y.id ≡ false = same_other x y.id (λ q. less_other y.id x (sorted_head identity_cmp y.id (ids xs) x s (Among-from_place (ids xs) i x h)) (sym q)) in
    rw f (find_at xs x i (sorted_tail identity_cmp y.id (ids xs) s) h)

none_step : (b r : Bool) (y : LedgerItem) (o : Option LedgerItem) → (b || r) ≡ false → (r ≡ false → None ≡ o) → None ≡ cond b (Some y) o
none_step true r y o h k = absurd (true≢false h)
none_step false r y o h k = k h

pub find_none : (xs : List LedgerItem) (x : Identity) → has (ids xs) x ≡ false → None ≡ find (λ (j : LedgerItem). is_same x j.id) xs
find_none [] x h = refl
find_none (y ∷ xs) x h = none_step (is_same x y.id) (has (ids xs) x) y (find (λ (j : LedgerItem). is_same x j.id) xs) h (find_none xs x)
