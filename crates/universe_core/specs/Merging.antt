-- Items of a ledger and entries of a job, merged.
use Rattle.std.specs.Prelude.{◌≡◌, ℕ, Bool, List, [], ◌∷◌, ◌++◌, map, filter, filter_map, find, false, cond, Option, Some, None}
use Rattle.std.specs.List.{AllByRecursion, count_by}
use Rattle.std.specs.Ordering.{is_lt, is_gt}
use Rattle.ident_core.specs.declared.identity.Identity.{Identity}
use Rattle.ident_core.specs.Order.{is_same, identity_cmp}
use Rattle.ident_core.specs.Sets.{identity_set}
use Rattle.ledger_core.specs.declared.fields.LedgerItem.{LedgerItem}
use Rattle.universe_core.specs.Jobs.{Entry}

-- no entry is above a later one
abbrev pub IsRising : List Entry → Type 0
IsRising [] = Unit {0}
IsRising (e ∷ es) = AllByRecursion (λ d. is_gt (identity_cmp e.id d.id) ≡ false) es × IsRising es

abbrev pub lower : Identity → Identity → Identity
lower x y = cond (is_lt (identity_cmp x y)) x y

-- the least identity of both
abbrev pub least_of : List LedgerItem → List Entry → Option Identity
least_of [] [] = None
least_of (i ∷ is) [] = Some i.id
least_of [] (e ∷ es) = Some e.id
least_of (i ∷ is) (e ∷ es) = Some (lower i.id e.id)

-- the first entries, of one identity
abbrev pub run_of : Identity → List Entry → List Entry
run_of x [] = []
run_of x (e ∷ es) = cond (is_same x e.id) (e ∷ run_of x es) []

abbrev pub after_run : Identity → List Entry → List Entry
after_run x [] = []
after_run x (e ∷ es) = cond (is_same x e.id) (after_run x es) (e ∷ es)

-- the first item, if it is the identity's
abbrev pub first_of : Identity → List LedgerItem → Option LedgerItem
first_of x [] = None
first_of x (i ∷ is) = cond (is_same x i.id) (Some i) None

abbrev pub after_first : Identity → List LedgerItem → List LedgerItem
after_first x [] = []
after_first x (i ∷ is) = cond (is_same x i.id) is (i ∷ is)

-- how many of the entries pass a test that is told the item of each one's identity
abbrev pub count_told : (Option LedgerItem → Entry → Bool) → List LedgerItem → List Entry → ℕ
count_told test items entries = count_by (λ e. test (find (λ (i : LedgerItem). is_same e.id i.id) items) e) entries

-- the identities of items and entries
abbrev pub all_ids : List LedgerItem → List Entry → List Identity
all_ids items entries = identity_set (map (λ (e : Entry). e.id) entries ++ map (λ (i : LedgerItem). i.id) items)

-- what a judge makes of the identities of both, each from its item and its entries
unfoldable pub merged : {M : Type 0} → (Identity → Option LedgerItem → List Entry → Option M) → List LedgerItem → List Entry → List M
merged judge items entries =
    filter_map
    (λ x. judge x (find (λ (i : LedgerItem). is_same x i.id) items) (filter (λ (e : Entry). is_same x e.id) entries))
    (all_ids items entries)
