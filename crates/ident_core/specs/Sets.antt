-- Sets of keys and of identities: ascending lists without repeats.
use Rattle.std.specs.Prelude.{ℕ, List, [], ◌∷◌, Bool}
use Rattle.std.specs.List.{list_any}
use Rattle.std.specs.Str.{bytes_eq}
use Rattle.std.specs.declared.cmp.Ordering.{Ordering}
use Rattle.std.specs.BTreeSet.{insert_key}
use Rattle.ident_core.specs.declared.identity.Identity.{Identity}
use Rattle.ident_core.specs.Order.{is_same, octets_cmp, identity_cmp}

-- the identity is in the list
abbrev pub has : List Identity → Identity → Bool
has xs x = list_any (is_same x) xs

-- the key is in the list
abbrev pub has_key : List (List ℕ) → List ℕ → Bool
has_key keys k = list_any (bytes_eq k) keys

-- The set of a list. `sets_are_canonical` says that it is the one list s with IsSetOf cmp xs s.
unfoldable pub set_with : {K : Type 0} → (K → K → Ordering) → List K → List K
set_with cmp [] = []
set_with cmp (x ∷ xs) = insert_key cmp (set_with cmp xs) x

-- the set of these identities
abbrev pub identity_set : List Identity → List Identity
identity_set xs = set_with identity_cmp xs

-- the set of these keys
abbrev pub key_set : List (List ℕ) → List (List ℕ)
key_set keys = set_with octets_cmp keys
