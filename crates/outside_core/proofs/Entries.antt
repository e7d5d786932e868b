-- What a change of the entries is as a change of the files.
use Rattle.std.proofs.Common.{◌≡◌, ℕ, zero, suc, ◌<◌, Bool, List, [], ◌∷◌, ◌++◌, true, false, cond, map, length, Option, Some, None, refl, sym, ap, ◌∙◌, arith}
use Rattle.std.proofs.Common.{nat_lt, is_some, not, ◌≤◌, unwrap_or, Vec, Global}
use Rattle.std.proofs.Math.ListN.{set, get_or}
use Rattle.std.specs.List.{position_or_len}
use Rattle.std.proofs.lemmas.List.Sums.{prefix_len_passes}
use Rattle.std.proofs.lemmas.List.Quantifiers.{position-Some}
use Rattle.std.specs.Ordering.{nat_cmp}
use Rattle.std.specs.Cmp.Lexicographic.{slice_cmp, nat_list_cmp_total}
use Rattle.std.specs.FinMap.{find, get, insert, get-insert, get-from_entries, same_map, slice_cmp-IsAntisymmetric, nat_cmp-IsAntisymmetric}
use Rattle.std.specs.String.{string_bytes}
use Rattle.std.specs.Str.{bytes_eq}
use Rattle.std.proofs.lemmas.Map.Text.{is_eq-slice_cmp}
use Rattle.std.proofs.lemmas.Slice.Eq.{bytes_eq-Decides}
use Rattle.outside_core.specs.declared.memory.entries.Entry.{Entry}
use Rattle.outside_core.specs.Files.{held}
use Rattle.outside_core.specs.Entries.{pair_of, files_of, place_of}
use Rattle.outside_core.proofs.Files.{not_true, hidden, insert-held}

-- what the first entry of a name holds
abbrev pub look : List ℕ → List Entry → Option (List ℕ)
look q [] = None
look q (e ∷ es) = cond (bytes_eq q (string_bytes e.name)) (Some e.bytes.items) (look q es)

find-look : (q : List ℕ) (es : List Entry) → find (slice_cmp nat_cmp) q (map pair_of es) ≡ look q es
find-look q [] = refl
find-look q (e ∷ es) =
    ap (λ t. cond t (Some e.bytes.items) (find (slice_cmp nat_cmp) q (map pair_of es))) (is_eq-slice_cmp q (string_bytes e.name))
    ∙ ap (cond (bytes_eq q (string_bytes e.name)) (Some e.bytes.items)) (find-look q es)

-- what the files of some entries hold at a name
pub get-files_of : (es : List Entry) (q : List ℕ) → get (files_of es) q ≡ look q es
get-files_of es q = get-from_entries nat_list_cmp_total (map pair_of es) q ∙ find-look q es

-- the entries whose look-ups are those after a write stand for the files after it
pub files_of-insert : (es fs : List Entry) (name bytes : List ℕ) → ((q : List ℕ) → look q fs ≡ cond (bytes_eq q name) (Some bytes) (look q es)) → files_of fs ≡ insert (files_of es) name bytes
files_of-insert es fs name bytes is = same_map nat_list_cmp_total (slice_cmp-IsAntisymmetric nat_cmp-IsAntisymmetric) _ _ (λ q.
    get-files_of fs q ∙ is q
    ∙ ap (λ o. cond (bytes_eq q name) (Some bytes) o) (sym (get-files_of es q))
    ∙ ap (λ t. cond t (Some bytes) (get (files_of es) q)) (sym (is_eq-slice_cmp q name))
    ∙ sym (get-insert nat_list_cmp_total (files_of es) name bytes q))

swapped : {A : Type 0} (t u : Bool) (x y z : A) → (t ≡ true → u ≡ true → ⊥) → cond t x (cond u y z) ≡ cond u y (cond t x z)
swapped true true x y z h = absurd (h refl refl)
swapped true false x y z h = refl
swapped false u x y z h = refl

-- the test of an entry
abbrev pub is_at : List ℕ → Entry → Bool
is_at name e = bytes_eq (string_bytes e.name) name

-- no text is two
apart : (q a b : List ℕ) → bytes_eq a b ≡ false → bytes_eq q a ≡ true → bytes_eq q b ≡ true → ⊥
apart q a b differ p r =
    let ea : q ≡ a = (bytes_eq-Decides q a).0 p in
    let eb : q ≡ b = (bytes_eq-Decides q b).0 r in
    let yes : bytes_eq a b ≡ true = (bytes_eq-Decides a b).1 (sym ea ∙ eb) in
    cc

-- an entry of the name in the place of the first
pub look-set : (name : List ℕ) (new : Entry) → string_bytes new.name ≡ name
    → (es : List Entry) (i : ℕ) (d : Entry) → i < length es → is_at name (get_or es i d) ≡ true
    → ((k : ℕ) → k < i → is_at name (get_or es k d) ≡ false)
    → (q : List ℕ) → look q (set es i new) ≡ cond (bytes_eq q name) (Some new.bytes.items) (look q es)
look-set name new e [] i d h at before q = absurd (omega arith)
look-set name new e (x ∷ es) zero d h at before q =
    let same : string_bytes x.name ≡ name = (bytes_eq-Decides (string_bytes x.name) name).0 at in
    ap (λ n. cond (bytes_eq q n) (Some new.bytes.items) (look q es)) e
    ∙ hidden (bytes_eq q name) (Some new.bytes.items) (Some x.bytes.items) (look q es)
    ∙ ap (λ n. cond (bytes_eq q name) (Some new.bytes.items) (cond (bytes_eq q n) (Some x.bytes.items) (look q es))) (sym same)
look-set name new e (x ∷ es) (suc i) d h at before q =
    ap (cond (bytes_eq q (string_bytes x.name)) (Some x.bytes.items)) (look-set name new e es i d (omega arith) at (λ k lt. before (suc k) (omega arith)) q)
    ∙ swapped (bytes_eq q (string_bytes x.name)) (bytes_eq q name) (Some x.bytes.items) (Some new.bytes.items) (look q es) (apart q (string_bytes x.name) name (before 0 (omega arith)))

-- an entry of a name that isn't held behind the others
pub look-push : (name : List ℕ) (new : Entry) → string_bytes new.name ≡ name
    → (es : List Entry) (d : Entry) → ((k : ℕ) → k < length es → is_at name (get_or es k d) ≡ false)
    → (q : List ℕ) → look q (es ++ new ∷ []) ≡ cond (bytes_eq q name) (Some new.bytes.items) (look q es)
look-push name new e [] d none q = ap (λ n. cond (bytes_eq q n) (Some new.bytes.items) None) e
look-push name new e (x ∷ es) d none q =
    ap (cond (bytes_eq q (string_bytes x.name)) (Some x.bytes.items)) (look-push name new e es d (λ k lt. none (suc k) (omega arith)) q)
    ∙ swapped (bytes_eq q (string_bytes x.name)) (bytes_eq q name) (Some x.bytes.items) (Some new.bytes.items) (look q es) (apart q (string_bytes x.name) name (none 0 (omega arith)))

other_way : (a b : List ℕ) → bytes_eq a b ≡ false → bytes_eq b a ≡ false
other_way a b differ = not_true (bytes_eq b a) (λ e.
    let same : b ≡ a = (bytes_eq-Decides b a).0 e in
    let yes : bytes_eq a b ≡ true = (bytes_eq-Decides a b).1 (sym same) in cc)

-- what is held is what the first entry of the name holds
pub look-at : (name : List ℕ) (es : List Entry) (i : ℕ) (d : Entry) → i < length es → is_at name (get_or es i d) ≡ true
    → ((k : ℕ) → k < i → is_at name (get_or es k d) ≡ false) → look name es ≡ Some (get_or es i d).bytes.items
look-at name [] i d h at before = absurd (omega arith)
look-at name (x ∷ es) zero d h at before =
    let same : string_bytes x.name ≡ name = (bytes_eq-Decides (string_bytes x.name) name).0 at in
    ap (λ t. cond t (Some x.bytes.items) (look name es)) ((bytes_eq-Decides name (string_bytes x.name)).1 (sym same))
look-at name (x ∷ es) (suc i) d h at before =
    ap (λ t. cond t (Some x.bytes.items) (look name es)) (other_way (string_bytes x.name) name (before 0 (omega arith)))
    ∙ look-at name es i d (omega arith) at (λ k lt. before (suc k) (omega arith))

-- nothing is held where no entry has the name
pub look-none : (name : List ℕ) (es : List Entry) (d : Entry) → ((k : ℕ) → k < length es → is_at name (get_or es k d) ≡ false) → look name es ≡ None
look-none name [] d none = refl
look-none name (x ∷ es) d none =
    ap (λ t. cond t (Some x.bytes.items) (look name es)) (other_way (string_bytes x.name) name (none 0 (omega arith)))
    ∙ look-none name es d (λ k lt. none (suc k) (omega arith))

none_at : {X : Type 0} (p : X → Bool) (xs : List X) (n : ℕ) → n ≡ position_or_len p xs → cond (nat_lt n (length xs)) (Some n) None ≡ None → length xs ≤ n
none_at p xs n e is = grind arith

-- where the search finds nothing, no entry has the name
pub place_of-None : (name : List ℕ) (es : List Entry) (d : Entry) → place_of es name ≡ None → (k : ℕ) → k < length es → is_at name (get_or es k d) ≡ false
place_of-None name es d is k lt =
    not-false _ (prefix_len_passes (λ x. not (is_at name x)) es k d (omega (arith, none_at (is_at name) es _ refl is)))
  where
    not-false : (b : Bool) → not b ≡ true → b ≡ false
    not-false true h = cc
    not-false false h = refl

-- the files after an entry was replaced
pub files_of-set : (es : List Entry) (name : List ℕ) (i : ℕ) (d new : Entry) → string_bytes new.name ≡ name → place_of es name ≡ Some i
    → files_of (set es i new) ≡ insert (files_of es) name new.bytes.items
files_of-set es name i d new e is =
    let at = position-Some (is_at name) es i d is in
    files_of-insert es (set es i new) name new.bytes.items (look-set name new e es i d at.0 at.1 at.2)

-- the files after an entry was added
pub files_of-push : (es : List Entry) (name : List ℕ) (new : Entry) → string_bytes new.name ≡ name → place_of es name ≡ None → files_of (es ++ new ∷ []) ≡ insert (files_of es) name new.bytes.items
files_of-push es name new e is = files_of-insert es (es ++ new ∷ []) name new.bytes.items (look-push name new e es new (place_of-None name es new is))

-- what the files hold at the name of an entry
pub get-place : (es : List Entry) (name : List ℕ) (i : ℕ) (d : Entry) → place_of es name ≡ Some i → get (files_of es) name ≡ Some (get_or es i d).bytes.items
get-place es name i d is =
    let at = position-Some (is_at name) es i d is in
    get-files_of es name ∙ look-at name es i d at.0 at.1 at.2

-- what the files hold at another name
pub get-no_place : (es : List Entry) (name : List ℕ) → place_of es name ≡ None → get (files_of es) name ≡ None
get-no_place [] name is = get-files_of [] name
get-no_place (x ∷ es) name is = get-files_of (x ∷ es) name ∙ look-none name (x ∷ es) x (place_of-None name (x ∷ es) x is)

-- the entry where the search ends has the name
name-place : (es : List Entry) (name : List ℕ) (i : ℕ) (x : Entry) → x ≡ get_or es i x → place_of es name ≡ Some i → string_bytes x.name ≡ name
name-place es name i x at is =
    let test : is_at name x ≡ true = ap (is_at name) at ∙ (position-Some (is_at name) es i x is).1 in
    (bytes_eq-Decides (string_bytes x.name) name).0 test

-- the files after the bytes of an entry were replaced
pub files_of-set_bytes : (es : List Entry) (name : List ℕ) (i : ℕ) (x : Entry) (v : Vec ℕ Global) → x ≡ get_or es i x → place_of es name ≡ Some i
    → files_of (set es i (record { name = x.name; bytes = v })) ≡ insert (files_of es) name v.items
files_of-set_bytes es name i x v at is = files_of-set es name i x (record { name = x.name; bytes = v }) (name-place es name i x at is) is

-- what the name of an entry holds
pub held-place : (es : List Entry) (name : List ℕ) (i : ℕ) (x : Entry) → x ≡ get_or es i x → place_of es name ≡ Some i → held (files_of es) name ≡ x.bytes.items
held-place es name i x at is = ap (λ o. unwrap_or o []) (get-place es name i x is) ∙ ap (λ (e : Entry). e.bytes.items) (sym at)

-- where no entry has the name, nothing is held
pub held-no_place : (es : List Entry) (name : List ℕ) → place_of es name ≡ None → held (files_of es) name ≡ []
held-no_place es name is = ap (λ o. unwrap_or o []) (get-no_place es name is)

-- the files after the bytes of an entry were replaced by the same
pub files_of-same_bytes : (es : List Entry) (name : List ℕ) (i : ℕ) (x : Entry) (v : Vec ℕ Global) → x ≡ get_or es i x → place_of es name ≡ Some i → v.items ≡ x.bytes.items
    → files_of (set es i (record { name = x.name; bytes = v })) ≡ files_of es
files_of-same_bytes es name i x v at is same =
    files_of-set_bytes es name i x v at is ∙ insert-held (files_of es) name v.items (get-place es name i x is ∙ ap (λ (e : Entry). Some e.bytes.items) (sym at) ∙ ap Some (sym same))

-- a name that has an entry is held
pub is_some-place : (es : List Entry) (name : List ℕ) (i : ℕ) → place_of es name ≡ Some i → is_some (get (files_of es) name) ≡ true
is_some-place [] name i is = let e : None ≡ Some i = is in cc
is_some-place (x ∷ es) name i is = ap is_some (get-place (x ∷ es) name i x is)
