-- What read entries are sorted by orders them as their identities do.
use Rattle.std.specs.List.{slice_get}
use Rattle.std.specs.List.Sorted.{IsStrictlySortedBy}
use Rattle.std.specs.Prelude.{nat_lt}
use Rattle.std.specs.Cmp.{IsTotalOrder, IsStrictWeakOrder}
use Rattle.std.specs.declared.cmp.Ordering.{Ordering}
use Rattle.std.specs.declared.cmp.Ordering.TheVariants.{Less, Equal, Greater}
use Rattle.std.specs.Ordering.{is_lt, nat_cmp, ordering_then, ordering_reverse}
use Rattle.std.proofs.Common.{◌≡◌, ℕ, zero, suc, ◌<◌, List, [], ◌∷◌, length, get_or, take, cond, Bool, true, false, Some, refl, sym, ap, ◌∙◌, arith}
use Rattle.std.proofs.lemmas.Bool.Decides.{nat_tests}
use Rattle.std.proofs.lemmas.Cmp.{nat_cmp_total, nat_list_cmp_total, on_total, then_total, tied_itself}
use Rattle.std.proofs.lemmas.List.Sorted.{ranks_by}
use Rattle.std.proofs.lemmas.Map.Lookups.{exact_unsigned}
use Rattle.std.proofs.lemmas.Option.{slice_get-get_or, unwrap_or-slice_get}
use Rattle.octets_core.specs.Numbers.{number}
use Rattle.ident_core.specs.Order.{octets_cmp, serial_cmp, identity_cmp}
use Rattle.octets_core.proofs.Heads.{first_cmp}
use Rattle.ident_core.proofs.Elements.{Among-from_place, some_item}
use Rattle.ident_core.proofs.Order.{sorted_head, sorted_tail}
use Rattle.universe_core.specs.declared.read_entry.ReadEntry.{ReadEntry}
use Rattle.universe_core.specs.declared.serial_key.SerialKey.{SerialKey}
use Rattle.universe_core.specs.Placing.{IsKeyOf, keyed_cmp, placed_cmp, head_of}
use Rattle.universe_core.specs.Reading.{id_in}

placed_total : IsTotalOrder placed_cmp
placed_total =
    then_total (on_total (λ (e : ReadEntry). e.place) nat_cmp_total)
    (on_total (λ (e : ReadEntry). e.serial) (then_total (on_total (λ (s : List ℕ). length s) nat_cmp_total) nat_list_cmp_total))

pub placed_ranks : IsStrictWeakOrder (λ (a b : ReadEntry). is_lt (placed_cmp a b))
placed_ranks = ranks_by placed_total (λ (e : ReadEntry). e)

-- ---- the steps of the code

-- numbers that differ decide
pub apart : (a b : ℕ) (o : Ordering) → (a ≡ b → ⊥) → nat_cmp a b ≡ ordering_then (nat_cmp a b) o
apart a b o h = by (nat_cmp a b) refl
  where
    by : (p : Ordering) → nat_cmp a b ≡ p → p ≡ ordering_then p o
    by Less e = refl
    by Equal e = absurd (h (exact_unsigned a b e))
    by Greater e = refl

-- after equal ones what follows does
pub level : (a b : ℕ) (o : Ordering) → a ≡ b → o ≡ ordering_then (nat_cmp a b) o
level a b o e = sym (ap (λ p. ordering_then p o) (ap (nat_cmp a) (sym e) ∙ tied_itself nat_cmp_total a))

-- ---- places

zero_below : (j : ℕ) → nat_cmp 0 (suc j) ≡ Less
zero_below j = grind (arith, nat_tests)

above_zero : (i : ℕ) → nat_cmp (suc i) 0 ≡ Greater
above_zero i = grind (arith, nat_tests)

both_next : (i j : ℕ) → nat_cmp (suc i) (suc j) ≡ nat_cmp i j
both_next i j = grind (arith, nat_tests)

-- keys that ascend are ordered as their places are
place_cmp : (ks : List (List ℕ)) → IsStrictlySortedBy octets_cmp ks → (i j : ℕ) (x y : List ℕ) → slice_get ks i ≡ Some x → slice_get ks j ≡ Some y → nat_cmp i j ≡ octets_cmp x y
place_cmp [] s i j x y p q = absurd cc
place_cmp (k ∷ ks) s zero zero x y p q =
    let a : k ≡ x = some_item k x p in
    let b : k ≡ y = some_item k y q in
    tied_itself nat_cmp_total 0 ∙ sym (tied_itself nat_list_cmp_total k) ∙ (λ i. octets_cmp (a i) (b i))
place_cmp (k ∷ ks) s zero (suc j) x y p q =
    zero_below j ∙ sym (sorted_head octets_cmp k ks y s (Among-from_place ks j y q)) ∙ ap (λ z. octets_cmp z y) (some_item k x p)
place_cmp (k ∷ ks) s (suc i) zero x y p q =
    above_zero i ∙ sym (nat_list_cmp_total.antisymm x k ∙ ap ordering_reverse (sorted_head octets_cmp k ks x s (Among-from_place ks i x p))) ∙ ap (octets_cmp x) (some_item k y q)
place_cmp (k ∷ ks) s (suc i) (suc j) x y p q = both_next i j ∙ place_cmp ks (sorted_tail octets_cmp k ks s) i j x y p q

-- ---- serials

head_by : (t : Bool) (a b : List ℕ) → nat_lt (length a) 8 ≡ t → length a ≡ length b → ((i : ℕ) → get_or a i 0 < 256) → ((i : ℕ) → get_or b i 0 < 256)
    → octets_cmp a b ≡ ordering_then (nat_cmp (cond t 0 (number (take 8 a))) (cond t 0 (number (take 8 b)))) (octets_cmp a b)
head_by true a b e l x y = level 0 0 (octets_cmp a b) refl
head_by false a b e l x y = first_cmp a b l x y

-- serials of one length are ordered by their heads first
head_cmp : (a b : List ℕ) → length a ≡ length b → ((i : ℕ) → get_or a i 0 < 256) → ((i : ℕ) → get_or b i 0 < 256) → octets_cmp a b ≡ ordering_then (nat_cmp (head_of a) (head_of b)) (octets_cmp a b)
head_cmp a b l x y =
    head_by (nat_lt (length a) 8) a b refl l x y
    ∙ ap (λ n. ordering_then (nat_cmp (head_of a) (cond (nat_lt n 8) 0 (number (take 8 b)))) (octets_cmp a b)) l

serial_by : (o : Ordering) (a b : List ℕ) → nat_cmp (length a) (length b) ≡ o → ((i : ℕ) → get_or a i 0 < 256) → ((i : ℕ) → get_or b i 0 < 256)
    → ordering_then o (ordering_then (nat_cmp (head_of a) (head_of b)) (ordering_then o (octets_cmp a b))) ≡ ordering_then o (octets_cmp a b)
serial_by Less a b e x y = refl
serial_by Greater a b e x y = refl
serial_by Equal a b e x y = sym (head_cmp a b (exact_unsigned (length a) (length b) e) x y)

-- keys order serials as the whole ones are ordered
pub keyed_is : (a b : List ℕ) (j k : SerialKey) → IsKeyOf a j → IsKeyOf b k → keyed_cmp a j b k ≡ serial_cmp a b
keyed_is a b j k p q =
    (λ i. ordering_then (nat_cmp (p.length i) (q.length i)) (ordering_then (nat_cmp (p.head i) (q.head i)) (serial_cmp a b)))
    ∙ serial_by (nat_cmp (length a) (length b)) a b refl p.octets q.octets

-- ---- read entries

issuer_there : (issuers : List (List ℕ)) (e : ReadEntry) → e.place < length issuers → slice_get issuers e.place ≡ Some (id_in issuers e).issuer
issuer_there issuers e h = slice_get-get_or issuers e.place [] h ∙ ap Some (sym (unwrap_or-slice_get issuers e.place []))

-- places and serials order read entries as their identities are ordered
pub placed_is : (issuers : List (List ℕ)) (d e : ReadEntry) → IsStrictlySortedBy octets_cmp issuers → d.place < length issuers → e.place < length issuers
    → placed_cmp d e ≡ identity_cmp (id_in issuers d) (id_in issuers e)
placed_is issuers d e s p q =
    ap (λ o. ordering_then o (serial_cmp d.serial e.serial))
    (place_cmp issuers s d.place e.place (id_in issuers d).issuer (id_in issuers e).issuer (issuer_there issuers d p) (issuer_there issuers e q))
