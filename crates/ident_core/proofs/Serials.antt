-- `==` and `cmp` of serials, which compare lengths and padded octets, in the definitions' words.
use Rattle.std.proofs.Common.{◌≡◌, ℕ, ◌-◌, List, [], ◌∷◌, ◌++◌, length, replicate, true, ◌&&◌, eqb, refl, sym, ap, ◌∙◌, subst, arith}
use Rattle.std.specs.Str.{bytes_eq}
use Rattle.std.specs.declared.cmp.Ordering.{Ordering}
use Rattle.std.specs.declared.cmp.Ordering.TheVariants.{Less, Equal, Greater}
use Rattle.std.specs.Ordering.{nat_cmp, ordering_then}
use Rattle.std.specs.Cmp.Lexicographic.{slice_cmp}
use Rattle.std.proofs.lemmas.Bool.{and_parts, and_from, eqb-true, eq-eqb}
use Rattle.std.proofs.lemmas.Cmp.{tied_itself, nat_list_cmp_total}
use Rattle.std.proofs.lemmas.Map.Lookups.{exact_unsigned}
use Rattle.std.proofs.Common.{Bool, false, rules}
use Rattle.std.proofs.lemmas.Slice.Eq.{bytes_eq-Decides}

bool_same : (a b : Bool) → (a ≡ true → b ≡ true) → (b ≡ true → a ≡ true) → a ≡ b
bool_same true true f g = refl
bool_same true false f g = sym (f refl)
bool_same false true f g = g refl
bool_same false false f g = refl

bytes_same : (a b : List ℕ) → bytes_eq a b ≡ true → a ≡ b
bytes_same a b h = search (rules, bytes_eq-Decides)

bytes_refl : (a : List ℕ) → bytes_eq a a ≡ true
bytes_refl a = search (rules, bytes_eq-Decides)

abbrev padded : List ℕ → List ℕ
padded a = a ++ replicate (32 - length a) 0

heads : (x y : ℕ) (a b : List ℕ) → x ∷ a ≡ y ∷ b → x ≡ y
heads x y a b h = cc

tails : (x y : ℕ) (a b : List ℕ) → x ∷ a ≡ y ∷ b → a ≡ b
tails x y a b h = cc

fronts_same : (a b c d : List ℕ) → length a ≡ length b → a ++ c ≡ b ++ d → a ≡ b
fronts_same [] [] c d l h = refl
fronts_same [] (y ∷ b) c d l h = absurd cc
fronts_same (x ∷ a) [] c d l h = absurd cc
fronts_same (x ∷ a) (y ∷ b) c d l h =
    let e = heads x y (a ++ c) (b ++ d) h in
    let rest = fronts_same a b c d (omega arith) (tails x y (a ++ c) (b ++ d) h) in
    λ i. e i ∷ rest i

pub serial_eq : (a b : List ℕ) → (eqb (length a) (length b) && bytes_eq (padded a) (padded b)) ≡ bytes_eq a b
serial_eq a b =
    bool_same (eqb (length a) (length b) && bytes_eq (padded a) (padded b)) (bytes_eq a b)
    (λ h.
    let p = and_parts (eqb (length a) (length b)) (bytes_eq (padded a) (padded b)) h in
    let e = fronts_same a b (replicate (32 - length a) 0) (replicate (32 - length b) 0) (eqb-true (length a) (length b) p.0) (bytes_same (padded a) (padded b) p.1) in
    subst (λ z. bytes_eq a z ≡ true) e (bytes_refl a))
    (λ h.
    let e = bytes_same a b h in
    subst (λ z. (eqb (length a) (length z) && bytes_eq (padded a) (padded z)) ≡ true) e
    (and_from (eqb (length a) (length a)) (bytes_eq (padded a) (padded a)) (eq-eqb (length a) (length a) refl) (bytes_refl (padded a))))

fronts_cmp : (a b c : List ℕ) → length a ≡ length b → slice_cmp nat_cmp (a ++ c) (b ++ c) ≡ slice_cmp nat_cmp a b
fronts_cmp [] [] c l = tied_itself nat_list_cmp_total c
fronts_cmp [] (y ∷ b) c l = absurd cc
fronts_cmp (x ∷ a) [] c l = absurd cc
fronts_cmp (x ∷ a) (y ∷ b) c l = ap (ordering_then (nat_cmp x y)) (fronts_cmp a b c (omega arith))

cmp_by : (o : Ordering) (a b : List ℕ) → nat_cmp (length a) (length b) ≡ o → ordering_then o (slice_cmp nat_cmp (padded a) (padded b)) ≡ ordering_then o (slice_cmp nat_cmp a b)
cmp_by Less a b e = refl
cmp_by Greater a b e = refl
cmp_by Equal a b e =
    let l = exact_unsigned (length a) (length b) e in
    ap (λ n. slice_cmp nat_cmp (padded a) (b ++ replicate (32 - n) 0)) (sym l) ∙ fronts_cmp a b (replicate (32 - length a) 0) l

pub serial_cmp : (a b : List ℕ) → ordering_then (nat_cmp (length a) (length b)) (slice_cmp nat_cmp (padded a) (padded b)) ≡ ordering_then (nat_cmp (length a) (length b)) (slice_cmp nat_cmp a b)
serial_cmp a b = cmp_by (nat_cmp (length a) (length b)) a b refl
