-- Octets of one length are ordered by the numbers that their first eight spell, where these differ.
use Rattle.std.proofs.Common.{◌≡◌, ℕ, zero, suc, ◌+◌, ◌*◌, ◌<◌, List, [], ◌∷◌, length, take, drop, get_or, refl, sym, ap, ◌∙◌, arith}
use Rattle.std.specs.Prelude.{fold}
use Rattle.std.specs.declared.cmp.Ordering.{Ordering}
use Rattle.std.specs.declared.cmp.Ordering.TheVariants.{Less, Equal, Greater}
use Rattle.std.specs.Ordering.{nat_cmp, ordering_then}
use Rattle.std.specs.Cmp.Lexicographic.{slice_cmp}
use Rattle.std.proofs.lemmas.Bool.Decides.{nat_tests}
use Rattle.std.proofs.lemmas.List.{length-take}
use Rattle.std.proofs.lemmas.Map.Lookups.{exact_unsigned}
use Rattle.octets_core.specs.Numbers.{number}

-- each of the octets is below 256
abbrev pub AreOctets : List ℕ → Type 0
AreOctets bytes = (i : ℕ) → get_or bytes i 0 < 256

-- the number that bytes spell behind n
abbrev spelled : ℕ → List ℕ → ℕ
spelled n bytes = fold (λ m b. m * 256 + b) n bytes

then_assoc : (o p q : Ordering) → ordering_then (ordering_then o p) q ≡ ordering_then o (ordering_then p q)
then_assoc Less p q = refl
then_assoc Equal p q = refl
then_assoc Greater p q = refl

then_equal : (o : Ordering) → o ≡ ordering_then o Equal
then_equal Less = refl
then_equal Equal = refl
then_equal Greater = refl

then_twice : (o p : Ordering) → ordering_then o p ≡ ordering_then o (ordering_then o p)
then_twice Less p = refl
then_twice Equal p = refl
then_twice Greater p = refl

digit_cmp : (a b u v : ℕ) → u < 256 → v < 256 → nat_cmp (a * 256 + u) (b * 256 + v) ≡ ordering_then (nat_cmp a b) (nat_cmp u v)
digit_cmp a b u v x y = grind (arith, nat_tests)

spelled_cmp : (us vs : List ℕ) (a b : ℕ) → length us ≡ length vs → AreOctets us → AreOctets vs → nat_cmp (spelled a us) (spelled b vs) ≡ ordering_then (nat_cmp a b) (slice_cmp nat_cmp us vs)
spelled_cmp [] [] a b l x y = then_equal (nat_cmp a b)
spelled_cmp [] (v ∷ vs) a b l x y = absurd cc
spelled_cmp (u ∷ us) [] a b l x y = absurd cc
spelled_cmp (u ∷ us) (v ∷ vs) a b l x y =
    spelled_cmp us vs (a * 256 + u) (b * 256 + v) (omega arith) (λ i. x (suc i)) (λ i. y (suc i))
    ∙ ap (λ o. ordering_then o (slice_cmp nat_cmp us vs)) (digit_cmp a b u v (x 0) (y 0))
    ∙ then_assoc (nat_cmp a b) (nat_cmp u v) (slice_cmp nat_cmp us vs)

front_cmp : (n : ℕ) (us vs : List ℕ) → length us ≡ length vs → slice_cmp nat_cmp us vs ≡ ordering_then (slice_cmp nat_cmp (take n us) (take n vs)) (slice_cmp nat_cmp (drop n us) (drop n vs))
front_cmp zero us vs l = refl
front_cmp (suc n) [] [] l = refl
front_cmp (suc n) [] (v ∷ vs) l = absurd cc
front_cmp (suc n) (u ∷ us) [] l = absurd cc
front_cmp (suc n) (u ∷ us) (v ∷ vs) l =
    ap (ordering_then (nat_cmp u v)) (front_cmp n us vs (omega arith))
    ∙ sym (then_assoc (nat_cmp u v) (slice_cmp nat_cmp (take n us) (take n vs)) (slice_cmp nat_cmp (drop n us) (drop n vs)))

octets_take : (n : ℕ) (us : List ℕ) → AreOctets us → AreOctets (take n us)
octets_take zero us h i = omega arith
octets_take (suc n) [] h i = omega arith
octets_take (suc n) (u ∷ us) h zero = h 0
octets_take (suc n) (u ∷ us) h (suc i) = octets_take n us (λ k. h (suc k)) i

-- the numbers of the first eight decide, where they differ
pub first_cmp : (us vs : List ℕ) → length us ≡ length vs → AreOctets us → AreOctets vs
    → slice_cmp nat_cmp us vs ≡ ordering_then (nat_cmp (number (take 8 us)) (number (take 8 vs))) (slice_cmp nat_cmp us vs)
first_cmp us vs l x y =
    let n : nat_cmp (number (take 8 us)) (number (take 8 vs)) ≡ slice_cmp nat_cmp (take 8 us) (take 8 vs) =
    spelled_cmp (take 8 us) (take 8 vs) 0 0 (omega (arith, length-take 8 us, length-take 8 vs)) (octets_take 8 us x) (octets_take 8 vs y) in
    let f = front_cmp 8 us vs l in
    f ∙ then_twice (slice_cmp nat_cmp (take 8 us) (take 8 vs)) (slice_cmp nat_cmp (drop 8 us) (drop 8 vs))
    ∙ (λ i. ordering_then (sym n i) (sym f i))

-- a number that differs decides
pub first_decides : (a b : ℕ) (o : Ordering) → (a ≡ b → ⊥) → o ≡ ordering_then (nat_cmp a b) o → nat_cmp a b ≡ o
first_decides a b o h e = by (nat_cmp a b) refl ∙ sym e
  where
    by : (p : Ordering) → nat_cmp a b ≡ p → p ≡ ordering_then p o
    by Less q = refl
    by Equal q = absurd (h (exact_unsigned a b q))
    by Greater q = refl
