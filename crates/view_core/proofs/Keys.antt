-- Keys that stand in bytes, ordered by the numbers of their first eight.
use Rattle.std.specs.Ordering.{nat_cmp, ordering_then}
use Rattle.std.specs.Cmp.Lexicographic.{slice_cmp}
use Rattle.std.proofs.Common.{◌≡◌, ℕ, ◌+◌, ◌<◌, ◌≤◌, List, [], ◌∷◌, length, get_or, take, drop, refl, subst, sym, ap, ◌∙◌, ◌⊎◌, inl, inr, arith}
use Rattle.std.proofs.lemmas.List.{get_or-drop, get_or_append_left, get_or_past, take-append-drop, append-nil}
use Rattle.std.specs.declared.cmp.Ordering.TheVariants.{Equal}
use Rattle.std.proofs.lemmas.Bool.{cases_lt}
use Rattle.std.proofs.lemmas.Bool.Decides.{nat_tests}
use Rattle.std.specs.Int.{w64, from_be_bytes}
use Rattle.octets_core.specs.Numbers.{number}
use Rattle.octets_core.proofs.Heads.{AreOctets, first_cmp, first_decides}
use Rattle.view_core.specs.Texts.{Stands}
use Rattle.view_core.proofs.Texts.{stands_first}

-- what stands in octets is octets
pub stands_octets : (bytes : List ℕ) (at : ℕ) (key : List ℕ) → AreOctets bytes → Stands bytes at key → AreOctets key
stands_octets bytes at key octets s i = by (cases_lt i (length key))
  where
    by : i < length key ⊎ length key ≤ i → get_or key i 0 < 256
    by (inl lt) = let e = sym (get_or_append_left key s.behind 0 i lt) ∙ ap (λ (l : List ℕ). get_or l i 0) (sym s.is) ∙ get_or-drop at bytes i 0 in omega (arith, e, octets (at + i))
    by (inr le) = omega (arith, get_or_past key i 0 le)

-- the first eight of a key stand where it does
pub stands_front : (bytes : List ℕ) (at : ℕ) (key : List ℕ) → Stands bytes at key → Stands bytes at (take 8 key)
stands_front bytes at key s = stands_first bytes at (take 8 key) (drop 8 key) (subst (λ (l : List ℕ). Stands bytes at l) (sym (take-append-drop 8 key)) s)

-- all bytes stand from the first on
pub stands_all : (bytes : List ℕ) → Stands bytes 0 bytes
stands_all bytes = record { behind = []; is = sym (append-nil bytes) }

pub decided : (us vs : List ℕ) (a b : ℕ) → length us ≡ length vs → AreOctets us → AreOctets vs → a ≡ number (take 8 us) → b ≡ number (take 8 vs) → (a ≡ b → ⊥)
    → nat_cmp a b ≡ slice_cmp nat_cmp us vs
decided us vs a b l x y p q h =
    first_decides a b (slice_cmp nat_cmp us vs) h (first_cmp us vs l x y ∙ (λ i. ordering_then (nat_cmp (sym p i) (sym q i)) (slice_cmp nat_cmp us vs)))

-- the number of eight bytes
pub eight : (bytes : List ℕ) → length bytes ≡ 8 → from_be_bytes w64 bytes ≡ number bytes
eight [] len = absurd cc
eight (a ∷ []) len = absurd (omega (arith, len))
eight (a ∷ b ∷ []) len = absurd (omega (arith, len))
eight (a ∷ b ∷ c ∷ []) len = absurd (omega (arith, len))
eight (a ∷ b ∷ c ∷ d ∷ []) len = absurd (omega (arith, len))
eight (a ∷ b ∷ c ∷ d ∷ e ∷ []) len = absurd (omega (arith, len))
eight (a ∷ b ∷ c ∷ d ∷ e ∷ f ∷ []) len = absurd (omega (arith, len))
eight (a ∷ b ∷ c ∷ d ∷ e ∷ f ∷ g ∷ []) len = absurd (omega (arith, len))
eight (a ∷ b ∷ c ∷ d ∷ e ∷ f ∷ g ∷ h ∷ []) len = omega arith
eight (a ∷ b ∷ c ∷ d ∷ e ∷ f ∷ g ∷ h ∷ i ∷ rest) len = absurd (omega (arith, len))

pub equals_itself : (bytes : List ℕ) → slice_cmp nat_cmp bytes bytes ≡ Equal
equals_itself [] = refl
equals_itself (b ∷ bytes) = let e : nat_cmp b b ≡ Equal = grind (arith, nat_tests) in rw e (equals_itself bytes)
