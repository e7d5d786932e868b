-- Texts that stand in bytes, one after the other.
use Rattle.std.proofs.Common.{◌≡◌, ℕ, zero, suc, ◌+◌, ◌*◌, ◌<◌, ◌≤◌, List, [], ◌∷◌, ◌++◌, length, get_or, drop, take, refl, sym, ap, ◌∙◌, subst, append_assoc, length-append, drop-drop, drop_at, arith}
use Rattle.std.specs.Prelude.{flat_map}
use Rattle.std.proofs.lemmas.List.{take_at, length-drop}
use Rattle.view_core.specs.Texts.{Stands, places_of}

-- the first of two texts
pub stands_first : (bytes : List ℕ) (at : ℕ) (t u : List ℕ) → Stands bytes at (t ++ u) → Stands bytes at t
stands_first bytes at t u s = record { behind = u ++ s.behind; is = s.is ∙ append_assoc t u s.behind }

-- and the second
pub stands_then : (bytes : List ℕ) (at : ℕ) (t u : List ℕ) (n : ℕ) → n ≡ at + length t → Stands bytes at (t ++ u) → Stands bytes n u
stands_then bytes at t u n is s = record {
  behind = s.behind;
  is = ap (λ (k : ℕ). drop k bytes) is ∙ sym (drop-drop (length t) at bytes) ∙ ap (drop (length t)) (s.is ∙ append_assoc t u s.behind)
      ∙ drop_at t (u ++ s.behind) (length t) refl;
}

-- it is what the bytes hold there
pub stands_piece : (bytes : List ℕ) (at : ℕ) (t : List ℕ) → Stands bytes at t → take (length t) (drop at bytes) ≡ t
stands_piece bytes at t s = ap (take (length t)) s.is ∙ take_at t s.behind (length t) refl

-- and ends within them, if it has a byte
pub stands_within : (bytes : List ℕ) (at : ℕ) (t : List ℕ) → 0 < length t → Stands bytes at t → at + length t ≤ length bytes
stands_within bytes at t some s = omega (arith, some, ap length s.is, length-append t s.behind, length-drop at bytes)

pub length-places : {X : Type 0} (text : X → List ℕ) (at : ℕ) (xs : List X) → length (places_of text at xs) ≡ length xs
length-places text at [] = refl
length-places text at (x ∷ xs) = ap suc (length-places text (at + length (text x)) xs)

-- each of some texts stands at its place
pub stands_item : {X : Type 0} (text : X → List ℕ) (bytes : List ℕ) (at : ℕ) (xs : List X) (i : ℕ) (d : X) → i < length xs
    → Stands bytes at (flat_map text xs) → Stands bytes (get_or (places_of text at xs) i 0) (text (get_or xs i d))
stands_item text bytes at [] i d lt s = absurd (omega arith)
stands_item text bytes at (x ∷ xs) zero d lt s = stands_first bytes at (text x) (flat_map text xs) s
stands_item text bytes at (x ∷ xs) (suc i) d lt s =
    stands_item text bytes (at + length (text x)) xs i d (omega arith) (stands_then bytes at (text x) (flat_map text xs) (at + length (text x)) refl s)

-- and those behind it
pub stands_rest : {X : Type 0} (text : X → List ℕ) (bytes : List ℕ) (at : ℕ) (xs : List X) (i : ℕ)
    → Stands bytes at (flat_map text xs) → Stands bytes (at + length (flat_map text (take i xs))) (flat_map text (drop i xs))
stands_rest text bytes at [] zero s = let z : at + 0 ≡ at = omega arith in rw z s
stands_rest text bytes at [] (suc i) s = let z : at + 0 ≡ at = omega arith in rw z s
stands_rest text bytes at (x ∷ xs) zero s = let z : at + 0 ≡ at = omega arith in rw z s
stands_rest text bytes at (x ∷ xs) (suc i) s =
    let e : at + length (text x) + length (flat_map text (take i xs)) ≡ at + length (text x ++ flat_map text (take i xs)) = omega (arith, length-append (text x) (flat_map text (take i xs))) in
    subst (λ (n : ℕ). Stands bytes n (flat_map text (drop i xs))) e
    (stands_rest text bytes (at + length (text x)) xs i (stands_then bytes at (text x) (flat_map text xs) (at + length (text x)) refl s))

-- texts of one width
pub stands_even : {X : Type 0} (text : X → List ℕ) (width : ℕ) → ((x : X) → length (text x) ≡ width) → (bytes : List ℕ) (at : ℕ) (xs : List X) (i : ℕ) (d : X) → i < length xs
    → Stands bytes at (flat_map text xs) → Stands bytes (at + width * i) (text (get_or xs i d))
stands_even text width wide bytes at [] i d lt s = absurd (omega arith)
stands_even text width wide bytes at (x ∷ xs) zero d lt s =
    let e : at + width * 0 ≡ at = omega arith in rw e (stands_first bytes at (text x) (flat_map text xs) s)
stands_even text width wide bytes at (x ∷ xs) (suc i) d lt s =
    let e : at + length (text x) + width * i ≡ at + width * suc i = rw (wide x) (grind arith) in
    subst (λ (n : ℕ). Stands bytes n (text (get_or xs i d))) e
    (stands_even text width wide bytes (at + length (text x)) xs i d (omega arith) (stands_then bytes at (text x) (flat_map text xs) (at + length (text x)) refl s))
