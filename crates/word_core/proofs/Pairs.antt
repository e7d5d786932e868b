-- Pairs that are read one after the other, and commands that too few words spell.
use Rattle.std.proofs.Common.{◌≡◌, ℕ, ◌<◌, List, [], ◌∷◌, length, map, None, refl, arith}
use Rattle.word_core.specs.Words.{pairs_of, query_of, gather_of, split_of}

pub pairs_of-odd : {A : Type 0} (f : A → List ℕ) (xs : List A) → length xs < 2 → (length xs ≡ 0 → ⊥) → pairs_of (map f xs) ≡ None
pairs_of-odd f [] short some = absurd (some refl)
pairs_of-odd f (a ∷ []) short some = refl
pairs_of-odd f (a ∷ b ∷ xs) short some = absurd (omega arith)

pub query_of-short : {A : Type 0} (f : A → List ℕ) (xs : List A) → length xs < 3 → query_of (map f xs) ≡ None
query_of-short f [] short = refl
query_of-short f (a ∷ []) short = refl
query_of-short f (a ∷ b ∷ []) short = refl
query_of-short f (a ∷ b ∷ c ∷ xs) short = absurd (omega arith)

pub gather_of-short : {A : Type 0} (f : A → List ℕ) (xs : List A) → length xs < 3 → gather_of (map f xs) ≡ None
gather_of-short f [] short = refl
gather_of-short f (a ∷ []) short = refl
gather_of-short f (a ∷ b ∷ []) short = refl
gather_of-short f (a ∷ b ∷ c ∷ xs) short = absurd (omega arith)

pub split_of-short : {A : Type 0} (f : A → List ℕ) (xs : List A) → length xs < 5 → split_of (map f xs) ≡ None
split_of-short f [] short = refl
split_of-short f (a ∷ []) short = refl
split_of-short f (a ∷ b ∷ []) short = refl
split_of-short f (a ∷ b ∷ c ∷ []) short = refl
split_of-short f (a ∷ b ∷ c ∷ d ∷ []) short = refl
split_of-short f (a ∷ b ∷ c ∷ d ∷ e ∷ xs) short = absurd (omega arith)
