-- The members of a list whose flag is set, as far as a loop has come.
use Rattle.std.proofs.Common.{◌≡◌, ◌<◌, ◌≤◌, ◌+◌, ℕ, zero, suc, Bool, true, false, not, cond, List, [], ◌∷◌, ◌++◌, length, map, take, drop, get_or, refl, sym, ap, ◌∙◌, arith, add-one}
use Rattle.std.specs.List.{filter}
use Rattle.std.proofs.lemmas.List.{drop_all, append-nil}
use Rattle.ident_core.specs.declared.identity.Identity.{Identity}
use Rattle.card_core.specs.Leaf.{flagged}

step : (x : Identity) (f : Bool) (a b c : List Identity) → a ≡ b ++ c → cond f (x ∷ a) a ≡ cond f (x ∷ b) b ++ c
step x true a b c e = ap (λ (t : List Identity). x ∷ t) e
step x false a b c e = e

flagged_suc : (xs : List Identity) (fs : List Bool) (i : ℕ) (d : Identity) → i < length xs → i < length fs
    → flagged (take (suc i) xs) (take (suc i) fs) ≡ flagged (take i xs) (take i fs) ++ cond (get_or fs i false) (get_or xs i d ∷ []) []
flagged_suc [] fs i d lt lt' = absurd (omega arith)
flagged_suc (x ∷ xs) [] i d lt lt' = absurd (omega arith)
flagged_suc (x ∷ xs) (true ∷ fs) zero d lt lt' = refl
flagged_suc (x ∷ xs) (false ∷ fs) zero d lt lt' = refl
flagged_suc (x ∷ xs) (f ∷ fs) (suc i) d lt lt' = step x f _ _ _ (flagged_suc xs fs i d (omega arith) (omega arith))

pub flagged_more : (xs : List Identity) (fs : List Bool) (i : ℕ) (d : Identity) → i < length xs → i < length fs
    → flagged (take (i + 1) xs) (take (i + 1) fs) ≡ flagged (take i xs) (take i fs) ++ cond (get_or fs i false) (get_or xs i d ∷ []) []
flagged_more xs fs i d lt lt' = rw add-one (flagged_suc xs fs i d lt lt')

pub flagged_nil : (xs : List Identity) → flagged xs [] ≡ []
flagged_nil [] = refl
flagged_nil (x ∷ xs) = refl

-- the flagged of a front and of what is left
pub flagged_split : (n : ℕ) (xs : List Identity) (fs : List Bool) → flagged xs fs ≡ flagged (take n xs) (take n fs) ++ flagged (drop n xs) (drop n fs)
flagged_split zero xs fs = refl
flagged_split (suc n) [] fs = refl
flagged_split (suc n) (x ∷ xs) [] = sym (flagged_nil (drop n xs))
flagged_split (suc n) (x ∷ xs) (f ∷ fs) = step x f _ _ _ (flagged_split n xs fs)

module _ (xs : List Identity) (fs : List Bool) (i : ℕ) (d : Identity) (lt : i < length xs) (lt' : i < length fs) where
  pub flagged_taken : get_or fs i false ≡ true → flagged (take i xs) (take i fs) ++ (get_or xs i d ∷ []) ≡ flagged (take (i + 1) xs) (take (i + 1) fs)
  flagged_taken e = sym (flagged_more xs fs i d lt lt' ∙ ap (λ (b : Bool). flagged (take i xs) (take i fs) ++ cond b (get_or xs i d ∷ []) []) e)

  pub flagged_left : get_or fs i false ≡ false → flagged (take i xs) (take i fs) ≡ flagged (take (i + 1) xs) (take (i + 1) fs)
  flagged_left e = sym (flagged_more xs fs i d lt lt' ∙ ap (λ (b : Bool). flagged (take i xs) (take i fs) ++ cond b (get_or xs i d ∷ []) []) e ∙ append-nil _)

-- the same for the flag and the identity that a loop reads at i
module _ (xs : List Identity) (fs : List Bool) (i : ℕ) (x : Identity) (few : length fs ≤ length xs) (lt : i < length fs) where
  pub taken_at : x ≡ get_or xs i x → get_or fs i false ≡ true → flagged (take i xs) (take i fs) ++ (x ∷ []) ≡ flagged (take (i + 1) xs) (take (i + 1) fs)
  taken_at is e = ap (λ (y : Identity). flagged (take i xs) (take i fs) ++ (y ∷ [])) is ∙ flagged_taken xs fs i x (omega (arith, few, lt)) lt e

pub left_at : (xs : List Identity) (fs : List Bool) (i : ℕ) → length fs ≤ length xs → i < length fs → get_or fs i false ≡ false
    → flagged (take i xs) (take i fs) ≡ flagged (take (i + 1) xs) (take (i + 1) fs)
left_at [] fs i few lt e = absurd (omega (arith, few, lt))
left_at (x ∷ xs) fs i few lt e = flagged_left (x ∷ xs) fs i x (omega (arith, few, lt)) lt e

-- a loop has come to the end of the flags
pub flagged_all : (xs : List Identity) (fs : List Bool) (i : ℕ) → length fs ≤ i → flagged (take i xs) (take i fs) ≡ flagged xs fs
flagged_all xs fs i le = sym (
    flagged_split i xs fs
    ∙ ap (λ (l : List Bool). flagged (take i xs) (take i fs) ++ flagged (drop i xs) l) (drop_all i fs le)
    ∙ ap (λ (l : List Identity). flagged (take i xs) (take i fs) ++ l) (flagged_nil (drop i xs))
    ∙ append-nil _
    )

count_both : (x : Identity) (f : Bool) (a b : List Identity) (n : ℕ) → length a + length b ≡ n → length (cond f (x ∷ a) a) + length (cond (not f) (x ∷ b) b) ≡ suc n
count_both x true a b n h = omega arith
count_both x false a b n h = omega arith

-- each identity is on one side
pub flagged_lengths : (xs : List Identity) (fs : List Bool) → length fs ≡ length xs → length (flagged xs fs) + length (flagged xs (map not fs)) ≡ length xs
flagged_lengths [] fs same = refl
flagged_lengths (x ∷ xs) [] same = absurd (omega arith)
flagged_lengths (x ∷ xs) (f ∷ fs) same = count_both x f _ _ (length xs) (flagged_lengths xs fs (omega arith))

count_one : (x : Identity) (f : Bool) (a : List Identity) (b : List Bool) → length a ≡ length b → length (cond f (x ∷ a) a) ≡ length (cond f (f ∷ b) b)
count_one x true a b e = omega arith
count_one x false a b e = e

-- there are as many as flags that are set
pub flagged_count : (xs : List Identity) (fs : List Bool) → length fs ≤ length xs → length (flagged xs fs) ≡ length (filter (λ f. f) fs)
flagged_count [] [] same = refl
flagged_count [] (f ∷ fs) same = absurd (omega arith)
flagged_count (x ∷ xs) [] same = refl
flagged_count (x ∷ xs) (f ∷ fs) same = count_one x f _ _ (flagged_count xs fs (omega arith))

-- the same of two lists of flags
pub counted : (xs : List Identity) (fs gs : List Bool) (n m : ℕ) → length fs ≡ length xs → length gs ≡ length xs → n ≡ length (filter (λ f. f) fs) → m ≡ length (filter (λ f. f) gs)
    → n + m ≡ length (flagged xs fs) + length (flagged xs gs)
counted xs fs gs n m same same' e e' = omega (arith, flagged_count xs fs (omega (arith, same)), flagged_count xs gs (omega (arith, same')), e, e')

keep_le : (x : Identity) (b : Bool) (a : List Identity) (n : ℕ) → length a ≤ n → length (cond b (x ∷ a) a) ≤ suc n
keep_le x true a n h = omega arith
keep_le x false a n h = omega arith

filter_le : (p : Identity → Bool) (xs : List Identity) → length (filter p xs) ≤ length xs
filter_le p [] = omega arith
filter_le p (x ∷ xs) = keep_le x (p x) _ (length xs) (filter_le p xs)

-- the revoked and the false positives are not more than the universe
pub passed_few : (p : Identity → Bool) (xs passed : List Identity) (fs : List Bool) (n : ℕ) → length fs ≡ length xs → passed ≡ filter p (flagged xs (map not fs)) → length xs ≤ n
    → length (flagged xs fs) + length passed ≤ n
passed_few p xs passed fs n same e le =
    omega (arith, flagged_lengths xs fs same, filter_le p (flagged xs (map not fs)), ap (λ (t : List Identity). length t) e)
