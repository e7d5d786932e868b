-- Lists of outputs by their places.
use Rattle.std.proofs.Common.{◌≡◌, ◌≢◌, ◌⊎◌, ℕ, zero, suc, ◌+◌, ◌<◌, List, [], ◌∷◌, ◌++◌, length, map, set, Option, Some, None, IfSome, get_or, true, false}
use Rattle.std.proofs.Common.{sym, ap, ◌∙◌, subst, refl, arith, inl, inr, ⊎_elim, length-set}
use Rattle.std.specs.Option.{option_to_list, IsSome, is_some}
use Rattle.std.proofs.lemmas.Option.{slice_get_read}
use Rattle.std.specs.List.{slice_get}
use mathlib.Core.Logic.{dite}
use native.Mathlib.Decide.{ℕ_discrete}
use Rattle.claim_core.specs.declared.outputs.Done.{Done}
use Rattle.claim_core.specs.Work.{IsDone, IsInPlace, IsPartlyInPlace, OutputsAreUnique, HasOutput}

module _ {A : Type 0} where
  get_set : (l : List A) (i j : ℕ) (a b : A) → slice_get (set l i a) j ≡ Some b → ((j ≡ i) × (a ≡ b)) ⊎ (slice_get l j ≡ Some b)
  get_set [] i j a b e = inr e
  get_set (x ∷ xs) zero zero a b e = inl (refl, cc)
  get_set (x ∷ xs) zero (suc j) a b e = inr e
  get_set (x ∷ xs) (suc i) zero a b e = inr e
  get_set (x ∷ xs) (suc i) (suc j) a b e = ⊎_elim (λ t. inl (ap suc t.0, t.1)) (λ t. inr t) (get_set xs i j a b e)

  get_push : (l : List A) (j : ℕ) (a b : A) → slice_get (l ++ a ∷ []) j ≡ Some b → ((j ≡ length l) × (a ≡ b)) ⊎ (slice_get l j ≡ Some b)
  get_push [] zero a b e = inl (refl, cc)
  get_push [] (suc j) a b e = inr e
  get_push (x ∷ xs) zero a b e = inr e
  get_push (x ∷ xs) (suc j) a b e = ⊎_elim (λ t. inl (ap suc t.0, t.1)) (λ t. inr t) (get_push xs j a b e)

  pub get_set_here : (l : List A) (i : ℕ) (a : A) → i < length l → slice_get (set l i a) i ≡ Some a
  get_set_here [] i a h = absurd (omega arith)
  get_set_here (x ∷ xs) zero a h = refl
  get_set_here (x ∷ xs) (suc i) a h = get_set_here xs i a (omega arith)

  get_set_else : (l : List A) (i j : ℕ) (a : A) → j ≢ i → slice_get (set l i a) j ≡ slice_get l j
  get_set_else [] i j a n = refl
  get_set_else (x ∷ xs) zero zero a n = absurd (n refl)
  get_set_else (x ∷ xs) zero (suc j) a n = refl
  get_set_else (x ∷ xs) (suc i) zero a n = refl
  get_set_else (x ∷ xs) (suc i) (suc j) a n = get_set_else xs i j a (λ e. n (ap suc e))

-- an output that was found there
pub found_there : {X : Type 0} (slots : List (Option X)) (place : ℕ) (slot : Option X) → place < length slots → slot ≡ get_or slots place slot → is_some slot ≡ true → HasOutput slots place
found_there slots place None within here some = absurd (cc)
found_there slots place (Some y) within here some = (y, slice_get_read slots (length slots) place (Some y) refl within here)

-- no output was found there
pub none_there : {X : Type 0} (slots : List (Option X)) (place : ℕ) (slot : Option X) → place < length slots → slot ≡ get_or slots place slot → is_some slot ≡ false → HasOutput slots place → ⊥
none_there slots place None within here none there = let is = slice_get_read slots (length slots) place None refl within here in absurd cc
none_there slots place (Some y) within here none there = absurd cc

-- an output that is there stays
pub put_keeps : {X : Type 0} (slots new : List (Option X)) (d : Done X) (k : ℕ) → (new ≡ slots) ⊎ (new ≡ set slots d.place (Some d.output))
    → HasOutput new d.place → HasOutput slots k → HasOutput new k
put_keeps {X} slots new d k changed here there = ⊎_elim
    (λ (t : new ≡ slots). subst (λ (l : List (Option X)). HasOutput l k) (sym t) there)
    (λ (t : new ≡ set slots d.place (Some d.output)). dite (ℕ_discrete k d.place)
    (λ e. subst (λ j. HasOutput new j) (sym e) here)
    (λ ne. (there.0, ap (λ (l : List (Option X)). slice_get l k) t ∙ get_set_else slots d.place k (Some d.output) ne ∙ there.1)))
    changed

module _ {X : Type 0} (gives : ℕ → X → Type 0) where
  set_in_place : (slots : List (Option X)) (d : Done X) → IsPartlyInPlace gives slots → gives d.place d.output → IsPartlyInPlace gives (set slots d.place (Some d.output))
  set_in_place slots d old one k y e = ⊎_elim
      (λ (t : (k ≡ d.place) × (Some d.output ≡ Some y)). let same : d.output ≡ y = cc in subst (λ (z : ℕ × X). gives z.0 z.1) (λ i. (sym t.0 i, same i)) one)
      (λ (t : slice_get slots k ≡ Some (Some y)). old k y t)
      (get_set slots d.place k (Some d.output) (Some y) e)

  -- an output more
  pub put_in_place : (n : ℕ) (slots new : List (Option X)) (d : Done X) → length slots ≡ n → IsPartlyInPlace gives slots → IsDone n gives d
      → (new ≡ slots) ⊎ (new ≡ set slots d.place (Some d.output)) → (length new ≡ n) × IsPartlyInPlace gives new
  put_in_place n slots new d count old one changed = ⊎_elim
      (λ (t : new ≡ slots). subst (λ (l : List (Option X)). (length l ≡ n) × IsPartlyInPlace gives l) (sym t) (count, old))
      (λ (t : new ≡ set slots d.place (Some d.output)). subst (λ (l : List (Option X)). (length l ≡ n) × IsPartlyInPlace gives l) (sym t)
      (length-set slots d.place (Some d.output) ∙ count, set_in_place slots d old one.1))
      changed

  -- the next place's output
  pub push_in_place : (outputs : List X) (output : X) → IsInPlace gives outputs → gives (length outputs) output → IsInPlace gives (outputs ++ output ∷ [])
  push_in_place outputs output old one k y e = ⊎_elim
      (λ (t : (k ≡ length outputs) × (output ≡ y)). subst (λ (z : ℕ × X). gives z.0 z.1) (λ i. (sym t.0 i, t.1 i)) one)
      (λ (t : slice_get outputs k ≡ Some y). old k y t)
      (get_push outputs k output y e)

  -- each output that is there is one that its place may give, where the first place is n
  abbrev pub IsLeftInPlace : ℕ → List (Option X) → Type 0
  IsLeftInPlace n slots = (k : ℕ) (y : X) → slice_get slots k ≡ Some (Some y) → gives (n + k) y

  first_left : (n : ℕ) (slot : Option X) (slots : List (Option X)) → IsLeftInPlace n (slot ∷ slots) → IfSome slot (gives n)
  first_left n None slots left = tt
  first_left n (Some y) slots left = subst (λ m. gives m y) (omega arith) (left 0 y refl)

  rest_left : (n : ℕ) (slot : Option X) (slots : List (Option X)) → IsLeftInPlace n (slot ∷ slots) → IsLeftInPlace (n + 1) slots
  rest_left n slot slots left k y e = subst (λ m. gives m y) (omega arith) (left (suc k) y e)

  none_left : (n : ℕ) (slots : List (Option X)) → length slots ≡ 0 → IsLeftInPlace n slots
  none_left n [] e k y h = absurd (cc)
  none_left n (x ∷ xs) e k y h = absurd (omega arith)

  -- what the next slot holds, and what is left behind it
  pub next_left : (n len len' : ℕ) (slot : Option (Option X)) (slots slots' : List (Option X)) → IsLeftInPlace n slots → len ≡ length slots
      → slots ≡ option_to_list slot ++ slots' → len' + length (option_to_list slot) ≡ len → (0 < len → IsSome slot)
      → (len' ≡ length slots') × IfSome slot (λ there. IfSome there (gives n)) × IsLeftInPlace (n + 1) slots'
  next_left n len len' None slots slots' left whole is fewer more =
      let same : length slots ≡ length slots' = ap length is in
      let empty : length slots' ≡ 0 = grind arith in
      (omega arith, tt, none_left (n + 1) slots' empty)
  next_left n len len' (Some slot) slots slots' left whole is fewer more =
      let same : length slots ≡ suc (length slots') = ap length is in
      let left' : IsLeftInPlace n (slot ∷ slots') = subst (IsLeftInPlace n) is left in
      (omega arith, first_left n slot slots' left', rest_left n slot slots' left')

pub in_place_unique : {X Y : Type 0} (view : X → Y) (gives : ℕ → X → Type 0) → OutputsAreUnique view gives
in_place_unique view gives n one [] [] k m a b = refl
in_place_unique view gives n one [] (y ∷ ys) k m a b = absurd (omega arith)
in_place_unique view gives n one (x ∷ xs) [] k m a b = absurd (omega arith)
in_place_unique view gives n one (x ∷ xs) (y ∷ ys) k m a b =
    let first : view x ≡ view y = one 0 x y (omega arith) (a 0 x refl) (b 0 y refl) in
    let rest : map view xs ≡ map view ys =
    in_place_unique view (λ i. gives (suc i)) (length xs) (λ i v w lt. one (suc i) v w (omega arith)) xs ys refl (omega arith) (λ i. a (suc i)) (λ i. b (suc i)) in
    λ i. first i ∷ rest i
