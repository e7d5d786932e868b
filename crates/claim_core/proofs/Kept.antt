-- Each kind of step keeps the rule of the counter.
use Rattle.std.proofs.Common.{◌≡◌, ◌≢◌, ℕ, ◌+◌, ◌%◌, ◌^◌, true, false, List, [], ◌∷◌, ◌++◌, length, set, sym, ap, ◌∙◌, subst, arith, refl, ⊎_elim, length-append}
use Rattle.std.specs.Prelude.{slice_index, slice_set, ◌==◌, if◌then◌else◌}
use Rattle.std.proofs.lemmas.List.Sums.{sum_by_push}
use mathlib.Core.Option.{none, some}
use lib.ListN.{get_elem?}
use Rattle.atomic_table.specs.Table.{Me, step, keeps, Allows, Splits, Joins}
use Rattle.atomic_table.proofs.Lists.{at_set, at_snoc, set_again}
use Rattle.claim_core.specs.declared.rule.View.{View}
use Rattle.claim_core.specs.Numbers.{times, remainders}
use Rattle.claim_core.specs.Counting.{view_of, drawn, times_drawn, IsCounted, Finds}
use Rattle.claim_core.proofs.Sums.{sum_set, times_push, times_append, remainders_more}

abbrev M : Type 0
M = Me (Unit {0}) View

abbrev SpentIsEmpty : List View → Type 0
SpentIsEmpty views = (k : ℕ) (v : View) → get_elem? views k ≡ some v → v.spent ≡ true → v.numbers ≡ []

spent_set : (views : List View) (id : ℕ) (w : View) → SpentIsEmpty views → (w.spent ≡ true → w.numbers ≡ []) → SpentIsEmpty (set views id w)
spent_set views id w old mine k u e = ⊎_elim
    (λ (t : (k ≡ id) × (w ≡ u)). subst (λ (z : View). z.spent ≡ true → z.numbers ≡ []) t.1 mine)
    (λ (t : (k ≢ id) × (get_elem? views k ≡ some u)). old k u t.1)
    (at_set views id k w u e)

-- a view with one number more, where the word is r
abbrev pub drew : View → ℕ → View
drew v r = view_of v.spent (v.numbers ++ r ∷ [])

pub drawn_more : (views : List View) (id : ℕ) (v : View) (r : ℕ) → get_elem? views id ≡ some v → drawn (set views id (drew v r)) ≡ drawn views + 1
drawn_more views id v r at = omega (arith, sum_set (λ u. length u.numbers) views id v (drew v r) at, length-append v.numbers (r ∷ []))

times_more : (x : ℕ) (views : List View) (id : ℕ) (v : View) (n : ℕ) → get_elem? views id ≡ some v → times_drawn x views ≡ times x (remainders n)
    → times_drawn x (set views id (drew v (n % 2 ^ 64))) ≡ times x (remainders (n + 1))
times_more x views id v n at old =
    let r : ℕ = n % 2 ^ 64 in
    let total = sum_set (λ u. times x u.numbers) views id v (drew v r) at in
    let mine = times_push x r v.numbers in
    let all : times x (remainders (n + 1)) ≡ times x (remainders n) + (if r == x then 1 else 0) = ap (times x) (remainders_more n) ∙ times_push x r (remainders n) in
    omega arith

next_word : (n : ℕ) → (n % 2 ^ 64 + 1) % 2 ^ 64 ≡ (n + 1) % 2 ^ 64
next_word n = omega arith

pub draw_kept : (words : List ℕ) (views : List View) (id : ℕ) (v : View) → v.spent ≡ false → get_elem? views id ≡ some v → IsCounted words views
    → IsCounted (slice_set words 0 ((slice_index words 0 + 1) % 2 ^ 64)) (set views id (drew v (slice_index words 0)))
draw_kept words views id v live at kept =
    let n : ℕ = drawn views in
    let r : ℕ = n % 2 ^ 64 in
    let more : drawn (set views id (drew v r)) ≡ n + 1 = drawn_more views id v r at in
    let P : List ℕ → Type 0 = λ ws. IsCounted (slice_set ws 0 ((slice_index ws 0 + 1) % 2 ^ 64)) (set views id (drew v (slice_index ws 0))) in
    subst P (sym kept.word) record {
      word = ap (λ k. k ∷ []) (next_word n ∙ ap (λ k. k % 2 ^ 64) (sym more));
      numbers = λ x. times_more x views id v n at (kept.numbers x) ∙ ap (λ k. times x (remainders k)) (sym more);
      spent = spent_set views id (drew v r) kept.spent (λ t. cc);
    }

-- a draw
pub draws : (slots id : ℕ) (me : M) → me.0.spent ≡ false
    → Allows (λ s. IsCounted s.words s.views) slots id me 0 (λ n. (n + 1) % 2 ^ 64) (Finds (step slots 0 1 0 none) me)
draws slots id me live s kept _ at small =
    (drew me.0 (slice_index s.words 0), keeps, tt, draw_kept s.words s.views id me.0 live at kept, (small, refl))

-- a new view with no number
snoc_kept : (words : List ℕ) (views : List View) → IsCounted words views → IsCounted words (views ++ view_of false [] ∷ [])
snoc_kept words views kept =
    let same : drawn (views ++ view_of false [] ∷ []) ≡ drawn views = omega (arith, sum_by_push (λ (u : View). length u.numbers) views (view_of false [])) in record {
      word = kept.word ∙ ap (λ k. k % 2 ^ 64 ∷ []) (sym same);
      numbers = λ x.
          let total = sum_by_push (λ (u : View). times x u.numbers) views (view_of false []) in
          let old = kept.numbers x in
          let all : times x (remainders (drawn (views ++ view_of false [] ∷ []))) ≡ times x (remainders (drawn views)) = ap (λ k. times x (remainders k)) same in
          omega arith;
      spent = λ k u e. ⊎_elim (kept.spent k u) (λ (t : view_of false [] ≡ u). λ is. cc) (at_snoc views (view_of false []) u k e);
    }

-- a seat parts from another
pub splits : (id : ℕ) (v : View) → Splits {S = Unit {0}} (λ s. IsCounted s.words s.views) id v v (view_of false [])
splits id v s kept at = subst (λ vs. IsCounted s.words (vs ++ view_of false [] ∷ [])) (sym (set_again s.views id v at)) (snoc_kept s.words s.views kept)

-- a seat takes in another
pub joins : (id : ℕ) (v : View) (other : ℕ) (w : View) → v.spent ≡ false
    → Joins {S = Unit {0}} (λ s. IsCounted s.words s.views) id v other w (view_of v.spent (v.numbers ++ w.numbers)) (view_of true [])
joins id v other w live s kept at apart at' =
    let both : View = view_of v.spent (v.numbers ++ w.numbers) in
    let one : List View = set s.views id both in
    let two : List View = set one other (view_of true []) in
    let same : drawn two ≡ drawn s.views =
    omega (arith, sum_set (λ u. length u.numbers) s.views id v both at, sum_set (λ u. length u.numbers) one other w (view_of true []) at', length-append v.numbers w.numbers) in record {
      word = kept.word ∙ ap (λ k. k % 2 ^ 64 ∷ []) (sym same);
      numbers = λ x.
          let first = sum_set (λ u. times x u.numbers) s.views id v both at in
          let second = sum_set (λ u. times x u.numbers) one other w (view_of true []) at' in
          let mine = times_append x v.numbers w.numbers in
          let old = kept.numbers x in
          let all : times x (remainders (drawn two)) ≡ times x (remainders (drawn s.views)) = ap (λ k. times x (remainders k)) same in
          omega arith;
      spent = spent_set one other (view_of true []) (spent_set s.views id both kept.spent (λ t. cc)) (λ _. refl);
    }
