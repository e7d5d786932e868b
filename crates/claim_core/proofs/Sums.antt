-- Sums over all views, where one view changes, and how often a number stands in a list that grows.
use Rattle.std.proofs.Common.{◌≡◌, ℕ, zero, suc, ◌+◌, ◌%◌, ◌^◌, List, [], ◌∷◌, ◌++◌, set, sym, ap, arith}
use Rattle.std.specs.Prelude.{◌==◌, if◌then◌else◌}
use Rattle.std.specs.List.{sum_by}
use Rattle.std.proofs.lemmas.List.Sums.{sum_by-append, sum_by_push, sum_by-cons}
use Rattle.std.proofs.lemmas.List.FromFn.{map-range_with_len_more}
use mathlib.Core.Option.{some, some-injective, some-ne-none}
use lib.ListN.{get_elem?}
use Rattle.claim_core.specs.declared.rule.View.{View}
use Rattle.claim_core.specs.Numbers.{times, remainders}

pub sum_set : (f : View → ℕ) (views : List View) (id : ℕ) (v w : View) → get_elem? views id ≡ some v → sum_by f (set views id w) + f v ≡ sum_by f views + f w
sum_set f [] id v w e = absurd (some-ne-none v (sym e))
sum_set f (x ∷ xs) zero v w e = let is : f x ≡ f v = ap f (some-injective x v e) in omega (arith, sum_by-cons f x xs, sum_by-cons f w xs)
sum_set f (x ∷ xs) (suc i) v w e = omega (arith, sum_by-cons f x xs, sum_by-cons f x (set xs i w), sum_set f xs i v w e)

pub times_push : (x y : ℕ) (ys : List ℕ) → times x (ys ++ y ∷ []) ≡ times x ys + (if y == x then 1 else 0)
times_push x y ys = sum_by_push (λ y. if y == x then 1 else 0) ys y

pub times_append : (x : ℕ) (ys zs : List ℕ) → times x (ys ++ zs) ≡ times x ys + times x zs
times_append x ys zs = sum_by-append (λ y. if y == x then 1 else 0) ys zs

pub remainders_more : (n : ℕ) → remainders (n + 1) ≡ remainders n ++ n % 2 ^ 64 ∷ []
remainders_more n = map-range_with_len_more (λ k. k % 2 ^ 64) 0 n n (omega arith)
