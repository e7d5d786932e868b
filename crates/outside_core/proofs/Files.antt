-- Files and parts of lists.
use Rattle.std.proofs.Common.{◌≡◌, ◌≢◌, ℕ, ◌+◌, ◌≤◌, Bool, List, [], ◌++◌, true, false, cond, Option, Some, unwrap_or, refl, sym, ap, ◌∙◌, arith, ◌-◌, length, take, drop, length-take, length-drop}
use Rattle.std.specs.Ordering.{nat_cmp, eq_by_cmp}
use Rattle.std.specs.Cmp.Lexicographic.{slice_cmp, nat_list_cmp_total}
use Rattle.std.specs.FinMap.{get, insert, get-insert, same_map, slice_cmp-IsAntisymmetric, nat_cmp-IsAntisymmetric}
use Rattle.std.proofs.lemmas.List.{take_all, take-take}
use Rattle.std.proofs.Math.Seq.{take-add}
use Rattle.std.proofs.lemmas.Map.Text.{is_eq-slice_cmp}
use Rattle.std.proofs.lemmas.Slice.Eq.{bytes_eq-Decides}
use Rattle.outside_core.specs.Files.{Files, held}

pub not_true : (b : Bool) → (b ≡ true → ⊥) → b ≡ false
not_true true f = absurd (f refl)
not_true false f = refl

-- the slice from i on, as `&xs[i..]` gives it
pub rest_from : (xs : List ℕ) (i : ℕ) → take (length xs - i) (drop i xs) ≡ drop i xs
rest_from xs i = take_all (length xs - i) (drop i xs) (omega (arith, length-drop i xs))

-- a front of the next piece behind the bytes before it
pub taken-next : (xs piece : List ℕ) (i m n : ℕ) → piece ≡ take m (drop i xs) → n ≤ length piece → take i xs ++ take n piece ≡ take (i + n) xs
taken-next xs piece i m n offered within =
    let few : n ≤ m = omega (arith, length-take m (drop i xs), ap length offered) in
    ap (λ (p : List ℕ). take i xs ++ take n p) offered
    ∙ ap (λ (p : List ℕ). take i xs ++ p) (take-take n m (drop i xs) few)
    ∙ sym (take-add i n xs)

-- the second of two equal tests always goes the way of the first
pub hidden : {A : Type 0} (t : Bool) (x y z : A) → cond t x z ≡ cond t x (cond t y z)
hidden true x y z = refl
hidden false x y z = refl

again : (t : Bool) (o : Option (List ℕ)) (b : List ℕ) → (t ≡ true → o ≡ Some b) → cond t (Some b) o ≡ o
again true o b h = sym (h refl)
again false o b h = refl

-- to write what is held changes nothing
pub insert-held : (files : Files) (name bytes : List ℕ) → get files name ≡ Some bytes → insert files name bytes ≡ files
insert-held files name bytes is = same_map nat_list_cmp_total (slice_cmp-IsAntisymmetric nat_cmp-IsAntisymmetric) _ _ (λ other.
    get-insert nat_list_cmp_total files name bytes other
    ∙ again (eq_by_cmp (slice_cmp nat_cmp) other name) (get files other) bytes (λ e.
    let same : other ≡ name = (bytes_eq-Decides other name).0 (sym (is_eq-slice_cmp other name) ∙ e) in
    ap (get files) same ∙ is))

-- of two writes at a name the later one stands
pub insert-twice : (files : Files) (name earlier bytes : List ℕ) → insert (insert files name earlier) name bytes ≡ insert files name bytes
insert-twice files name earlier bytes = same_map nat_list_cmp_total (slice_cmp-IsAntisymmetric nat_cmp-IsAntisymmetric) _ _ (λ other.
    get-insert nat_list_cmp_total (insert files name earlier) name bytes other
    ∙ ap (λ (o : Option (List ℕ)). cond (eq_by_cmp (slice_cmp nat_cmp) other name) (Some bytes) o) (get-insert nat_list_cmp_total files name earlier other)
    ∙ sym (hidden (eq_by_cmp (slice_cmp nat_cmp) other name) (Some bytes) (Some earlier) (get files other))
    ∙ sym (get-insert nat_list_cmp_total files name bytes other))

-- what was written is held
pub held-insert : (files : Files) (name bytes : List ℕ) → held (insert files name bytes) name ≡ bytes
held-insert files name bytes =
    ap (λ (o : Option (List ℕ)). unwrap_or o []) (get-insert nat_list_cmp_total files name bytes name
    ∙ ap (λ t. cond t (Some bytes) (get files name)) (is_eq-slice_cmp name name ∙ (bytes_eq-Decides name name).1 refl))

-- another name keeps its bytes
pub get-other : (files : Files) (name bytes other : List ℕ) → other ≢ name → get (insert files name bytes) other ≡ get files other
get-other files name bytes other differ =
    get-insert nat_list_cmp_total files name bytes other
    ∙ ap (λ t. cond t (Some bytes) (get files other)) (not_true (eq_by_cmp (slice_cmp nat_cmp) other name) (λ e.
    differ ((bytes_eq-Decides other name).0 (sym (is_eq-slice_cmp other name) ∙ e))))
