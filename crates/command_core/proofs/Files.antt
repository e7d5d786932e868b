-- Files under names: what a write at a name leaves, and what it leaves alone.
use Rattle.std.proofs.Common.{◌≡◌, ◌≢◌, ℕ, ◌≤◌, Bool, true, false, cond, inl, inr, List, [], ◌∷◌, ◌++◌, take, length, Option, None, Some, unwrap_or, refl, sym, ap, ◌∙◌, arith}
use Rattle.std.specs.Ordering.{nat_cmp, eq_by_cmp}
use Rattle.std.specs.Cmp.Lexicographic.{slice_cmp, nat_list_cmp_total}
use Rattle.std.specs.FinMap.{get, insert, get-insert, same_map, slice_cmp-IsAntisymmetric, nat_cmp-IsAntisymmetric}
use Rattle.std.proofs.lemmas.Map.Text.{is_eq-slice_cmp}
use Rattle.std.proofs.lemmas.Slice.Eq.{bytes_eq-Decides}
use Rattle.outside_core.specs.Files.{Files, held, putting, extending, Torn}

not-true : (b : Bool) → (b ≡ true → ⊥) → b ≡ false
not-true true f = absurd (f refl)
not-true false f = refl

-- the second of two equal tests goes the way of the first
hidden : {A : Type 0} (t : Bool) (x y z : A) → cond t x z ≡ cond t x (cond t y z)
hidden true x y z = refl
hidden false x y z = refl

-- of two writes at a name the later one stands
insert-twice : (files : Files) (name earlier bytes : List ℕ) → insert (insert files name earlier) name bytes ≡ insert files name bytes
insert-twice files name earlier bytes = same_map nat_list_cmp_total (slice_cmp-IsAntisymmetric nat_cmp-IsAntisymmetric) _ _ (λ other.
    get-insert nat_list_cmp_total (insert files name earlier) name bytes other
    ∙ ap (λ (o : Option (List ℕ)). cond (eq_by_cmp (slice_cmp nat_cmp) other name) (Some bytes) o) (get-insert nat_list_cmp_total files name earlier other)
    ∙ sym (hidden (eq_by_cmp (slice_cmp nat_cmp) other name) (Some bytes) (Some earlier) (get files other))
    ∙ sym (get-insert nat_list_cmp_total files name bytes other))

-- what was written is held
held-insert : (files : Files) (name bytes : List ℕ) → held (insert files name bytes) name ≡ bytes
held-insert files name bytes =
    ap (λ (o : Option (List ℕ)). unwrap_or o []) (get-insert nat_list_cmp_total files name bytes name
    ∙ ap (λ t. cond t (Some bytes) (get files name)) (is_eq-slice_cmp name name ∙ (bytes_eq-Decides name name).1 refl))

-- another name keeps its bytes
pub get-other : (files : Files) (name bytes other : List ℕ) → other ≢ name → get (insert files name bytes) other ≡ get files other
get-other files name bytes other differ =
    get-insert nat_list_cmp_total files name bytes other
    ∙ ap (λ t. cond t (Some bytes) (get files other)) (not-true (eq_by_cmp (slice_cmp nat_cmp) other name) (λ e.
    differ ((bytes_eq-Decides other name).0 (sym (is_eq-slice_cmp other name) ∙ e))))

-- bytes behind a file that was begun
behind-nothing : (files : Files) (name bytes : List ℕ) → insert (insert files name []) name (held (insert files name []) name ++ bytes) ≡ insert files name bytes
behind-nothing files name bytes =
    ap (λ (now : List ℕ). insert (insert files name []) name (now ++ bytes)) (held-insert files name [])
    ∙ insert-twice files name [] bytes

-- a file that was begun and then got bytes holds exactly these
pub extending-putting : (told : Option Files) (name bytes : List ℕ) → extending (putting told name []) name bytes ≡ putting told name bytes
extending-putting told name [] = refl
extending-putting None name (x ∷ bytes) = refl
extending-putting (Some files) name (x ∷ bytes) = ap Some (behind-nothing files name (x ∷ bytes))

-- a file that was begun and then got bytes up to a failure holds exactly a front of these
pub Torn-putting : (told new : Option Files) (name bytes : List ℕ) → Torn (putting told name []) new name bytes
    → (k : ℕ) × (k ≤ length bytes) × (new ≡ putting told name (take k bytes))
Torn-putting told new name bytes (inl same) = (0, omega arith, same)
Torn-putting None new name bytes (inr (k, short, after)) = (k, short, after)
Torn-putting (Some files) new name bytes (inr (k, short, after)) = (k, short, after ∙ ap Some (behind-nothing files name (take k bytes)))
