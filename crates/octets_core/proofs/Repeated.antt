-- Reading one after the other, as a loop does.
use Rattle.std.proofs.Common.{◌≡◌, ℕ, suc, ◌-◌, ◌+◌, ◌≤◌, ◌<◌, List, [], ◌∷◌, ◌++◌, Result, Ok, Err, refl, sym, ap, ◌∙◌, append_assoc, arith}
use Rattle.std.proofs.lemmas.List.{append-nil}
use Rattle.octets_core.specs.Layout.{Layout, then_read, whole, repeated}

-- what was read before, and what is still read
abbrev pub with_front : {E X : Type 0} → List X → Result (List X × ℕ) E → Result (List X × ℕ) E
with_front front (Ok x) = Ok (front ++ x.0, x.1)
with_front front (Err e) = Err e

abbrev behind : {E X : Type 0} → X → List ℕ → Result (List X × ℕ) E → Result (List X × ℕ) E
behind x bytes read = then_read read (λ others. whole (x ∷ others)) bytes

regroup : {E X : Type 0} (front : List X) (x : X) (bytes : List ℕ) (read : Result (List X × ℕ) E) → with_front front (behind x bytes read) ≡ with_front (front ++ x ∷ []) read
regroup front x bytes (Ok r) = ap (λ xs. Ok (xs, r.1)) (sym (append_assoc front (x ∷ []) r.0))
regroup front x bytes (Err e) = refl

pub goes_on : {E S X : Type 0} (item : S → Layout E X) (next : S → X → S) (front : List X) (count i : ℕ) (s : S) (bytes : List ℕ) (p : ℕ) (x : X) (q : ℕ) (total : Result (List X × ℕ) E)
    → i < count → item s bytes p ≡ Ok (x, q) → with_front front (repeated item next (count - i) s bytes p) ≡ total
    → with_front (front ++ x ∷ []) (repeated item next (count - (i + 1)) (next s x) bytes q) ≡ total
unfolding repeated
goes_on item next front count i s bytes p x q total lt h so_far =
    let k : count - i ≡ suc (count - (i + 1)) = omega arith in
    let one : with_front front (repeated item next (count - i) s bytes p)
    ≡ with_front (front ++ x ∷ []) (repeated item next (count - (i + 1)) (next s x) bytes q) = rw (k, h)
    (regroup front x bytes (repeated item next (count - (i + 1)) (next s x) bytes q)) in
    sym one ∙ so_far

pub ends : {E S X : Type 0} (item : S → Layout E X) (next : S → X → S) (front : List X) (count i : ℕ) (s : S) (bytes : List ℕ) (p : ℕ) (e : E) (total : Result (List X × ℕ) E)
    → i < count → item s bytes p ≡ Err e → with_front front (repeated item next (count - i) s bytes p) ≡ total → total ≡ Err e
unfolding repeated
ends item next front count i s bytes p e total lt h so_far =
    let k : count - i ≡ suc (count - (i + 1)) = omega arith in
    let one : with_front front (repeated item next (count - i) s bytes p) ≡ Err e = rw (k, h) refl in
    sym so_far ∙ one

pub is_done : {E S X : Type 0} (item : S → Layout E X) (next : S → X → S) (front : List X) (count i : ℕ) (s : S) (bytes : List ℕ) (p : ℕ) (total : Result (List X × ℕ) E)
    → count ≤ i → with_front front (repeated item next (count - i) s bytes p) ≡ total → total ≡ Ok (front, p)
unfolding repeated
is_done item next front count i s bytes p total le so_far =
    let k : count - i ≡ 0 = omega arith in
    let one : with_front front (repeated item next (count - i) s bytes p) ≡ Ok (front, p) = rw k (ap (λ xs. Ok (xs, p)) (append-nil front)) in
    sym so_far ∙ one
