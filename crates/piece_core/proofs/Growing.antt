-- Texts that grow, place by place.
use lib.Dec.{eqb-zero-suc, eqb-suc-zero, eqb-suc-suc}
use Rattle.std.proofs.Common.{◌≡◌, ℕ, zero, suc, ◌<◌, List, [], ◌∷◌, ◌++◌, length, set, get_or, Some, Vec, Global, sym, arith}
use Rattle.std.proofs.lemmas.List.{append-nil, length-set}
use Rattle.piece_core.specs.Texts.{text_at, part_at, IsLonger}

put_there : (vs : List (Vec ℕ Global)) (q p : ℕ) (v w : Vec ℕ Global) (more : List ℕ) → q < length vs → w.items ≡ (get_or vs q v).items ++ more
    → text_at (set vs q w) p ≡ text_at vs p ++ part_at (Some q) p more
put_there [] q p v w more lt is = absurd (omega (arith, lt))
put_there (u ∷ vs) zero zero v w more lt is = is
put_there (u ∷ vs) zero (suc p) v w more lt is = rw (eqb-zero-suc p) (sym (append-nil (text_at vs p)))
put_there (u ∷ vs) (suc q) zero v w more lt is = rw (eqb-suc-zero q) (sym (append-nil u.items))
put_there (u ∷ vs) (suc q) (suc p) v w more lt is = rw (eqb-suc-suc q p) (put_there vs q p v w more (omega (arith, lt)) is)

-- more is put behind the text of one place
pub put_one : (vs : List (Vec ℕ Global)) (q : ℕ) (v w : Vec ℕ Global) (more : List ℕ) → q < length vs → w.items ≡ (get_or vs q v).items ++ more
    → IsLonger (Some q) more vs (set vs q w)
put_one vs q v w more lt is = record { count = length-set vs q w; each = λ p below. put_there vs q p v w more lt is }

-- one more text of these bytes behind others of them
pub one_more : (vs : List (Vec ℕ Global)) (v : Vec ℕ Global) (b : List ℕ) → v.items ≡ b → ((p : ℕ) → p < length vs → text_at vs p ≡ b)
    → (p : ℕ) → p < length (vs ++ v ∷ []) → text_at (vs ++ v ∷ []) p ≡ b
one_more [] v b is all zero lt = is
one_more [] v b is all (suc p) lt = absurd (omega (arith, lt))
one_more (w ∷ vs) v b is all zero lt = all 0 (omega arith)
one_more (w ∷ vs) v b is all (suc p) lt = one_more vs v b is (λ q below. all (suc q) (omega (arith, below))) p (omega (arith, lt))
