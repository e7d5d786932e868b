-- The record of an entry as one array.
use Rattle.std.proofs.Common.{◌≡◌, ℕ, zero, suc, ◌+◌, ◌%◌, ◌≤◌, List, [], ◌∷◌, ◌++◌, take, drop, get_or, length, refl, sym, ap, ◌∙◌, arith}
use Rattle.std.specs.Prelude.{codes}
use Rattle.std.specs.Int.{w32, w64, to_be_bytes}
use Rattle.sha2.proofs.Facts256.{length-sha256}
use Rattle.std.proofs.lemmas.List.{drop_more, take_all}
use Rattle.job_core.specs.JobText.{entry_record}
use Rattle.sample_core.specs.Sample.{moment, log_of, issuer_of, entry_digest, serial_of, leaf_front, leaf_of, entry}
use Rattle.sample_core.proofs.Texts.{log-length, issuer-length, record-is}

-- so many elements from a place on
abbrev pub elements : List ℕ → ℕ → ℕ → List ℕ
elements xs i zero = []
elements xs i (suc n) = get_or xs i 0 ∷ elements xs (i + 1) n

elements-are : (xs : List ℕ) (i n : ℕ) → i + n ≤ length xs → elements xs i n ≡ take n (drop i xs)
elements-are xs i zero le = refl
elements-are xs i (suc n) le =
    ap (λ (rest : List ℕ). get_or xs i 0 ∷ rest) (elements-are xs (i + 1) n (omega (arith, le))) ∙ sym (ap (take (suc n)) (drop_more xs i 0 (omega (arith, le))))

elements-all : (n : ℕ) (xs ys : List ℕ) → length xs ≡ n → xs ≡ ys → elements xs 0 n ≡ ys
elements-all n xs ys is same = elements-are xs 0 n (omega (arith, is)) ∙ take_all n xs (omega (arith, is)) ∙ same

time-length : (time : ℕ) → length (to_be_bytes w64 time) ≡ 8
time-length time = omega arith

digest-length : (number i : ℕ) → length (entry_digest number i) ≡ 32
digest-length number i = length-sha256 (codes "CCSAMPLE" ++ to_be_bytes w64 number ++ to_be_bytes w32 i)

-- the pieces of a leaf, and of a record
abbrev leaf_with : (time issuer digest : List ℕ) → List ℕ
leaf_with time issuer digest =
    (0 ∷ 0 ∷ []) ++ time ++ (0 ∷ 1 ∷ []) ++ issuer ++ (0 ∷ 0 ∷ 20 ∷ 0x30 ∷ 0x12 ∷ 0x02 ∷ 0x10 ∷ []) ++ (0x01 ∷ digest) ++ (0 ∷ 0 ∷ [])

abbrev pub record_with : (log time issuer digest : List ℕ) → List ℕ
record_with log time issuer digest = (3 ∷ []) ++ log ++ (0 ∷ 0 ∷ 69 ∷ []) ++ leaf_with time issuer digest ++ (0 ∷ 0 ∷ 0 ∷ [])

leaf-is : (number i : ℕ) → leaf_of number i ≡ leaf_with (to_be_bytes w64 (moment + i)) (issuer_of number (i % 4)) (take 15 (entry_digest number i))
unfolding leaf_of leaf_front serial_of
leaf-is number i = refl

record-with : (number i : ℕ) (leaf : List ℕ) → leaf ≡ leaf_of number i → (3 ∷ []) ++ log_of number ++ (0 ∷ 0 ∷ 69 ∷ []) ++ leaf ++ (0 ∷ 0 ∷ 0 ∷ []) ≡ entry_record (entry number i)
record-with number i leaf is = ap (λ (l : List ℕ). (3 ∷ []) ++ log_of number ++ (0 ∷ 0 ∷ 69 ∷ []) ++ l ++ (0 ∷ 0 ∷ 0 ∷ [])) is ∙ sym (record-is number i)

pub record-spelled : (number i : ℕ) (log time issuer digest : List ℕ) → log ≡ log_of number → time ≡ to_be_bytes w64 (moment + i)
    → issuer ≡ issuer_of number (i % 4) → digest ≡ entry_digest number i
    → record_with (elements log 0 32) (elements time 0 8) (elements issuer 0 32) (elements digest 0 15) ≡ entry_record (entry number i)
record-spelled number i log time issuer digest is1 is2 is3 is4 =
    let len1 : length log ≡ 32 = ap length is1 ∙ log-length number in
    let len2 : length time ≡ 8 = ap length is2 ∙ time-length (moment + i) in
    let len3 : length issuer ≡ 32 = ap length is3 ∙ issuer-length number (i % 4) in
    let len4 : length digest ≡ 32 = ap length is4 ∙ digest-length number i in
    ap (λ (l : List ℕ). record_with l (elements time 0 8) (elements issuer 0 32) (elements digest 0 15)) (elements-all 32 log (log_of number) len1 is1)
    ∙ ap (λ (l : List ℕ). record_with (log_of number) l (elements issuer 0 32) (elements digest 0 15)) (elements-all 8 time (to_be_bytes w64 (moment + i)) len2 is2)
    ∙ ap (λ (l : List ℕ). record_with (log_of number) (to_be_bytes w64 (moment + i)) l (elements digest 0 15)) (elements-all 32 issuer (issuer_of number (i % 4)) len3 is3)
    ∙ ap (record_with (log_of number) (to_be_bytes w64 (moment + i)) (issuer_of number (i % 4))) (elements-are digest 0 15 (omega (arith, len4)) ∙ ap (take 15) is4)
    ∙ record-with number i (leaf_with (to_be_bytes w64 (moment + i)) (issuer_of number (i % 4)) (take 15 (entry_digest number i))) (sym (leaf-is number i))
