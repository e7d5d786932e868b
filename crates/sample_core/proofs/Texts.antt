-- The parts of the job's text, and what one entry more adds to each.
use Rattle.std.proofs.Common.{◌≡◌, ℕ, zero, suc, ◌+◌, ◌-◌, ◌*◌, ◌%◌, ◌<◌, ◌≤◌, List, [], ◌∷◌, ◌++◌, map, length, Bool, true, false, cond, refl, sym, ap, ◌∙◌}
use Rattle.std.proofs.Common.{append_assoc, append-nil, arith, length-append, add-zero, take, drop, length-take, length-drop}
use Rattle.std.specs.Prelude.{codes, flat_map, filter, sum_by, slice_index_or}
use Rattle.std.specs.List.{range_with_len}
use Rattle.std.specs.Int.{w32, w64, to_be_bytes}
use Rattle.std.proofs.lemmas.List.{take-append-drop}
use Rattle.std.proofs.Math.Seq.{take-length}
use Rattle.std.proofs.lemmas.List.Sums.{sum_by-append}
use Rattle.std.proofs.lemmas.List.Elements.{filter-append}
use Rattle.std.proofs.lemmas.Grind.{flat_map-append}
use mir.Val.{bool_byte}
use Rattle.sha2.specs.Sha256.{sha256}
use Rattle.sha2.proofs.Facts256.{length-sha256}
use Rattle.octets_core.specs.Numbers.{three_bytes}
use Rattle.job_core.specs.JobText.{range_record, crl_record, entry_record, spelling}
use Rattle.sample_core.specs.Sample.{moment, log_of, issuer_of, entry_digest, serial_of, leaf_front, leaf_of, entry, is_listed, is_listed_by}
use Rattle.sample_core.specs.Sample.{date, revoked_entry, revoked_entries, range_of, crl, sample_contents, sample_text, sample_revoked}
use Rattle.sample_core.specs.Parts.{head_front, head_text, entries_text}

-- ---- counting

range-from : (a n : ℕ) → range_with_len a (suc n) ≡ range_with_len a n ++ (a + n) ∷ []
range-from a zero = let e : a ≡ a + 0 = omega arith in ap (λ (x : ℕ). x ∷ []) e
range-from a (suc n) =
    let e : a + 1 + n ≡ a + suc n = omega arith in
    ap (λ (l : List ℕ). a ∷ l) (range-from (a + 1) n ∙ ap (λ (x : ℕ). range_with_len (a + 1) n ++ x ∷ []) e)

range-more : (n : ℕ) → range_with_len 0 (n + 1) ≡ range_with_len 0 n ++ n ∷ []
range-more n =
    let e : n + 1 ≡ suc n = omega arith in
    let f : 0 + n ≡ n = omega arith in
    ap (range_with_len 0) e ∙ range-from 0 n ∙ ap (λ (x : ℕ). range_with_len 0 n ++ x ∷ []) f

pub entries-more : (number i : ℕ) → entries_text number (i + 1) ≡ entries_text number i ++ entry_record (entry number i)
unfolding entries_text
entries-more number i =
    let text : ℕ → List ℕ = λ k. entry_record (entry number k) in
    ap (flat_map text) (range-more i)
    ∙ flat_map-append text (range_with_len 0 i) (i ∷ [])
    ∙ ap (λ (l : List ℕ). flat_map text (range_with_len 0 i) ++ l) (append-nil (text i))

pub entries-none : (number : ℕ) → entries_text number 0 ≡ []
unfolding entries_text
entries-none number = refl

listed-text : (f : ℕ → List ℕ) (b : Bool) (i : ℕ) → flat_map f (cond b (i ∷ []) []) ≡ cond b (f i) []
listed-text f true i = append-nil (f i)
listed-text f false i = refl

pub revoked-more : (number i j : ℕ) → revoked_entries number (i + 1) j ≡ revoked_entries number i j ++ cond (is_listed_by j i) (revoked_entry number i) []
revoked-more number i j =
    let text : ℕ → List ℕ = revoked_entry number in
    let test : ℕ → Bool = is_listed_by j in
    ap (λ (l : List ℕ). flat_map text (filter test l)) (range-more i)
    ∙ ap (flat_map text) (filter-append test (range_with_len 0 i) (i ∷ []))
    ∙ flat_map-append text (filter test (range_with_len 0 i)) (filter test (i ∷ []))
    ∙ ap (λ (l : List ℕ). flat_map text (filter test (range_with_len 0 i)) ++ l) (listed-text text (test i) i)

pub single : (f : ℕ → ℕ) (i : ℕ) → sum_by f (i ∷ []) ≡ f i
single f i = omega arith

pub listed-more : (i : ℕ) → sample_revoked (i + 1) ≡ sample_revoked i + cond (is_listed i) 1 0
unfolding sample_revoked
listed-more i =
    let one : ℕ → ℕ = λ k. cond (is_listed k) 1 0 in
    ap (sum_by one) (range-more i)
    ∙ sum_by-append one (range_with_len 0 i) (i ∷ [])
    ∙ ap (λ (n : ℕ). sum_by one (range_with_len 0 i) + n) (single one i)

byte-cases : (b : Bool) → bool_byte b ≡ cond b 1 0
byte-cases true = refl
byte-cases false = refl

pub byte-is : (b d : Bool) → b ≡ d → bool_byte b ≡ cond d 1 0
byte-is b d same = ap bool_byte same ∙ byte-cases d

pub byte-le : (b : Bool) → bool_byte b ≤ 1
byte-le true = omega arith
byte-le false = omega arith

pub listed-none : sample_revoked 0 ≡ 0
unfolding sample_revoked
listed-none = refl

-- ---- names

pub issuer-at : (number j : ℕ) (other : List ℕ) → j < 4
    → slice_index_or (issuer_of number 0 ∷ issuer_of number 1 ∷ issuer_of number 2 ∷ issuer_of number 3 ∷ []) j other ≡ issuer_of number j
issuer-at number zero other within = refl
issuer-at number (suc zero) other within = refl
issuer-at number (suc (suc zero)) other within = refl
issuer-at number (suc (suc (suc zero))) other within = refl
issuer-at number (suc (suc (suc (suc j)))) other within = absurd (omega arith)

-- ---- lengths

five : (a b c d e : List ℕ) → length (a ++ b ++ c ++ d ++ e) ≡ length a + (length b + (length c + (length d + length e)))
five a b c d e =
    omega (arith, length-append (a ++ b ++ c ++ d) e, length-append (a ++ b ++ c) d, length-append (a ++ b) c, length-append a b)

pub log-length : (number : ℕ) → length (log_of number) ≡ 32
log-length number = length-sha256 (codes "CCLOG" ++ to_be_bytes w64 number)

pub issuer-length : (number j : ℕ) → length (issuer_of number j) ≡ 32
issuer-length number j = length-sha256 (codes "CCISSUER" ++ to_be_bytes w64 number ++ j ∷ [])

pub front-length : (number i : ℕ) → length (take 15 (entry_digest number i)) ≡ 15
front-length number i =
    let message : List ℕ = codes "CCSAMPLE" ++ to_be_bytes w64 number ++ to_be_bytes w32 i in
    omega (arith, length-take 15 (sha256 message), length-sha256 message)

pub serial-length : (number i : ℕ) → length (serial_of number i) ≡ 16
unfolding serial_of
serial-length number i = omega (arith, front-length number i)

pub leaf_front-length : (number i : ℕ) → length (leaf_front number i) ≡ 44
unfolding leaf_front
leaf_front-length number i = omega (arith, issuer-length number (i % 4))

pub leaf-length : (number i : ℕ) → length (leaf_of number i) ≡ 69
unfolding leaf_of
leaf-length number i =
    omega (
      arith,
      leaf_front-length number i,
      serial-length number i,
      length-append (leaf_front number i ++ (0 ∷ 0 ∷ 20 ∷ 0x30 ∷ 0x12 ∷ 0x02 ∷ 0x10 ∷ []) ++ serial_of number i) (0 ∷ 0 ∷ []),
      length-append (leaf_front number i ++ (0 ∷ 0 ∷ 20 ∷ 0x30 ∷ 0x12 ∷ 0x02 ∷ 0x10 ∷ [])) (serial_of number i),
      length-append (leaf_front number i) (0 ∷ 0 ∷ 20 ∷ 0x30 ∷ 0x12 ∷ 0x02 ∷ 0x10 ∷ []),
    )

-- the record of an entry, byte by byte but for the log and the leaf
pub record-is : (number i : ℕ) → entry_record (entry number i) ≡ (3 ∷ []) ++ log_of number ++ (0 ∷ 0 ∷ 69 ∷ []) ++ leaf_of number i ++ (0 ∷ 0 ∷ 0 ∷ [])
record-is number i =
    ap (λ (l : List ℕ). 3 ∷ l) (append-nil (log_of number ++ three_bytes (length (leaf_of number i)) ++ leaf_of number i ++ (0 ∷ 0 ∷ 0 ∷ [])))
    ∙ ap (λ (n : ℕ). 3 ∷ (log_of number ++ three_bytes n ++ leaf_of number i ++ (0 ∷ 0 ∷ 0 ∷ []))) (leaf-length number i)

pub record-length : (number i : ℕ) → length (entry_record (entry number i)) ≡ 108
record-length number i =
    omega (
      arith,
      ap length (record-is number i),
      five (3 ∷ []) (log_of number) (0 ∷ 0 ∷ 69 ∷ []) (leaf_of number i) (0 ∷ 0 ∷ 0 ∷ []),
      log-length number,
      leaf-length number i,
    )

pub entries-length : (number count : ℕ) → length (entries_text number count) ≡ 108 * count
entries-length number zero = ap length (entries-none number)
entries-length number (suc n) =
    let e : suc n ≡ n + 1 = omega arith in
    let f : entries_text number (suc n) ≡ entries_text number n ++ entry_record (entry number n) = ap (entries_text number) e ∙ entries-more number n in
    omega (arith, ap length f, length-append (entries_text number n) (entry_record (entry number n)), record-length number n, entries-length number n)

-- the text of the first entries stands before that of more
pub entries-from : (number i d : ℕ) → (rest : List ℕ) × (entries_text number (i + d) ≡ entries_text number i ++ rest)
entries-from number i zero = ([], ap (entries_text number) (add-zero i) ∙ sym (append-nil (entries_text number i)))
entries-from number i (suc d) =
    let before = entries-from number i d in
    let e : i + suc d ≡ (i + d) + 1 = omega arith in
    let last : List ℕ = entry_record (entry number (i + d)) in (
      before.0 ++ last,
      ap (entries_text number) e
          ∙ entries-more number (i + d)
          ∙ ap (λ (l : List ℕ). l ++ last) before.1
          ∙ append_assoc (entries_text number i) before.0 last,
    )

-- ---- CRLs

revoked-length : (number i : ℕ) (b : Bool) → length (cond b (revoked_entry number i) []) ≤ 35
revoked-length number i true =
    omega (arith, serial-length number i, length-append ((0x30 ∷ 0x21 ∷ 0x02 ∷ 0x10 ∷ []) ++ serial_of number i) date)
revoked-length number i false = omega arith

pub revoked-next : (number i j : ℕ) (before now : List ℕ) → before ≡ revoked_entries number i j
    → now ≡ before ++ cond (is_listed_by j i) (revoked_entry number i) [] → now ≡ revoked_entries number (i + 1) j
revoked-next number i j before now so_far one =
    one ∙ ap (λ (l : List ℕ). l ++ cond (is_listed_by j i) (revoked_entry number i) []) so_far ∙ sym (revoked-more number i j)

pub revoked-longer : (number i j : ℕ) (before now : List ℕ) → length before ≤ 35 * i
    → now ≡ before ++ cond (is_listed_by j i) (revoked_entry number i) [] → length now ≤ 35 * (i + 1)
revoked-longer number i j before now so_far one =
    omega (arith, ap length one, length-append before (cond (is_listed_by j i) (revoked_entry number i) []), revoked-length number i (is_listed_by j i))

-- ---- the whole

flat_map-map : {X Y : Type 0} (f : Y → List ℕ) (g : X → Y) (xs : List X) → flat_map f (map g xs) ≡ flat_map (λ x. f (g x)) xs
flat_map-map f g [] = refl
flat_map-map f g (x ∷ xs) = ap (λ (l : List ℕ). f (g x) ++ l) (flat_map-map f g xs)

regrouped : (m r a b c d es z : List ℕ) → m ++ (r ++ []) ++ (a ++ (b ++ (c ++ (d ++ [])))) ++ es ++ z ≡ m ++ r ++ a ++ b ++ c ++ d ++ es ++ z
regrouped m r a b c d es z = simp (append_assoc, append-nil) refl

pub sample-parts : (number count : ℕ) → sample_text number count ≡ head_text number count ++ entries_text number count ++ 0 ∷ []
unfolding spelling sample_contents sample_text entries_text head_text head_front
sample-parts number count =
    let r : List ℕ = range_record (range_of number count) in
    let a : List ℕ = crl_record (crl number count 0) in
    let b : List ℕ = crl_record (crl number count 1) in
    let c : List ℕ = crl_record (crl number count 2) in
    let d : List ℕ = crl_record (crl number count 3) in
    let m : List ℕ = codes "CLUBJOB1" ++ to_be_bytes w64 1 ++ to_be_bytes w64 moment in
    regrouped m r a b c d (flat_map entry_record (map (entry number) (range_with_len 0 count))) (0 ∷ [])
    ∙ ap (λ (l : List ℕ). m ++ r ++ a ++ b ++ c ++ d ++ l ++ 0 ∷ []) (flat_map-map entry_record (entry number) (range_with_len 0 count))

pub sample-length : (number count : ℕ) → length (sample_text number count) ≡ length (head_text number count) + 108 * count + 1
sample-length number count =
    omega (
      arith,
      ap length (sample-parts number count),
      length-append (head_text number count ++ entries_text number count) (0 ∷ []),
      length-append (head_text number count) (entries_text number count),
      entries-length number count,
    )

-- a text that was cut in two
pub cut-in-two : (k : ℕ) (whole front rest : List ℕ) → front ≡ take k whole → rest ≡ take (length whole - k) (drop k whole) → front ++ rest ≡ whole
cut-in-two k whole front rest first left =
    let second : rest ≡ drop k whole = left ∙ ap (λ (n : ℕ). take n (drop k whole)) (sym (length-drop k whole)) ∙ take-length (drop k whole) in
    ap (λ (l : List ℕ). l ++ rest) first ∙ ap (λ (l : List ℕ). take k whole ++ l) second ∙ take-append-drop k whole
