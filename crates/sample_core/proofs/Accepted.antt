-- The generator's jobs are within the published limits, and their CRLs are accepted.
use Rattle.std.proofs.Common.{◌≡◌, ℕ, zero, suc, ◌+◌, ◌%◌, ◌<◌, ◌≤◌, List, [], ◌∷◌, map, length, Bool, true, false, ◌&&◌, ◌==◌, cond, Ok, refl, sym, ap, ◌∙◌, subst, arith}
use Rattle.std.specs.Prelude.{All, IsOk, filter, nat_le, sum_by, count_by}
use Rattle.std.specs.List.{range_with_len}
use Rattle.std.proofs.lemmas.Bool.{le-leb}
use Rattle.std.proofs.lemmas.List.{length-map}
use Rattle.std.proofs.lemmas.List.Sums.{length-filter, sum_by-append}
use Rattle.std.proofs.lemmas.List.Elements.{All-nil, All-cons}
use Rattle.std.proofs.lemmas.List.FromFn.{length-map-range_with_len}
use Rattle.crl_core.specs.Outcome.{outcome}
use Rattle.job_core.specs.declared.bounds.TheConstants.Limits.{PUBLISHED}
use Rattle.job_core.specs.JobFields.{CrlMeaning}
use Rattle.job_core.specs.JobLayout.{kept}
use Rattle.job_core.specs.JobMeaning.{crl_meaning, entry_meaning, meaning_of, kept_in, reading_of}
use Rattle.job_core.specs.Fitting.{IsWithinLimits}
use Rattle.sample_core.specs.Sample.{serial_of, is_listed, is_listed_by, crl, entry, entries_of, sample_contents, sample_revoked}
use Rattle.sample_core.specs.Accepted.{listed_serials}
use Rattle.sample_core.proofs.Texts.{single}
use Rattle.sample_core.proofs.CrlForms.{crl-accepted}

-- ---- serials

-- a number has one remainder
one-of-four : (b : Bool) (r : ℕ) → r < 4
    → cond (b && (r == 0)) 1 0 + (cond (b && (r == 1)) 1 0 + (cond (b && (r == 2)) 1 0 + cond (b && (r == 3)) 1 0)) ≡ cond b 1 0
one-of-four false r within = refl
one-of-four true zero within = refl
one-of-four true (suc zero) within = refl
one-of-four true (suc (suc zero)) within = refl
one-of-four true (suc (suc (suc zero))) within = refl
one-of-four true (suc (suc (suc (suc r)))) within = absurd (omega arith)

one-more : (test : ℕ → Bool) (i : ℕ) (numbers : List ℕ) → count_by test (i ∷ numbers) ≡ cond (test i) 1 0 + count_by test numbers
one-more test i numbers =
    let one : ℕ → ℕ = λ k. cond (test k) 1 0 in
    sum_by-append one (i ∷ []) numbers ∙ ap (λ (n : ℕ). n + sum_by one numbers) (single one i)

count-step : (b : Bool) (n k m : ℕ) → m ≡ cond b 1 0 + n → n ≤ k → m ≤ suc k
count-step true n k m sum few = omega arith
count-step false n k m sum few = omega arith

-- each entry that is listed is listed by one issuer
listed-once : (numbers : List ℕ)
    → count_by (is_listed_by 0) numbers + (count_by (is_listed_by 1) numbers + (count_by (is_listed_by 2) numbers + count_by (is_listed_by 3) numbers)) ≡ count_by is_listed numbers
listed-once [] = refl
listed-once (i ∷ numbers) =
    omega (
      arith,
      one-of-four (is_listed i) (i % 4) (omega arith),
      one-more (is_listed_by 0) i numbers,
      one-more (is_listed_by 1) i numbers,
      one-more (is_listed_by 2) i numbers,
      one-more (is_listed_by 3) i numbers,
      one-more is_listed i numbers,
      listed-once numbers,
    )

serials-count : (number count j : ℕ) → length (listed_serials number count j) ≡ count_by (is_listed_by j) (range_with_len 0 count)
serials-count number count j =
    length-map (filter (is_listed_by j) (range_with_len 0 count)) (serial_of number) ∙ length-filter (is_listed_by j) (range_with_len 0 count)

kept-count : (number count j : ℕ) → count ≤ 1000000 → kept (outcome (crl number count j).bytes) ≡ count_by (is_listed_by j) (range_with_len 0 count)
kept-count number count j few = ap kept (crl-accepted number count j few) ∙ serials-count number count j

pub sample-kept : (number count : ℕ) → count ≤ 1000000 → kept_in (meaning_of (sample_contents number count)).crls ≡ sample_revoked count
unfolding sample_contents sample_revoked
sample-kept number count few =
    omega (
      arith,
      kept-count number count 0 few,
      kept-count number count 1 few,
      kept-count number count 2 few,
      kept-count number count 3 few,
      listed-once (range_with_len 0 count),
    )

count-bound : (test : ℕ → Bool) (numbers : List ℕ) → count_by test numbers ≤ length numbers
count-bound test [] = omega arith
count-bound test (i ∷ numbers) = count-step (test i) (count_by test numbers) (length numbers) (count_by test (i ∷ numbers)) (one-more test i numbers) (count-bound test numbers)

kept-bound : (number count : ℕ) → count ≤ 1000000 → kept_in (meaning_of (sample_contents number count)).crls ≤ 16777216
unfolding sample_revoked
kept-bound number count few =
    omega (arith, sample-kept number count few, count-bound is_listed (range_with_len 0 count), length-map-range_with_len (λ i. i) 0 count, length-map (range_with_len 0 count) (λ (i : ℕ). i))

-- ---- CRLs

crls-accepted : (number count : ℕ) → count ≤ 1000000 → (js : List ℕ) → All (λ c. IsOk c.outcome) (map crl_meaning (map (crl number count) js))
crls-accepted number count few [] = All-nil (λ (c : CrlMeaning). IsOk c.outcome)
crls-accepted number count few (j ∷ js) =
    All-cons (λ (c : CrlMeaning). IsOk c.outcome) (crl_meaning (crl number count j)) (map crl_meaning (map (crl number count) js))
    (subst (λ r. IsOk r) (sym (crl-accepted number count j few)) refl) (crls-accepted number count few js)

pub sample-accepted : (number count : ℕ) → count ≤ 1000000 → All (λ c. IsOk c.outcome) (meaning_of (sample_contents number count)).crls
unfolding sample_contents
sample-accepted number count few = crls-accepted number count few (0 ∷ 1 ∷ 2 ∷ 3 ∷ [])

-- ---- the job

entries-meant : (number count : ℕ) → length (map entry_meaning (entries_of number count)) ≡ count
entries-meant number count = length-map (entries_of number count) entry_meaning ∙ length-map-range_with_len (entry number) 0 count

pub sample-within : (number count : ℕ) → count ≤ 1000000 → IsWithinLimits PUBLISHED (meaning_of (sample_contents number count))
unfolding sample_contents
sample-within number count few = record {
  ranges = omega arith;
  crls = omega arith;
  serials = kept-bound number count few;
  entries = omega (arith, entries-meant number count);
}

pub sample-means : (number count : ℕ) → count ≤ 1000000 → reading_of PUBLISHED (sample_contents number count) ≡ Ok (meaning_of (sample_contents number count))
sample-means number count few =
    let within : nat_le (kept_in (meaning_of (sample_contents number count)).crls) 16777216 ≡ true = le-leb _ 16777216 (kept-bound number count few) in
    rw within refl
