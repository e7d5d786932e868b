-- The generator's job fits its fields and keeps the published limits.
use Rattle.std.proofs.Common.{◌≡◌, ℕ, zero, suc, ◌+◌, ◌*◌, ◌≤◌, List, [], ◌∷◌, ◌++◌, map, length, Bool, true, false, cond, refl, subst, arith, length-append}
use Rattle.std.specs.List.{range_with_len}
use Rattle.std.specs.Prelude.{All, nat_lt}
use Rattle.std.proofs.lemmas.List.Elements.{All-nil, All-cons}
use Rattle.std.proofs.lemmas.List.FromFn.{length-map-range_with_len}
use Rattle.job_core.specs.declared.bounds.TheConstants.Limits.{PUBLISHED}
use Rattle.job_core.specs.declared.bounds.Limits.{Limits}
use Rattle.job_core.specs.JobMeaning.{reading_of, job_of}
use Rattle.job_core.specs.JobText.{JobContents, FitsJob, FitsCrl, FitsEntry, spelling}
use Rattle.sample_core.specs.Sample.{entry, entries_of, der_length, sequence, sequence_of_some, date, algorithm, revoked_entries, crl_body, crl_with, crl, sample_contents, sample_text}
use Rattle.sample_core.proofs.Texts.{log-length, issuer-length, leaf-length, revoked-more, revoked-longer}

-- ---- CRLs

pub revoked-bound : (number count j : ℕ) → length (revoked_entries number count j) ≤ 35 * count
revoked-bound number zero j = omega arith
revoked-bound number (suc count) j =
    let e : count + 1 ≡ suc count = omega arith in
    subst (λ (n : ℕ). length (revoked_entries number n j) ≤ 35 * n) e
    (revoked-longer number count j (revoked_entries number count j) (revoked_entries number (count + 1) j) (revoked-bound number count j) (revoked-more number count j))

one-of : (b : Bool) (x y : List ℕ) (k : ℕ) → length x ≤ k → length y ≤ k → length (cond b x y) ≤ k
one-of true x y k first second = first
one-of false x y k first second = second

length-short : (n : ℕ) → length (der_length n) ≤ 5
length-short n =
    one-of (nat_lt n 128) _ _ 5 (omega arith) (one-of (nat_lt n 256) _ _ 5 (omega arith) (one-of (nat_lt n 65536) _ _ 5 (omega arith) (one-of (nat_lt n 16777216) _ _ 5 (omega arith) (omega arith))))

sequence-bound : (contents : List ℕ) → length (sequence contents) ≤ length contents + 6
sequence-bound contents = omega (arith, length-short (length contents), length-append (der_length (length contents)) contents)

some-bound : (contents : List ℕ) → length (sequence_of_some contents) ≤ length contents + 6
some-bound [] = omega arith
some-bound (x ∷ contents) = sequence-bound (x ∷ contents)

pub contents-bound : (entries : List ℕ) → length ((0x02 ∷ 0x01 ∷ 0x01 ∷ []) ++ algorithm ++ (0x30 ∷ 0x00 ∷ []) ++ date ++ sequence_of_some entries) ≤ length entries + 38
contents-bound entries =
    let inner : List ℕ = (0x02 ∷ 0x01 ∷ 0x01 ∷ []) ++ algorithm ++ (0x30 ∷ 0x00 ∷ []) ++ date ++ sequence_of_some entries in
    let long : length inner ≡ 32 + length (sequence_of_some entries) = omega arith in
    omega (arith, long, some-bound entries)

pub body-bound : (entries : List ℕ) → length (crl_body entries) ≤ length entries + 44
body-bound entries =
    omega (arith, contents-bound entries, sequence-bound ((0x02 ∷ 0x01 ∷ 0x01 ∷ []) ++ algorithm ++ (0x30 ∷ 0x00 ∷ []) ++ date ++ sequence_of_some entries))

outer-bound : (body : List ℕ) → length (sequence (body ++ algorithm ++ (0x03 ∷ 0x01 ∷ 0x00 ∷ []))) ≤ length body + 21
outer-bound body =
    omega (
      arith,
      sequence-bound (body ++ algorithm ++ (0x03 ∷ 0x01 ∷ 0x00 ∷ [])),
      length-append (body ++ algorithm) (0x03 ∷ 0x01 ∷ 0x00 ∷ []),
      length-append body algorithm,
      length-append body (algorithm ++ (0x03 ∷ 0x01 ∷ 0x00 ∷ [])),
    )

crl-bound : (entries : List ℕ) → length (crl_with entries) ≤ length entries + 65
crl-bound entries = omega (arith, outer-bound (crl_body entries), body-bound entries)

crl-fits : (number count j : ℕ) → count ≤ 1000000 → FitsCrl (crl number count j)
crl-fits number count j few = (issuer-length number j, omega (arith, crl-bound (revoked_entries number count j), revoked-bound number count j))

crls-fit : (number count : ℕ) → count ≤ 1000000 → (js : List ℕ) → All FitsCrl (map (crl number count) js)
crls-fit number count few [] = All-nil FitsCrl
crls-fit number count few (j ∷ js) = All-cons FitsCrl (crl number count j) (map (crl number count) js) (crl-fits number count j few) (crls-fit number count few js)

-- ---- entries

entries-fit : (number : ℕ) (numbers : List ℕ) → All FitsEntry (map (entry number) numbers)
entries-fit number [] = All-nil FitsEntry
entries-fit number (i ∷ numbers) =
    All-cons FitsEntry (entry number i) (map (entry number) numbers) (log-length number, omega (arith, leaf-length number i), omega arith) (entries-fit number numbers)

entries-count : (number count : ℕ) → length (entries_of number count) ≡ count
entries-count number count = length-map-range_with_len (entry number) 0 count

-- ---- the job

pub sample-fits : (number count : ℕ) → 1 ≤ count → count ≤ 1000000 → FitsJob PUBLISHED (sample_contents number count)
unfolding sample_contents
sample-fits number count some few = record {
  epoch = omega arith;
  moment = omega arith;
  few_ranges = omega arith;
  ranges = (((refl, omega arith), (log-length number, omega arith, omega arith)), tt);
  few_crls = omega arith;
  crls = crls-fit number count few (0 ∷ 1 ∷ 2 ∷ 3 ∷ []);
  few_entries = omega (arith, entries-count number count);
  entries = entries-fit number (range_with_len 0 count);
}

-- and its text is read as what it means
pub sample-read : (number count : ℕ) → ((limits : Limits) (j : JobContents) → FitsJob limits j → job_of limits (spelling j) ≡ reading_of limits j)
    → 1 ≤ count → count ≤ 1000000 → job_of PUBLISHED (sample_text number count) ≡ reading_of PUBLISHED (sample_contents number count)
unfolding sample_text
sample-read number count reads some few = reads PUBLISHED (sample_contents number count) (sample-fits number count some few)
