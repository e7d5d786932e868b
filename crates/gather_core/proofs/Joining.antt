-- Entries that are put behind those of a job.
use Rattle.std.proofs.Common.{◌≡◌, ℕ, ◌-◌, List, ◌++◌, length, take, Ok, sym, ap, ◌∙◌, append_assoc, length-append, arith}
use Rattle.std.specs.Prelude.{flat_map}
use Rattle.std.specs.Int.{w8, to_be_bytes}
use Rattle.std.proofs.Math.Seq.{take-append_seam}
use Rattle.job_core.specs.declared.bounds.TheConstants.Limits as limits
use Rattle.job_core.specs.JobText.{JobContents, opening_text, range_record, crl_record, entry_record, spelling}
use Rattle.gather_core.specs.declared.counting.Tally.{Tally}
use Rattle.gather_core.specs.declared.job.OpenJob.{OpenJob}
use Rattle.gather_core.specs.Raw.{raw_job, opened_text}
use Rattle.gather_core.specs.Opened.{Counts, Opens}

regrouped : (o r c e z : List ℕ) → o ++ r ++ c ++ e ++ z ≡ (o ++ (r ++ (c ++ e))) ++ z
regrouped o r c e z = ap (λ (l : List ℕ). l ++ z) (append_assoc (o ++ r) c e ∙ append_assoc o r (c ++ e))

pub spelling-opened : (j : JobContents) → spelling j ≡ opened_text j ++ to_be_bytes w8 0
unfolding spelling
spelling-opened j =
    let o : List ℕ = opening_text j.epoch j.moment in
    let r : List ℕ = flat_map range_record j.ranges in
    let c : List ℕ = flat_map crl_record j.crls in
    let e : List ℕ = flat_map entry_record j.entries in
    let z : List ℕ = to_be_bytes w8 0 in
    regrouped o r c e z

-- the end of a text was taken off
opens-popped : (bytes text : List ℕ) (size : ℕ) (j : JobContents) → bytes ≡ spelling j → size ≡ length bytes → text ≡ take (size - 1) bytes → text ≡ opened_text j
opens-popped bytes text size j is same popped =
    let O : List ℕ = opened_text j in
    let all : bytes ≡ O ++ to_be_bytes w8 0 = is ∙ spelling-opened j in
    let front : size - 1 ≡ length O = omega (arith, same, ap (λ (l : List ℕ). length l) all, length-append O (to_be_bytes w8 0)) in
    popped ∙ ap (λ (k : ℕ). take k bytes) front ∙ ap (λ (l : List ℕ). take (length O) l) all ∙ take-append_seam O (to_be_bytes w8 0)

pub opened-new : (bytes : List ℕ) (size : ℕ) (n : Tally) (o : OpenJob) → Counts limits.PUBLISHED bytes (Ok n) → o.epoch ≡ n.epoch → o.entries ≡ n.entries → size ≡ length bytes → o.text.items ≡ take (size - 1) bytes
    → (j : JobContents) × (raw_job limits.PUBLISHED bytes ≡ Ok j) × (bytes ≡ spelling j) × Opens o j
opened-new bytes size n o (j, raw, is, fits, epoch, ranges, count) same_epoch same_count same popped = (
  j,
  raw,
  is,
  record {
    text = opens-popped bytes o.text.items size j is same popped;
    epoch = same_epoch ∙ epoch;
    count = same_count ∙ count;
    fits = fits;
  },
)

pub closed : (o : OpenJob) (out : List ℕ) → out ≡ o.text.items ++ to_be_bytes w8 0 → (j : JobContents) → Opens o j → out ≡ spelling j
closed o out is j opens = is ∙ ap (λ (l : List ℕ). l ++ to_be_bytes w8 0) opens.text ∙ sym (spelling-opened j)
