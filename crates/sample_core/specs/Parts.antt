-- The text of the job in three parts: what stands before the entries, the entries, and the end.
use Rattle.std.specs.Prelude.{ℕ, List, ◌++◌, codes, flat_map}
use Rattle.std.specs.List.{range_with_len}
use Rattle.std.specs.Int.{w64, to_be_bytes}
use Rattle.job_core.specs.JobText.{range_record, crl_record, entry_record}
use Rattle.sample_core.specs.Sample.{moment, range_of, crl, entry}

-- up to the range
unfoldable pub head_front : ℕ → ℕ → List ℕ
head_front number count = codes "CLUBJOB1" ++ to_be_bytes w64 1 ++ to_be_bytes w64 moment ++ range_record (range_of number count)

unfoldable pub head_text : ℕ → ℕ → List ℕ
head_text number count =
    head_front number count ++ crl_record (crl number count 0) ++ crl_record (crl number count 1)
    ++ crl_record (crl number count 2) ++ crl_record (crl number count 3)

unfoldable pub entries_text : ℕ → ℕ → List ℕ
entries_text number count = flat_map (λ i. entry_record (entry number i)) (range_with_len 0 count)
