-- What the CRLs of a job come to.
use Rattle.std.specs.Prelude.{ℕ, pos, List, map, filter, None}
use Rattle.std.specs.List.{range_with_len}
use Rattle.crl_core.specs.Outcome.{CrlFields}
use Rattle.sample_core.specs.Sample.{serial_of, is_listed_by}

-- the serials that the CRL of issuer j lists
abbrev pub listed_serials : ℕ → ℕ → ℕ → List (List ℕ)
listed_serials number count j = map (serial_of number) (filter (is_listed_by j) (range_with_len 0 count))

-- what is read of that CRL: its date in seconds since 1970-01-01 00:00:00 UTC, and all serials that it lists
abbrev pub crl_fields : ℕ → ℕ → ℕ → CrlFields
crl_fields number count j = record { this_update = pos 1700000000; next_update = None; serials = listed_serials number count j }
