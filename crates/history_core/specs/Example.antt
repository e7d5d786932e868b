-- Two jobs of one issuer and one log: a late entry, and a serial that the second CRL drops.
use Rattle.std.specs.Prelude.{ℕ, pos, List, [], ◌∷◌, Option, Some, None}
use Rattle.ident_core.specs.declared.identity.Identity.{Identity}
use Rattle.universe_core.specs.Jobs.{Entry, JobFacts}
use Rattle.universe_core.specs.History.{Release, releases}

-- the certificate of serial n
abbrev pub certificate : ℕ → Identity
certificate n = record { issuer = 1 ∷ []; serial = n ∷ [] }

-- the entry of the certificate of serial n, seen at a time, without a date
abbrev pub at : ℕ → ℕ → Option Entry
at n time = Some (record { id = certificate n; sighting = record { log = 7 ∷ []; time = time }; until = None })

-- the same with a date
abbrev pub dated_at : ℕ → ℕ → ℕ → Option Entry
dated_at n time date = Some (record { id = certificate n; sighting = record { log = 7 ∷ []; time = time }; until = Some (pos date) })

-- a job that covers the times up to one, and whose CRL holds these serials
abbrev pub job_to : ℕ → ℕ → List (List ℕ) → List (Option Entry) → JobFacts
job_to epoch to serials entries = record {
  epoch = epoch;
  moment = 1000;
  ranges = record { log = 7 ∷ []; from = 0; to = to } ∷ [];
  crls = record { issuer = 1 ∷ []; next_update = None; serials = serials } ∷ [];
  entries = entries;
}

-- 6 and 5, with dates, of which the CRL holds 5
abbrev pub first_job : JobFacts
first_job = job_to 1 100 ((5 ∷ []) ∷ []) (dated_at 6 10 20 ∷ dated_at 5 10 10 ∷ [])

-- 7 comes late, 5 is seen again with a later date, 8 is new and has no date, one isn't read, and one lies beyond the
-- ranges; the CRL is empty
abbrev pub second_job : JobFacts
second_job = job_to 2 200 [] (at 7 50 ∷ dated_at 5 150 30 ∷ at 8 150 ∷ None ∷ at 8 900 ∷ [])

abbrev pub after_first : List Release
after_first = releases (λ rs job. []) [] (first_job ∷ [])
