-- What the code holds of a job of which some records are read.
use Rattle.std.specs.Prelude.{◌≡◌, ◌<◌, ◌≤◌, ℕ, List, [], ◌∷◌, ◌++◌, map, Result, Ok, Err}
use Rattle.job_core.specs.JobLayout.{Item, OneRange, OneCrl, OneEntry, HeldSoFar, nothing_held, serials_of, with_serials, records}
use Rattle.job_core.specs.JobText.{ranges_in, crls_in, entries_in}
use Rattle.job_core.specs.JobMeaning.{crl_meaning, entry_meaning}
use Rattle.octets_core.specs.Layout.{Layout}
use Rattle.job_core.specs.declared.bounds.Limits.{Limits}
use Rattle.job_core.specs.declared.bounds.What.TheVariants as what
use Rattle.job_core.specs.declared.fault.JobFault.{JobFault}
use Rattle.job_core.specs.declared.fault.JobFault.TheVariants as faults
use Rattle.job_core.specs.JobFields.{JobFields}
use Rattle.job_core.specs.declared.partial.Numbers.{Numbers}

abbrev pub held_in : Numbers → HeldSoFar
held_in n = record { kind = n.kind; log = n.log; ranges = n.ranges; crls = n.crls; entries = n.entries }

-- a job before its first record
abbrev pub begun : ℕ → ℕ → JobFields
begun epoch moment = record { epoch = epoch; moment = moment; ranges = []; crls = []; entries = [] }

-- with what one record means
abbrev pub saying_one : JobFields → Item → JobFields
saying_one f (OneRange r) = record f { ranges = f.ranges ++ r ∷ [] }
saying_one f (OneCrl c) = record f { crls = f.crls ++ crl_meaning c ∷ [] }
saying_one f (OneEntry e) = record f { entries = f.entries ++ entry_meaning e ∷ [] }

-- with what records mean
abbrev pub saying : JobFields → List Item → JobFields
saying f xs = record f {
  ranges = f.ranges ++ ranges_in xs;
  crls = f.crls ++ map crl_meaning (crls_in xs);
  entries = f.entries ++ map entry_meaning (entries_in xs);
}

-- what adding a record to a job left: the job with what it says, and how many serials are kept; or they are too many
abbrev pub TakesOne : Limits → ℕ → Item → JobFields → JobFields → Result ℕ JobFault → Type 0
TakesOne limits serials x old new (Ok n) = (new ≡ saying_one old x) × (n ≡ with_serials serials_of serials x) × (n ≤ limits.serials)
TakesOne limits serials x old new (Err e) =
    (e ≡ faults.NoMemory → ⊥) → (e ≡ faults.TooMany what.Serials limits.serials) × (limits.serials < with_serials serials_of serials x)

-- what was said before, and what the records say
abbrev pub said_behind : JobFields → Result (List Item × ℕ) JobFault → Result (JobFields × ℕ) JobFault
said_behind f (Ok x) = Ok (saying f x.0, x.1)
said_behind f (Err e) = Err e

abbrev pub records_saying : Limits → JobFields → Layout JobFault JobFields
records_saying limits f bytes at = said_behind f (records serials_of limits nothing_held 0 bytes at)
