-- Which pieces keep a record of a job.
use Rattle.std.specs.Prelude.{ℕ, List, Option, Some, None}
use Rattle.job_core.specs.JobLayout.{Item, OneRange, OneCrl, OneEntry, entry_meaning}
use Rattle.place_core.specs.declared.place.By.{By}
use Rattle.place_core.specs.declared.place.By.TheVariants as ways
use Rattle.place_core.specs.Places.{issuer_place}
use Rattle.piece_core.specs.Cuts.{entry_place}

-- by issuers a CRL has the place of its issuer alone, by identities it has each place
abbrev pub crl_place : By → ℕ → List ℕ → Option ℕ
crl_place ways.Issuer count issuer = Some (issuer_place issuer count)
crl_place ways.Identity count issuer = None

-- the place whose piece alone keeps a record; or none, where each piece does
abbrev pub place_of_record : By → ℕ → Item → Option ℕ
place_of_record by count (OneRange r) = None
place_of_record by count (OneCrl c) = crl_place by count c.issuer
place_of_record by count (OneEntry e) = Some (entry_place by count (entry_meaning e))
