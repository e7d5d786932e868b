-- What a CRL of a job says of issuers and identities.
use Rattle.std.specs.Prelude.{ℕ, List, Bool, false, cond, ◌&&◌, Option, Some, None}
use Rattle.std.specs.Str.{bytes_eq}
use Rattle.ident_core.specs.declared.identity.Identity.{Identity}
use Rattle.job_core.specs.declared.meaning.JobCrl.{JobCrl}
use Rattle.job_core.specs.JobFields.{crl_view}
use Rattle.ident_core.specs.Sets.{has_key}
use Rattle.universe_core.specs.Jobs.{Crl, accepted_crl, is_stale}

abbrev pub facts_of_crl : JobCrl → Option Crl
facts_of_crl c = accepted_crl (crl_view c)

abbrev pub issuer_if : Option Crl → Option (List ℕ)
issuer_if None = None
issuer_if (Some c) = Some c.issuer

-- the issuer, if the CRL is out of date
abbrev pub stale_issuer_if : ℕ → Option Crl → Option (List ℕ)
stale_issuer_if moment None = None
stale_issuer_if moment (Some c) = cond (is_stale moment c.next_update) (Some c.issuer) None

-- whether the CRL is one of the issuer's, and whether it is and is out of date
abbrev pub is_of : List ℕ → Option Crl → Bool
is_of issuer None = false
is_of issuer (Some c) = bytes_eq issuer c.issuer

abbrev pub is_stale_of : ℕ → List ℕ → Option Crl → Bool
is_stale_of moment issuer None = false
is_stale_of moment issuer (Some c) = bytes_eq issuer c.issuer && is_stale moment c.next_update

-- whether the CRL is one of the identity's issuer and holds its serial
abbrev pub holds : Option Crl → Identity → Bool
holds None x = false
holds (Some c) x = bytes_eq x.issuer c.issuer && has_key c.serials x.serial
