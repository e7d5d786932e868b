-- What a CRL comes to.
use Rattle.std.specs.Prelude.{◌≡◌, ◌≢◌, ℕ, ◌≤◌, FitsSigned, ℤ, List, [], ◌∷◌, length, All, IfSome, Bool, ◌||◌, nat_le}
use Rattle.std.specs.Prelude.{if◌then◌else◌, Option, Some, None, Result, Ok, Err}
use Rattle.std.specs.List.{list_any, flat_map}
use Rattle.std.specs.Int.{w64}
use Rattle.ident_core.specs.declared.bounds.TheConstants.{MAX_SERIAL}
use Rattle.crl_core.specs.declared.findings.Findings.{Findings}
use Rattle.crl_core.specs.declared.crl.Crl.{Crl}
use Rattle.crl_core.specs.declared.crl.Entries.{Entries}
use Rattle.crl_core.specs.declared.crl.TbsList.{TbsList}
use Rattle.crl_core.specs.declared.crl.CrlFault.{CrlFault}
use Rattle.crl_core.specs.declared.crl.CrlFault.TheVariants as fault
use Rattle.crl_core.specs.Form.{Entry, CrlForm, crl_form}
use Rattle.crl_core.specs.Grammar.{IsCrl}
use Rattle.crl_core.specs.Findings.{has, is_delta_indicator, is_certificate_issuer, is_unknown_in_entry}
use Rattle.crl_core.specs.Findings.{is_unknown_in_crl, both, found_in_entry, found_in_entries, found_in_crl}

-- serials of at most 32 octets are kept
abbrev pub kept_octets : List ℕ → List (List ℕ)
kept_octets octets = if nat_le (length octets) 32 then octets ∷ [] else []

-- the kept serials of the entries, in their order
abbrev pub kept_serials : List Entry → List (List ℕ)
kept_serials xs = flat_map (λ x. kept_octets x.serial) xs

-- some extension of the CRL has the OID of the delta CRL indicator
abbrev pub is_delta : CrlForm → Bool
is_delta form = list_any is_delta_indicator form.extensions

-- some entry has an extension with the OID of the certificate issuer, or some distribution point has indirectCRL set
abbrev pub is_indirect : CrlForm → Bool
is_indirect form = list_any (has is_certificate_issuer) form.entries || list_any (λ x. x.indirect) form.extensions

-- some extension is critical, and its OID isn't among those of its place
abbrev pub has_unknown : CrlForm → Bool
has_unknown form = list_any (has is_unknown_in_entry) form.entries || list_any is_unknown_in_crl form.extensions

pub record CrlFields : Type 0 where
  pub this_update : ℤ
  pub next_update : Option ℤ
  pub serials : List (List ℕ)

-- dates of 64 bits, and serials of 1 to 32 octets
pub record CrlFieldsFit (c : CrlFields) : Type 0 where
  pub this_update : FitsSigned w64 c.this_update
  pub next_update : IfSome c.next_update (λ n. FitsSigned w64 n)
  pub serials : All (λ s. (1 ≤ length s) × (length s ≤ MAX_SERIAL)) c.serials

abbrev pub accepted : CrlForm → CrlFields
accepted form = record { this_update = form.this_update; next_update = form.next_update; serials = kept_serials form.entries }

-- what a CRL of this form comes to: the first of these that holds
abbrev pub outcome_of : CrlForm → Result CrlFields CrlFault
outcome_of form =
    if is_delta form then Err fault.DeltaCrl
    else if is_indirect form then Err fault.Indirect
    else if has_unknown form then Err fault.UnknownCritical
    else Ok (accepted form)

abbrev pub outcome_if : Option CrlForm → Result CrlFields CrlFault
outcome_if None = Err fault.Malformed
outcome_if (Some form) = outcome_of form

-- what bytes come to
abbrev pub outcome : List ℕ → Result CrlFields CrlFault
outcome bytes = outcome_if (crl_form bytes)

-- the bytes are a CRL that comes to this
abbrev pub ComesTo : List ℕ → Result CrlFields CrlFault → Type 0
ComesTo bytes answer = (form : CrlForm) × IsCrl form bytes × (outcome_of form ≡ answer)

-- a function gave the outcome, unless memory ran out
abbrev pub GivesOutcome : {X A : Type 0} → (X → A) → Result A CrlFault → Result X CrlFault → Type 0
GivesOutcome view read (Ok x) = read ≡ Ok (view x)
GivesOutcome view read (Err e) = e ≢ fault.NoMemory → read ≡ Err e

abbrev pub crl_of : Crl → CrlFields
crl_of c = record { this_update = c.this_update; next_update = c.next_update; serials = c.serials.items }

-- a function found what stands there, or it is malformed, or memory ran out
abbrev pub Finds : {X A : Type 0} → (X → A) → Option A → Result X CrlFault → Type 0
Finds view read (Ok x) = read ≡ Some (view x)
Finds view read (Err fault.NoMemory) = Unit {0}
Finds view read (Err fault.Malformed) = read ≡ None
Finds view read (Err _) = ⊥

-- what a reader keeps of entries, and of a CRL: what their extensions say, and what is accepted
pub record Summary : Type 0 where
  pub found : Findings
  pub serials : List (List ℕ)

abbrev pub seen : Entry → List ℕ × Findings
seen x = (x.serial, found_in_entry x.extensions)

abbrev pub summary : List Entry → Summary
summary xs = record { found = found_in_entries xs; serials = kept_serials xs }

abbrev pub entries_view : Entries → Summary
entries_view x = record { found = x.found; serials = x.serials.items }

pub record TbsFields : Type 0 where
  pub found : Findings
  pub crl : CrlFields

abbrev pub fields_of : CrlForm → TbsFields
fields_of form = record { found = both (found_in_entries form.entries) (found_in_crl form.extensions); crl = accepted form }

abbrev pub tbs_view : TbsList → TbsFields
tbs_view x = record { found = x.found; crl = crl_of x.crl }
