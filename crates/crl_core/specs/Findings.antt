-- What the extensions of a CRL and of its entries say (RFC 5280, 5.2 and 5.3).
use Rattle.std.specs.Prelude.{ℕ, List, Bool, false, not, ◌||◌, ◌&&◌}
use Rattle.std.specs.List.{list_any}
use Rattle.crl_core.specs.declared.findings.Findings.{Findings}
use Rattle.crl_core.specs.Extensions.{Ext, CrlExt, is_id_ce}
use Rattle.crl_core.specs.Form.{Entry}

-- reason code, invalidity date, certificate issuer (5.3.1 to 5.3.3)
abbrev pub is_known_in_entry : List ℕ → Bool
is_known_in_entry oid = is_id_ce 0x15 oid || is_id_ce 0x18 oid || is_id_ce 0x1d oid

-- CRL number, authority key identifier, freshest CRL, issuer alternative name, issuing distribution point, delta CRL
-- indicator (5.2.1 to 5.2.6)
abbrev pub is_known_in_crl : List ℕ → Bool
is_known_in_crl oid =
    is_id_ce 0x14 oid || is_id_ce 0x23 oid || is_id_ce 0x2e oid || is_id_ce 0x12 oid || is_id_ce 0x1c oid
    || is_id_ce 0x1b oid

-- an extension of an entry that names another issuer
abbrev pub is_certificate_issuer : Ext → Bool
is_certificate_issuer x = is_id_ce 0x1d x.oid

abbrev pub is_unknown_in_entry : Ext → Bool
is_unknown_in_entry x = x.critical && not (is_known_in_entry x.oid)

abbrev pub is_delta_indicator : CrlExt → Bool
is_delta_indicator x = is_id_ce 0x1b x.general.oid

abbrev pub is_unknown_in_crl : CrlExt → Bool
is_unknown_in_crl x = x.general.critical && not (is_known_in_crl x.general.oid)

-- some extension of this entry is so
abbrev pub has : (Ext → Bool) → Entry → Bool
has test x = list_any test x.extensions

-- Findings of two parts of a CRL are so where those of one are.
abbrev pub nothing : Findings
nothing = record { delta = false; indirect = false; unknown = false }

abbrev pub both : Findings → Findings → Findings
both x y = record { delta = x.delta || y.delta; indirect = x.indirect || y.indirect; unknown = x.unknown || y.unknown }

-- what one extension of an entry, all of one entry, and all entries say
abbrev pub entry_finding : Ext → Findings
entry_finding x = record { delta = false; indirect = is_certificate_issuer x; unknown = is_unknown_in_entry x }

abbrev pub found_in_entry : List Ext → Findings
found_in_entry xs = record { delta = false; indirect = list_any is_certificate_issuer xs; unknown = list_any is_unknown_in_entry xs }

abbrev pub found_in_entries : List Entry → Findings
found_in_entries xs =
    record {
      delta = false;
      indirect = list_any (has is_certificate_issuer) xs;
      unknown = list_any (has is_unknown_in_entry) xs;
    }

-- what one extension of a CRL, and all of them say
abbrev pub crl_finding : CrlExt → Findings
crl_finding x = record { delta = is_delta_indicator x; indirect = x.indirect; unknown = is_unknown_in_crl x }

abbrev pub found_in_crl : List CrlExt → Findings
found_in_crl xs =
    record {
      delta = list_any is_delta_indicator xs;
      indirect = list_any (λ x. x.indirect) xs;
      unknown = list_any is_unknown_in_crl xs;
    }
