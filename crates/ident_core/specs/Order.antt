-- The order of identities: by the issuer's bytes, then the serial's length, then the serial's octets.
use Rattle.std.specs.Prelude.{ℕ, List, length, Bool, ◌&&◌}
use Rattle.std.specs.Str.{bytes_eq}
use Rattle.std.specs.declared.cmp.Ordering.{Ordering}
use Rattle.std.specs.Ordering.{nat_cmp, then_cmp, on}
use Rattle.std.specs.Cmp.Lexicographic.{slice_cmp}
use Rattle.ident_core.specs.declared.identity.Identity.{Identity}

-- byte by byte, and a prefix before what it begins
abbrev pub octets_cmp : List ℕ → List ℕ → Ordering
octets_cmp = slice_cmp nat_cmp

-- by length, then by octets
abbrev pub serial_cmp : List ℕ → List ℕ → Ordering
serial_cmp = then_cmp (on (λ s. length s) nat_cmp) octets_cmp

abbrev pub identity_cmp : Identity → Identity → Ordering
identity_cmp = then_cmp (on (λ x. x.issuer) octets_cmp) (on (λ x. x.serial) serial_cmp)

-- the same issuer and the same serial
abbrev pub is_same : Identity → Identity → Bool
is_same x y = bytes_eq x.issuer y.issuer && bytes_eq x.serial y.serial
