-- Findings come together in any grouping.
use Rattle.std.proofs.Common.{◌≡◌, Bool, true, false, ◌||◌, refl}
use Rattle.crl_core.specs.Findings.{both}
use Rattle.crl_core.specs.declared.findings.Findings.{Findings}

pub or_assoc : (a b c : Bool) → (a || (b || c)) ≡ ((a || b) || c)
or_assoc true b c = refl
or_assoc false b c = refl

pub both_assoc : (x y z : Findings) → both x (both y z) ≡ both (both x y) z
both_assoc x y z = rw (or_assoc x.delta y.delta z.delta, or_assoc x.indirect y.indirect z.indirect, or_assoc x.unknown y.unknown z.unknown) refl
