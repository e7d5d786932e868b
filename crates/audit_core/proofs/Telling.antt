-- What a ledger tells of an entry.
use Rattle.std.proofs.Common.{◌≡◌, Bool, true, false, Some, None, refl}
use Rattle.audit_core.specs.Checking.{listing_by}

pub late_none : (seen late listed : Bool) → late ≡ true → None ≡ listing_by seen late listed
late_none true true listed h = refl
late_none false true listed h = refl
late_none seen false listed h = absurd cc

pub timely_some : (seen late listed : Bool) → seen ≡ true → late ≡ false → Some listed ≡ listing_by seen late listed
timely_some true false listed h k = refl
timely_some true true listed h k = absurd cc
timely_some false late listed h k = absurd cc
