-- What parts say of an entry.
use Rattle.std.proofs.Common.{◌≡◌, ◌≢◌, Bool, true, false, refl}
use Rattle.card_core.specs.declared.verdict.Verdict.{Verdict}
use Rattle.card_core.specs.declared.verdict.Verdict.TheVariants.{NotCovered, NotEnrolled, Good, Revoked}
use Rattle.audit_core.specs.Checking.{is_truth, truth_by}

pub truth_is : (v : Verdict) (b : Bool) → is_truth v b ≡ true → v ≡ truth_by b
truth_is Revoked true h = refl
truth_is Good false h = refl
truth_is NotCovered b h = absurd cc
truth_is NotEnrolled b h = absurd cc
truth_is Revoked false h = absurd cc
truth_is Good true h = absurd cc

pub truth_is_not : (v : Verdict) (b : Bool) → is_truth v b ≡ false → v ≢ truth_by b
truth_is_not Revoked true h e = absurd cc
truth_is_not Good false h e = absurd cc
truth_is_not NotCovered true h e = absurd cc
truth_is_not NotCovered false h e = absurd cc
truth_is_not NotEnrolled true h e = absurd cc
truth_is_not NotEnrolled false h e = absurd cc
truth_is_not Revoked false h e = absurd cc
truth_is_not Good true h e = absurd cc
