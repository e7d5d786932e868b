-- The truth of a history.
use Rattle.std.specs.Prelude.{if◌then◌else◌, List}
use Rattle.ident_core.specs.declared.identity.Identity.{Identity}
use Rattle.card_core.specs.declared.verdict.Verdict.{Verdict}
use Rattle.card_core.specs.declared.verdict.Verdict.TheVariants.{Good, Revoked}
use Rattle.universe_core.specs.History.{Release, is_listed}

-- Revoked where a job from the identity's first acceptance on enrolls its issuer and lists it, and else good.
abbrev pub truth : List Release → Identity → Verdict
truth rs x = if is_listed rs x then Revoked else Good
