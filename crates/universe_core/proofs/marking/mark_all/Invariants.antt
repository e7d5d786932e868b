use Rattle.std.specs.List.{list_any}
use Rattle.std.proofs.Common.{◌≡◌, ◌||◌, map, take, Bool}
use Rattle.ident_core.specs.declared.identity.Identity.{Identity}
use Rattle.universe_core.specs.Enrolling.{facts_of_crl, holds}
use Rattle.ledger_core.specs.LedgerFields.{ids}
use Rattle.universe_core.proofs.marking.mark_all.Given as goal

abbrev pub invariant-loop-crl : goal.invariant-loop-crl
invariant-loop-crl l = (p : Identity → Bool) → l.initial.flags ≡ map p (ids l.members)
    → l.flags ≡ map (λ x. p x || list_any (λ c. holds (facts_of_crl c) x) (take l.crl-index l.crls)) (ids l.members)
