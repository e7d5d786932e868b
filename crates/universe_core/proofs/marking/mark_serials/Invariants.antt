use Rattle.std.specs.Str.{bytes_eq}
use Rattle.std.proofs.Common.{◌≡◌, ◌||◌, ◌&&◌, map, take, Bool}
use Rattle.ident_core.specs.declared.identity.Identity.{Identity}
use Rattle.ident_core.specs.Sets.{has_key}
use Rattle.universe_core.specs.Marking.{listed_in}
use Rattle.ledger_core.specs.LedgerFields.{ids}
use Rattle.universe_core.proofs.marking.mark_serials.Given as goal

abbrev pub invariant-loop-one : goal.invariant-loop-one
invariant-loop-one l =
    (p : Identity → Bool) → l.initial.flags ≡ map p (ids l.members)
    → l.flags ≡ map (λ x. p x || (bytes_eq x.issuer l.issuer && has_key (take l.one-index (listed_in l.listed)) x.serial)) (ids l.members)
