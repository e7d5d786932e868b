use Rattle.std.proofs.Common.{◌≡◌}
use Rattle.std.specs.Option.{option_map}
use Rattle.der_core.specs.Elements.{items}
use Rattle.der_core.specs.Walk.{each}
use Rattle.sct_core.specs.Extensions.{first_some, value_from}
use Rattle.sct_core.proofs.FirstLaws.{first_or}
use Rattle.sct_core.proofs.certificate.first_value.Given as goal

-- what was found, or else the first among the elements that are left, is the first among all of them
abbrev pub invariant-loop-item : goal.invariant-loop-item
invariant-loop-item l = option_map (first_or (option_map (λ x. x.now) l.found)) (each value_from (items l.item-iterator))
    ≡ option_map first_some (each value_from (items l.contents))
