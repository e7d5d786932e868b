use Rattle.std.proofs.Common.{◌≡◌}
use Rattle.std.specs.Option.{option_map}
use Rattle.der_core.specs.Elements.{items}
use Rattle.der_core.specs.Walk.{each}
use Rattle.crl_core.specs.Extensions.{crl_extension}
use Rattle.crl_core.specs.Findings.{both, found_in_crl}
use Rattle.crl_core.proofs.findings.found.found_in_crl.Given as goal

-- what was found, and what the elements that are left will add, is what all of them give
abbrev pub invariant-loop-item : goal.invariant-loop-item
invariant-loop-item l = option_map (λ xs. both l.found (found_in_crl xs)) (each crl_extension (items l.item-iterator))
    ≡ option_map found_in_crl (each crl_extension (items l.contents))
