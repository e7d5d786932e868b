use Rattle.std.proofs.Common.{◌≡◌, ◌||◌}
use Rattle.std.specs.Option.{option_map}
use Rattle.der_core.specs.Elements.{items}
use Rattle.der_core.specs.Walk.{each}
use Rattle.crl_core.specs.Extensions.{some_true, point_flag}
use Rattle.crl_core.proofs.extension.read.some_flag.Given as goal

-- what was found, and what the elements that are left will add, is what all of them give
abbrev pub invariant-loop-item : goal.invariant-loop-item
invariant-loop-item l = option_map (λ flags. l.found || some_true flags) (each point_flag (items l.item-iterator))
    ≡ option_map some_true (each point_flag (items l.contents))
