use Rattle.std.proofs.Common.{◌≡◌, ◌∷◌, ◌||◌, Ok, sym, ◌∙◌}
use Rattle.der_core.specs.Elements.{der_of, items}
use Rattle.der_core.proofs.EachLaws.{each_goes_on}
use Rattle.crl_core.specs.Extensions.{some_true, point_flag}
use Rattle.crl_core.proofs.FindingLaws.{or_assoc}
use Rattle.crl_core.proofs.extension.read.some_flag.Goals as goal

pub loop-item-preserved : goal.loop-item-preserved
loop-item-preserved c =
    let front : items c.loop-item.item-iterator ≡ Ok (der_of c.in-Ok.e) ∷ items c.next.new.self = rw c.in-Ok.is at c.in-Some.ensures.steps in
    let grown = each_goes_on point_flag (λ f flags. f || some_true flags) (λ f b. f || b) (λ f b flags. or_assoc f b (some_true flags))
    (items c.loop-item.item-iterator) (items c.next.new.self) (der_of c.in-Ok.e) c.in_ok-flag.flag c.loop-item.found front (sym c.in_ok-flag.ensures) in
    sym grown ∙ c.loop-item.invariant
