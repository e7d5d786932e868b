use Rattle.std.proofs.Common.{◌≡◌, ◌∷◌, Ok, sym, ◌∙◌}
use Rattle.der_core.specs.Elements.{der_of, items}
use Rattle.der_core.proofs.EachLaws.{each_adds}
use Rattle.crl_core.specs.Extensions.{crl_extension}
use Rattle.crl_core.specs.Findings.{both, crl_finding, found_in_crl}
use Rattle.crl_core.proofs.FindingLaws.{both_assoc}
use Rattle.crl_core.proofs.findings.found.found_in_crl.Goals as goal

pub loop-item-preserved : goal.loop-item-preserved
loop-item-preserved c =
    let front : items c.loop-item.item-iterator ≡ Ok (der_of c.in-Ok.e) ∷ items c.next.new.self = rw c.in-Ok.is at c.in-Some.ensures.steps in
    let grown = each_adds crl_extension crl_finding (λ f xs. both f (found_in_crl xs)) both (λ f x xs. both_assoc f (crl_finding x) (found_in_crl xs))
    (items c.loop-item.item-iterator) (items c.next.new.self) (der_of c.in-Ok.e) c.in_ok-crl_finding.field-0 c.loop-item.found front (sym c.in_ok-crl_finding.ensures) in
    rw c.both-found.ensures (sym grown ∙ c.loop-item.invariant)
