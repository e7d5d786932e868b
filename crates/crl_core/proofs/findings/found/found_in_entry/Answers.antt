use Rattle.std.proofs.Common.{◌≡◌, ◌∷◌, Ok, sym, ◌∙◌}
use Rattle.der_core.specs.Elements.{items, der_of}
use Rattle.der_core.proofs.EachLaws.{each_goes_on}
use Rattle.crl_core.specs.Extensions.{extension, ext_of}
use Rattle.crl_core.specs.Findings.{both, entry_finding, found_in_entry}
use Rattle.crl_core.proofs.FindingLaws.{both_assoc}
use Rattle.crl_core.proofs.findings.found.found_in_entry.Goals as goal

pub loop-item-preserved : goal.loop-item-preserved
loop-item-preserved c =
    let front : items c.loop-item.item-iterator ≡ Ok (der_of c.in-Ok.e) ∷ items c.next.new.self = rw c.in-Ok.is at c.in-Some.ensures.steps in
    let grown = each_goes_on extension (λ f xs. both f (found_in_entry xs)) (λ f x. both f (entry_finding x)) (λ f x xs. both_assoc f (entry_finding x) (found_in_entry xs))
    (items c.loop-item.item-iterator) (items c.next.new.self) (der_of c.in-Ok.e) (ext_of c.in_ok-x.x) c.loop-item.found front (sym c.in_ok-x.ensures) in
    rw (c.both-found.ensures, c.entry_finding.ensures) (sym grown ∙ c.loop-item.invariant)
