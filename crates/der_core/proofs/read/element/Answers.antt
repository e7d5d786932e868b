use Rattle.std.proofs.Common.{ap, ◌∙◌, subst}
use Rattle.der_core.specs.Elements.{Der, Read, GivesElement, element_at}
use Rattle.der_core.proofs.GrammarLaws.{element-read}
use Rattle.der_core.proofs.Found.{found}
use Rattle.der_core.proofs.read.element.Goals as goal

pub returns-clause-found : goal.returns-clause-found
returns-clause-found c = found c.first_element.result c.args.bytes.now c.first_element.ensures.exact

pub returns-clause-only : goal.returns-clause-only
returns-clause-only c = λ e front rest is same.
    let P : Read Der → Type 0 = λ read. GivesElement c.first_element.result read in
    subst P (ap element_at same ∙ element-read e front rest is) c.first_element.ensures.exact
