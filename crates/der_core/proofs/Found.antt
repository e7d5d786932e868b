-- What a reader gave is an element.
use Rattle.std.proofs.Common.{ℕ, List, take, Result, Ok, Err, IfOk}
use Rattle.der_core.specs.Elements.{GivesElement, element_at, der_of}
use Rattle.der_core.specs.Grammar.{IsElement}
use Rattle.der_core.specs.declared.types.Element.{Element}
use Rattle.der_core.specs.declared.types.DerFault.{DerFault}
use Rattle.der_core.proofs.GrammarLaws.{element-taken}

pub found : (r : Result (Element × ℕ) DerFault) (bytes : List ℕ) → GivesElement r (element_at bytes) → IfOk r (λ x. IsElement (der_of x.0) (take x.1 bytes))
found (Ok x) bytes h = element-taken bytes (der_of x.0, x.1) h
found (Err f) bytes h = tt
