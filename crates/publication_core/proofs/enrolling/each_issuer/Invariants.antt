use Rattle.std.proofs.Common.{◌≡◌, take}
use Rattle.publication_core.specs.LeftOut.{cut_of}
use Rattle.publication_core.proofs.Parts.{issuers_each}
use Rattle.publication_core.proofs.enrolling.each_issuer.Given as goal

abbrev pub invariant-loop-part : goal.invariant-loop-part
invariant-loop-part l = l.keys.items ≡ issuers_each (cut_of l.left_out) (take l.part-index l.parts)
