use Rattle.std.specs.List.{filter}
use Rattle.std.proofs.Common.{◌≡◌, ◌++◌, take}
use Rattle.publication_core.specs.LeftOut.{cut_of}
use Rattle.publication_core.proofs.enrolling.put_others.Given as goal

abbrev pub invariant-loop-issuer : goal.invariant-loop-issuer
invariant-loop-issuer l = l.keys.items ≡ l.fn.keys.items ++ filter (cut_of l.left_out).takes (take l.issuer-index l.issuers)
