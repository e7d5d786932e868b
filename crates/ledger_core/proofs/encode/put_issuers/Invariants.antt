use Rattle.std.proofs.Common.{◌≡◌, ◌++◌, take}
use Rattle.std.specs.Prelude.{flat_map, All}
use Rattle.ledger_core.specs.Fitting.{IsKey}
use Rattle.ledger_core.proofs.encode.put_issuers.Given as goal

abbrev pub invariant-loop-issuer : goal.invariant-loop-issuer
invariant-loop-issuer l = record {
  text : l.out.items ≡ l.fn.out.items ++ flat_map (λ issuer. issuer) (take l.issuer-index l.issuers);
  fits : All IsKey (take l.issuer-index l.issuers);
}
