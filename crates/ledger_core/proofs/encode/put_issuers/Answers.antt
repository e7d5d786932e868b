use Rattle.ledger_core.specs.Fitting.{IsKey}
use Rattle.octets_core.proofs.Loops.{appended-more, all-more}
use Rattle.ledger_core.proofs.encode.put_issuers.Goals as goal

pub loop-issuer-preserved : goal.loop-issuer-preserved
loop-issuer-preserved c = record {
  text = appended-more (λ issuer. issuer) c.args.issuers.now c.loop-issuer.issuer-index c.issuer-item.result c.args.out.now.items c.loop-issuer.out.items
      c.put_issuer.new.out.items c.loop-issuer-test.true c.issuer-item.is c.loop-issuer.invariant.text c.in_ok-put_issuer.ensures.text;
  fits = all-more IsKey c.args.issuers.now c.loop-issuer.issuer-index c.issuer-item.result c.loop-issuer-test.true c.issuer-item.is c.loop-issuer.invariant.fits c.in_ok-put_issuer.ensures.fits;
}
