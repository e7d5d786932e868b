use Rattle.job_core.specs.JobText.{crl_record, crl_held, FitsCrl}
use Rattle.octets_core.proofs.Loops.{appended-more, all-more}
use Rattle.job_core.proofs.writing.put_crls.Goals as goal

pub loop-crl-preserved : goal.loop-crl-preserved
loop-crl-preserved c = record {
  text = appended-more (λ x. crl_record (crl_held x)) c.args.crls.now c.loop-crl.crl-index c.crl-item.result c.args.out.now.items c.loop-crl.out.items
      c.put_crl.new.out.items c.loop-crl-test.true c.crl-item.is c.loop-crl.invariant.text c.in_ok-put_crl.ensures.text;
  fits = all-more (λ x. FitsCrl (crl_held x)) c.args.crls.now c.loop-crl.crl-index c.crl-item.result c.loop-crl-test.true c.crl-item.is c.loop-crl.invariant.fits c.in_ok-put_crl.ensures.fits;
}
