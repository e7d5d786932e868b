use Rattle.sample_core.proofs.Texts.{revoked-next, revoked-longer}
use Rattle.sample_core.proofs.crl.revoked_text.Goals as goal

pub loop-i-preserved : goal.loop-i-preserved
loop-i-preserved c = record {
  text = revoked-next c.args.number c.loop-i.i c.args.issuer c.loop-i.out.items c.put_listed.new.out.items c.loop-i.invariant.text c.in_ok-put_listed.ensures;
  len = revoked-longer c.args.number c.loop-i.i c.args.issuer c.loop-i.out.items c.put_listed.new.out.items c.loop-i.invariant.len c.in_ok-put_listed.ensures;
}
