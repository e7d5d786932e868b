use Rattle.std.proofs.Common.{◌≡◌, ◌≤◌, ◌*◌, length}
use Rattle.sample_core.specs.Sample.{revoked_entries}
use Rattle.sample_core.proofs.crl.revoked_text.Given as goal

abbrev pub invariant-loop-i : goal.invariant-loop-i
invariant-loop-i l = record {
  text : l.out.items ≡ revoked_entries l.number l.i l.issuer;
  len : length l.out.items ≤ 35 * l.i;
}
