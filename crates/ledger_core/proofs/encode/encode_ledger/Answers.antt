use Rattle.std.proofs.Common.{refl, []}
use Rattle.ledger_core.proofs.LedgerTexts.{again-of}
use Rattle.ledger_core.proofs.encode.encode_ledger.Goals as goal

pub returns-clause-read_back : goal.returns-clause-read_back
returns-clause-read_back c =
    again-of c.args.ledger.now [] c.in_ok-out.out.items c.as_slice.result.now c.digest-digest.result c.put_bytes.new.out.items
    c.in_ok-out.ensures.fits refl c.in_ok-out.ensures.text c.as_slice.ensures.value c.digest-digest.ensures c.in_ok-put_bytes.ensures.ok
