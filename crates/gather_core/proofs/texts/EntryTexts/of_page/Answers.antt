use Rattle.std.proofs.Common.{refl, arith}
use Rattle.std.proofs.lemmas.List.{take_all}
use Rattle.gather_core.proofs.Taken.{fits-at, held-page}
use Rattle.gather_core.proofs.texts.EntryTexts.of_page.Goals as goal

pub put_entry-requires : goal.put_entry-requires
put_entry-requires c = fits-at c.args.entries.now c.loop-entry.entry-index c.entry-item.result c.requires c.loop-entry-test.true c.entry-item.is

pub returns : goal.returns
returns c =
    held-page (record { text = c.loop-entry.text; start = 0; count = _ }) c.args.log.now c.args.entries.now c.loop-entry.entry-index
    (first_of (omega (arith, c.bytes.ensures), assumption c.bytes.ensures, grind (arith, c.bytes.ensures))) c.requires c.loop-entry.invariant
    (take_all c.loop-entry.entry-index c.args.entries.now (omega (arith, c.loop-entry-test.false))) refl
