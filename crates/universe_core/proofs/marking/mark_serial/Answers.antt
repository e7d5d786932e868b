use Rattle.std.proofs.Common.{◌+◌, ◌∙◌, refl}
use Rattle.ident_core.proofs.Marks.{marked, unmarked}
use Rattle.ledger_core.specs.LedgerFields.{ids}
use Rattle.universe_core.proofs.IssuerRuns.{of_issuer, run_sorted, run_place, run_none}
use Rattle.universe_core.proofs.marking.mark_serial.Goals as goal

pub place_of-requires-clause-sorted : goal.place_of-requires-clause-sorted
place_of-requires-clause-sorted c = run_sorted c.args.issuer.now c.args.members.now c.args.run c.requires.sorted c.requires.run

pub returns-in-Ok : goal.returns-in-Ok
returns-in-Ok c = λ q e.
    let k = c.args.issuer.now in
    let ms = c.args.members.now in
    let z = c.args.listed.now.serial.now in
    rw e (marked q (ids ms) (c.args.run.start + c.in-Ok.place) (of_issuer k z) c.requires.sorted (run_place k ms c.args.run c.in-Ok.place z c.requires.run c.in-Ok.ensures.some))

pub returns-in-Err : goal.returns-in-Err
returns-in-Err c = λ q e.
    let k = c.args.issuer.now in
    let ms = c.args.members.now in
    let z = c.args.listed.now.serial.now in
    e ∙ unmarked q (ids ms) (of_issuer k z) (run_none k ms c.args.run z c.requires.run ((c.in-Err.ensures.none refl)))
