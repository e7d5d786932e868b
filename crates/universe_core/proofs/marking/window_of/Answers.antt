use Rattle.std.proofs.Common.{◌≤◌, arith}
use Rattle.universe_core.proofs.IssuerRuns.{near_window}
use Rattle.universe_core.proofs.marking.window_of.Goals as goal

pub returns-then-is_between : goal.returns-then-is_between
returns-then-is_between c =
    let end = c.saturating_add-end.result in
    let o : c.args.near ≤ end = grind (arith, c.saturating_add-end.ensures, c.ranges.near.fits) in
    near_window c.args.run.now c.args.listed.now.serial.now c.args.near end c.requires.sorted o c.if-end-run.true
    (c.is_between.ensures.above c.if-is_between.true) (c.is_between.ensures.below c.if-is_between.true)
