use Rattle.std.proofs.Common.{rules}
use Rattle.ribbon_core.proofs.Window.{window_down}
use Rattle.ribbon_core.proofs.substitution.column.Goals as goal

pub returns : goal.returns
returns c h e =
    let k = c.from.ensures in
    let k2 = c.from-2.ensures in
    window_down c.args.coeff c.args.target c.args.plane h c.args.window c.from-2.result (search rules) e (rw k at k2) c.requires.pivot
