use Rattle.std.proofs.Common.{◌∙◌}
use Rattle.ident_core.specs.declared.identity.Identity.{Identity}
use Rattle.stage_core.proofs.InThreads.{rows_halved}
use Rattle.stage_core.proofs.in_threads.+rows_in_threads.Goals as goal

pub returns : goal.returns
returns g t c =
    c.in_ok-append.ensures.items
    ∙ rows_halved (λ (x : Identity). g.H.EquationHash.row_of c.args.hash.now c.args.shape.stage c.args.seed x c.args.shape.starts) _ c.args.universe.now _ _ c.args.flags.now _ _ _ _
    c.split_at.ensures.front c.split_at.ensures.back c.split_at-2.ensures.front c.split_at-2.ensures.back
    (rw c.in_ok-rows.was at c.join-one.ensures.first) (rw c.in_ok-more.was at c.join-one.ensures.second)
