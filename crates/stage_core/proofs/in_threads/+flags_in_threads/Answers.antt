use Rattle.std.proofs.Common.{◌∙◌, ◌&&◌, not, Bool}
use Rattle.ident_core.specs.declared.identity.Identity.{Identity}
use Rattle.card_core.specs.Leaf.{passes}
use Rattle.stage_core.proofs.InThreads.{flags_halved}
use Rattle.stage_core.proofs.in_threads.+flags_in_threads.Goals as goal

pub returns : goal.returns
returns g t c =
    c.in_ok-append.ensures.items
    ∙ flags_halved (λ (p : Identity × Bool). not p.1 && passes (g.H.EquationHash.row_of c.args.hash.now) c.args.approx.now p.0) _ c.args.universe.now _ _ c.args.revoked.now _ _ _ _
    c.split_at.ensures.front c.split_at.ensures.back c.split_at-2.ensures.front c.split_at-2.ensures.back
    (rw c.in_ok-flags.was at c.join-one.ensures.first) (rw c.in_ok-more.was at c.join-one.ensures.second)
