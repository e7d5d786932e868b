use Rattle.std.proofs.Common.{refl}
use Rattle.universe_core.proofs.Joining.{joined_flags}
use Rattle.universe_core.proofs.flagging.+flag_halves.Goals as goal

pub returns : goal.returns
returns g t c =
    joined_flags c.args.issuers.now c.args.members.now c.args.settled.now c.args.listed.now _ _ _ _ _ _ _
    c.in_ok-flags.flags.revoked.items c.in_ok-rest_flags.rest_flags.revoked.items _ _ _ _
    c.split_at.ensures.front c.split_at.ensures.back c.split_at-2.ensures.front c.split_at-2.ensures.back c.split_at-3.ensures.front c.split_at-3.ensures.back
    (rw c.in_ok-flags.was at c.join-one.ensures.first) (rw c.in_ok-rest_flags.was at c.join-one.ensures.second)
    c.in_ok-append.ensures.items refl
