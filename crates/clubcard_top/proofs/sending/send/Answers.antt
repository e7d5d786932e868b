use Rattle.std.proofs.Common.{inl, sym, refl}
use Rattle.command_core.proofs.Outputs.{none-written}
use Rattle.clubcard_top.proofs.sending.send.Goals as goal

pub returns-in-Reply-clause-ends : goal.returns-in-Reply-clause-ends
returns-in-Reply-clause-ends g c = rw c.in-Reply.is (inl (sym (none-written _ _ refl), c.send_reply.ensures.sent))

pub returns-in-Sample-clause-ends : goal.returns-in-Sample-clause-ends
returns-in-Sample-clause-ends g c = rw c.in-Sample.is c.send_sample.ensures.ends
