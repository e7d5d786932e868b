use Rattle.std.proofs.Common.{inl, inr}
use Rattle.clubcard_top.proofs.sending.send_sample.Goals as goal

pub returns-in-Err-clause-ends : goal.returns-in-Err-clause-ends
returns-in-Err-clause-ends g c =
    inr (c.in-Err.ensures.cause, (c.name-name.result.now, inl (c.name-name.ensures, c.in-Err.ensures.err), rw c.about_file.ensures at c.send_message-in-Err.ensures.sent))
