use Rattle.std.proofs.Common.{inr}
use Rattle.clubcard_top.proofs.sending.send_files.Goals as goal

pub returns-in-Some-clause-ends : goal.returns-in-Some-clause-ends
returns-in-Some-clause-ends g c =
    inr (c.in-Some.ensures.cause, (c.in-Some.name.now, c.in-Some.ensures.torn, rw c.about_file.ensures at c.send_message-in-Some.ensures.sent))
