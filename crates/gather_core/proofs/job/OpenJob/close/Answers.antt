use Rattle.gather_core.proofs.Joining.{closed}
use Rattle.gather_core.proofs.job.OpenJob.close.Goals as goal

pub returns : goal.returns
returns c = closed c.args.self c.put_u8.new.out.items c.in_ok-put_u8.ensures.ok
