use Rattle.command_core.proofs.Workers.{makes_same, replies_same, inputs_same, outputs_same}
use Rattle.command_core.proofs.laws.workers_are_free.Goals as goal

pub returns : goal.returns
returns c = record { same = makes_same; reply = replies_same; reads = inputs_same; writes = outputs_same }
