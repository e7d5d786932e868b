use Rattle.std.proofs.Common.{subst}
use Rattle.std.specs.Prelude.{OnErr}
use Rattle.command_core.specs.ReplyFields.{OutputFields}
use Rattle.command_core.specs.Runs.{IsLeft}
use Rattle.command_core.proofs.output.SampleOutput.write.Goals as goal

pub returns-clause-err : goal.returns-clause-err
returns-clause-err g c =
    subst (λ (o : OutputFields). OnErr c.write.result (IsLeft (g.D.Depot.files c.args.depot.now) (g.D.Depot.files c.write.new.depot) o)) c.self.view_is c.write.ensures.cut
