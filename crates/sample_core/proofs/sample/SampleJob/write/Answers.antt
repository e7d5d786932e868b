use Rattle.std.proofs.Common.{subst}
use Rattle.std.specs.Prelude.{OnErr}
use Rattle.sample_core.specs.SampleFields.{SampleFields}
use Rattle.sample_core.specs.Sample.{sample_text}
use Rattle.sample_core.specs.Writing.{IsCut}
use Rattle.sample_core.proofs.sample.SampleJob.write.Goals as goal

pub returns-clause-cut : goal.returns-clause-cut
returns-clause-cut g c =
    subst (λ (d : SampleFields). OnErr c.write_prepared.result (IsCut (g.D.Depot.files c.args.depot.now) (g.D.Depot.files c.write_prepared.new.depot) c.args.name.now (sample_text d.number d.count)))
    c.self.view_is c.write_prepared.ensures.err
