use Rattle.std.proofs.Common.{◌∙◌}
use Rattle.universe_core.specs.Jobs.{facts_of_job}
use Rattle.universe_core.proofs.Continuing.{head_some}
use Rattle.universe_core.proofs.following.next_head.Goals as goal

pub returns-in-Some : goal.returns-in-Some
returns-in-Some c =
    c.new.ensures ∙ head_some c.args.parts.now c.in-Some.part.now (facts_of_job c.args.job.now) c.in_ok-ranges.ranges.items c.in-Some.ensures.value (c.in_ok-ranges.ensures ∙ c.deref.ensures.value)
