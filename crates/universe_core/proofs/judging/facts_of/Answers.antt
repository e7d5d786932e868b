use Rattle.std.proofs.Common.{◌∙◌, refl, length}
use Rattle.std.proofs.lemmas.Option.{slice_get_read}
use Rattle.universe_core.specs.Judging.{is_timely}
use Rattle.universe_core.specs.Reading.{entry_fields}
use Rattle.universe_core.proofs.Members.{settled_there}
use Rattle.universe_core.proofs.judging.facts_of.Goals as goal

pub returns-in-Some-get-clause-settled : goal.returns-in-Some-get-clause-settled
returns-in-Some-get-clause-settled c =
    c.facts_beside.ensures.settled
    ∙ settled_there (entry_fields c.args.context.now.issuers.now c.args.context.now.ranges.now) (is_timely c.args.context.now.parts.now c.args.birth)
    c.args.context.now.parts.now c.args.last c.in-Some.place c.in-Some-get.part.now c.args.run.now c.in-Some.is
    (slice_get_read c.args.context.now.parts.now (length c.args.context.now.parts.now) c.in-Some.place c.in-Some-get.part.now refl c.in-Some-get.ensures.lookup.3.0 c.in-Some-get.ensures.lookup.1)
