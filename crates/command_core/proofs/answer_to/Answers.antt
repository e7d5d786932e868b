use Rattle.std.proofs.Common.{[], None, Ok, inl, refl, ap}
use Rattle.word_core.specs.declared.command.Command.TheVariants as commands
use Rattle.outside_core.specs.Reads.{WhichFailed}
use Rattle.command_core.specs.Commands.{sample_done, place_done}
use Rattle.command_core.specs.Replies.{with_files}
use Rattle.command_core.proofs.Replying.{made}
use Rattle.command_core.proofs.answer_to.Goals as goal

pub returns-in-Usage-clause-reply : goal.returns-in-Usage-clause-reply
returns-in-Usage-clause-reply g c =
    rw c.in-Usage.is ((λ i. None), (λ i. refl), inl (refl, ap (with_files []) c.usage.ensures), inl refl)

pub returns-in-Sample-clause-reply : goal.returns-in-Sample-clause-reply
returns-in-Sample-clause-reply g c =
    rw c.in-Sample.is (made (commands.Sample c.in-Sample.asked) (g.D.Depot.files c.args.depot.now)
    (WhichFailed g.D.Depot c.args.depot.now c.args.depot.now) (λ i. None) (Ok (sample_done c.in-Sample.asked)) c.answer_sample.result
    (λ i. refl) (inl refl) refl c.answer_sample.ensures)

pub returns-in-Place-clause-reply : goal.returns-in-Place-clause-reply
returns-in-Place-clause-reply g c =
    rw c.in-Place.is (made (commands.Place c.in-Place.asked) (g.D.Depot.files c.args.depot.now)
    (WhichFailed g.D.Depot c.args.depot.now c.args.depot.now) (λ i. None) (Ok (place_done c.in-Place.asked)) (Ok c.answer_place.result)
    (λ i. refl) (inl refl) refl c.answer_place.ensures)
