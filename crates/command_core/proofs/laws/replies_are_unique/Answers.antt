use Rattle.command_core.proofs.Unique.{Publishing, Others, outcome_unique, reply_unique}
use Rattle.command_core.proofs.laws.replies_are_unique.Goals as goal

pub returns : goal.returns
returns c =
    let publishing : Publishing = record {
      one = c.publications_are_unique.ensures.outcome;
      front = c.histories_are_published.ensures.front;
      part = c.publications_are_unique.ensures.part;
      complete = c.histories_are_published.ensures.complete;
    } in
    let others : Others = record { audits = c.audits_are_unique.ensures; bases = c.one_thing_comes_of_a_rebase.ensures.outcome } in
    record {
      outcome = λ command inputs a b x y. outcome_unique publishing others command inputs a b x y;
      reply = λ command inputs a b x y. reply_unique publishing others command inputs a b x y;
    }
