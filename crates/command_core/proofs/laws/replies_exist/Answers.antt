use Rattle.command_core.proofs.Existing.{Existence, outcome_exists, reply_exists}
use Rattle.word_core.proofs.Asked.{few_jobs}
use Rattle.command_core.proofs.laws.replies_exist.Goals as goal

pub returns : goal.returns
returns c =
    let layers : Existence = record {
      something = c.a_publication_or_a_refusal.ensures;
      rebases = c.one_thing_comes_of_a_rebase.ensures.some;
      fits = c.jobs_that_are_read_fit.ensures.fits;
      within = c.jobs_that_are_read_fit.ensures.within;
      next = c.histories_are_published.ensures.history;
      found = c.audits_exist.ensures;
    } in
    record {
      outcome = λ command inputs some few octets. outcome_exists layers command inputs some few octets;
      reply = λ command inputs few octets. reply_exists layers command inputs few octets;
      words = few_jobs;
    }
