use Rattle.std.proofs.Common.{◌∷◌, []}
use Rattle.job_core.specs.JobFields.{fields_of_job}
use Rattle.universe_core.specs.Formats.{in_format}
use Rattle.publication_core.specs.Formats.{current}
use Rattle.publication_core.specs.Histories.{of_jobs}
use Rattle.publication_core.specs.Rehearsing.{of_none}
use Rattle.publication_core.proofs.Adding.{Layers, none_is, after_is, adds}
use Rattle.publication_core.proofs.rehearsal.Rehearsal.begun.Goals as goal

pub invariant_of-result : goal.invariant_of-result
invariant_of-result g c =
    let layers : Layers = record {
      none = c.histories_are_published.ensures.none;
      next = c.histories_are_published.ensures.history;
      ledger = c.histories_are_published.ensures.ledger;
      numbers = c.histories_are_published.ensures.numbers;
      place = c.histories_are_published.ensures.place;
      chain = c.parts_are_chains.ensures.chain;
      few = c.parts_are_chains.ensures.few;
      grown = c.chains_grow.ensures.only;
    } in
    rw (c.in-Ok.ensures.store, c.into_sealed_and_ledger-sealed.ensures) (
      of_jobs (record { job = in_format current (fields_of_job c.args.job); sealed = c.in_ok-publication.publication.sealed } ∷ []),
      after_is layers (of_jobs []) of_none (fields_of_job c.args.job) c.in_ok-publication.publication (none_is layers) c.requires.fits c.requires.within (c.in_ok-publication.ensures (λ e. cc)),
    )

pub returns-in-Ok-clause-added : goal.returns-in-Ok-clause-added
returns-in-Ok-clause-added g c =
    let layers : Layers = record {
      none = c.histories_are_published.ensures.none;
      next = c.histories_are_published.ensures.history;
      ledger = c.histories_are_published.ensures.ledger;
      numbers = c.histories_are_published.ensures.numbers;
      place = c.histories_are_published.ensures.place;
      chain = c.parts_are_chains.ensures.chain;
      few = c.parts_are_chains.ensures.few;
      grown = c.chains_grow.ensures.only;
    } in
    λ h of.
    rw (c.in-Ok.ensures.store, c.into_sealed_and_ledger-sealed.ensures, c.report_on-report.ensures)
    (adds layers h of_none (fields_of_job c.args.job) c.in_ok-publication.publication of c.requires.fits c.requires.within (c.in_ok-publication.ensures (λ e. cc)))
