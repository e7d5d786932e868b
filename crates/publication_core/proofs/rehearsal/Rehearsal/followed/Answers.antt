use Rattle.job_core.specs.JobFields.{fields_of_job}
use Rattle.universe_core.specs.Formats.{in_format}
use Rattle.publication_core.specs.Formats.{current}
use Rattle.publication_core.specs.Histories.{with_job}
use Rattle.publication_core.proofs.Adding.{Layers, after_is, adds, taken, not_refused}
use Rattle.publication_core.proofs.rehearsal.Rehearsal.followed.Goals as goal

pub invariant_of-result : goal.invariant_of-result
invariant_of-result g c =
    let layers : Layers = record {
      none = c.histories_are_published.ensures.none;
      next = c.histories_are_published.ensures.history;
      ledger = c.histories_are_published.ensures.ledger;
      numbers = c.histories_are_published.ensures.numbers;
      place = c.histories_are_published.ensures.place;
      chain = c.parts_are_chains.ensures.chain;
      few = c.parts_are_chains.ensures.few;
      grown = c.chains_grow.ensures.only;
    } in
    rw (c.in-Ok.ensures.added, c.into_sealed_and_ledger-sealed.ensures) (
      with_job c.requires.held.0 (in_format current (fields_of_job c.args.job)) c.in_ok-publication.publication.sealed,
      after_is layers c.requires.held.0 (record { parts = c.args.store; ledger = c.args.ledger }) (fields_of_job c.args.job) c.in_ok-publication.publication
          c.requires.held.1 c.requires.fits c.requires.within (c.in_ok-publication.ensures (λ e. cc)),
    )

pub unreachable-requires : goal.unreachable-requires
unreachable-requires g c =
    let layers : Layers = record {
      none = c.histories_are_published.ensures.none;
      next = c.histories_are_published.ensures.history;
      ledger = c.histories_are_published.ensures.ledger;
      numbers = c.histories_are_published.ensures.numbers;
      place = c.histories_are_published.ensures.place;
      chain = c.parts_are_chains.ensures.chain;
      few = c.parts_are_chains.ensures.few;
      grown = c.chains_grow.ensures.only;
    } in
    not_refused _ _ (taken layers c.requires.held.0 (record { parts = c.args.store; ledger = c.args.ledger }) (fields_of_job c.args.job)
    c.in_ok-publication.publication c.requires.held.1 c.requires.fits c.requires.within
    (c.in_ok-publication.ensures (λ e. cc)) (rw c.store.view_is at c.store.invariant.0.some)) (rw c.into_sealed_and_ledger-sealed.ensures at c.in-Err.ensures.refused.1)

pub returns-clause-added : goal.returns-clause-added
returns-clause-added g c =
    let layers : Layers = record {
      none = c.histories_are_published.ensures.none;
      next = c.histories_are_published.ensures.history;
      ledger = c.histories_are_published.ensures.ledger;
      numbers = c.histories_are_published.ensures.numbers;
      place = c.histories_are_published.ensures.place;
      chain = c.parts_are_chains.ensures.chain;
      few = c.parts_are_chains.ensures.few;
      grown = c.chains_grow.ensures.only;
    } in
    λ h of.
    rw (c.in-Ok.ensures.added, c.into_sealed_and_ledger-sealed.ensures, c.report_on-report.ensures)
    (adds layers h (record { parts = c.args.store; ledger = c.args.ledger }) (fields_of_job c.args.job) c.in_ok-publication.publication of c.requires.fits
    c.requires.within (c.in_ok-publication.ensures (λ e. cc)))
