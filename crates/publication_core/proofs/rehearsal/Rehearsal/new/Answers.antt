use Rattle.std.proofs.Common.{[], refl, sym}
use Rattle.publication_core.specs.Histories.{of_jobs}
use Rattle.publication_core.proofs.rehearsal.Rehearsal.new.Goals as goal

pub invariant_of-result : goal.invariant_of-result
invariant_of-result c = (of_jobs [], record { is_history = tt; parts = refl; ledger = sym c.histories_are_published.ensures.none })
