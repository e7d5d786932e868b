-- What is left of a job whose entries are let go.
use Rattle.std.proofs.Common.{◌≡◌, ℕ, Bool, List, sym, ap, ◌∙◌}
use Rattle.ident_core.specs.declared.range.Range.{Range}
use Rattle.job_core.specs.declared.meaning.Job.{Job}
use Rattle.job_core.specs.declared.meaning.JobCrl.{JobCrl}
use Rattle.ledger_core.specs.LedgerFields.{LedgerFields}
use Rattle.ledger_core.specs.declared.fields.LedgerItem.{LedgerItem}
use Rattle.universe_core.specs.Jobs.{facts_of_job, enrolled}
use Rattle.universe_core.specs.Members.{AreMembers, AreOf, accepted_of, members_in}

abbrev pub frame : Job → ℕ × List Range
frame job = (job.epoch, job.ranges.items)

module _ (given left rest : Job) (r : rest ≡ left) where
  -- the epoch and the ranges
  pub frame_left : left.epoch ≡ given.epoch → left.ranges.items ≡ given.ranges.items → frame rest ≡ frame given
  frame_left e s = ap frame r ∙ (λ k. (e k, s k))

  -- and the CRLs, beside what was accepted of the whole job
  pub are_of : (ledger : LedgerFields) (crls : List JobCrl) (shown issuers : List (List ℕ)) (items : List LedgerItem) (settled : List Bool) → left.crls.items ≡ given.crls.items
      → crls ≡ rest.crls.items → shown ≡ issuers → issuers ≡ enrolled (facts_of_job given) → AreMembers (members_in ledger (facts_of_job given)) items settled
      → AreOf ledger (facts_of_job given) crls shown items settled
  are_of ledger crls shown issuers items settled c d i k m = record {
    crls = ap accepted_of (sym c) ∙ ap (λ (j : Job). accepted_of j.crls.items) (sym r) ∙ ap accepted_of (sym d);
    issuers = i ∙ k;
    members = m;
  }
