-- An admitted job follows the releases before it.
use Rattle.std.specs.List.{find, list_all}
use Rattle.std.specs.Option.{option_map, option_or}
use Rattle.std.proofs.Common.{◌≡◌, List, [], ◌∷◌, map, Bool, true, false, cond, not, ◌&&◌, Option, Some, None, refl}
use Rattle.ident_core.specs.declared.range.Range.{Range}
use Rattle.ident_core.specs.Coverage.{lies_in_some, first_outside}
use Rattle.job_core.specs.declared.bounds.Limits.{Limits}
use Rattle.job_core.specs.JobFields.{JobFields}
use Rattle.ledger_core.specs.LedgerFields.{newest}
use Rattle.universe_core.specs.Jobs.{JobFacts, facts_of}
use Rattle.universe_core.specs.History.{Release}
use Rattle.universe_core.specs.Ledgers.{ledger_of, part_from}
use Rattle.universe_core.specs.Step.{bad_crl_from, old_epoch, shrunk, refusal}
use Rattle.universe_core.specs.declared.fault.AdmitFault.{AdmitFault}
use Rattle.universe_core.specs.declared.fault.AdmitFault.TheVariants as faults
use Rattle.history_core.specs.Facts.{KeepsCoverage}

none_of : (a b : Option AdmitFault) → option_or a b ≡ None → (a ≡ None) × (b ≡ None)
none_of None b h = (refl, h)
none_of (Some f) b h = absurd cc

none_mapped : {A B : Type 0} (f : A → B) (o : Option A) → option_map f o ≡ None → o ≡ None
none_mapped f None h = refl
none_mapped f (Some x) h = absurd cc

all_step : {A : Type 0} (p : A → Bool) (x : A) (xs : List A) (b : Bool) → p x ≡ b → (find (λ y. not (p y)) xs ≡ None → list_all p xs ≡ true)
    → cond (not b) (Some x) (find (λ y. not (p y)) xs) ≡ None → (b && list_all p xs) ≡ true
all_step p x xs true e next h = next h
all_step p x xs false e next h = absurd cc

-- where none fails, all pass
all_without : {A : Type 0} (p : A → Bool) (xs : List A) → find (λ y. not (p y)) xs ≡ None → list_all p xs ≡ true
all_without p [] h = refl
all_without p (x ∷ xs) h = all_step p x xs (p x) refl (all_without p xs) h

follows_from : (rs : List Release) (job : JobFacts) → shrunk (newest (map part_from rs)) job ≡ None → KeepsCoverage rs job
follows_from [] job h = tt
follows_from (r ∷ []) job h =
    all_without (lies_in_some job.ranges) r.ranges
    (none_mapped (λ (a : Range). a.log) (find (λ a. not (lies_in_some job.ranges a)) r.ranges) (none_mapped faults.CoverageShrinks (first_outside r.ranges job.ranges) h))
follows_from (r ∷ q ∷ rs) job h = follows_from (q ∷ rs) job h

pub admitted_follows : (limits : Limits) (rs : List Release) (job : JobFields) → refusal limits (ledger_of rs) job ≡ None → KeepsCoverage rs (facts_of job)
unfolding refusal ledger_of
admitted_follows limits rs job h =
    let parts = map part_from rs in
    let a = none_of (bad_crl_from 0 job.crls) _ h in
    let b = none_of (old_epoch (newest parts) job.epoch) _ a.1 in
    let c = none_of (shrunk (newest parts) (facts_of job)) _ b.1 in
    follows_from rs (facts_of job) c.0
