-- A job is admitted behind the ledger of a history exactly if it is admissible behind the history.
use Rattle.std.proofs.Common.{◌≡◌, ℕ, suc, ◌<◌, ◌≤◌, List, [], ◌∷◌, map, length, Bool, true, false, cond, ltb, Option, Some, None, Result, Ok, Err, refl, sym, ap, ◌∙◌, subst, arith}
use Rattle.std.specs.Prelude.{All, IsOk, IsNone, IfSome, nat_le}
use Rattle.std.specs.Option.{option_map, option_or}
use Rattle.std.proofs.lemmas.Bool.{ltb-false, leb-false, lt-leb}
use Rattle.std.proofs.lemmas.List.{length-map}
use Rattle.std.proofs.lemmas.List.Elements.{All-nil, All-cons, All-head, All-tail}
use Rattle.ident_core.specs.Coverage.{first_outside}
use Rattle.ident_core.proofs.Within.{within-iff}
use Rattle.crl_core.specs.declared.crl.CrlFault.{CrlFault}
use Rattle.crl_core.specs.Outcome.{CrlFields}
use Rattle.job_core.specs.declared.bounds.TheConstants.Limits.{PUBLISHED}
use Rattle.job_core.specs.JobFields.{CrlMeaning, JobFields}
use Rattle.ledger_core.specs.LedgerFields.{newest}
use Rattle.universe_core.specs.Jobs.{facts_of}
use Rattle.universe_core.specs.History.{Release, Past, past_of, accepted_with}
use Rattle.universe_core.specs.Ledgers.{past_in, part_from, ledger_of}
use Rattle.universe_core.specs.Step.{bad_crl_at, bad_crl_from, old_epoch, shrunk, chain_full, too_many, refusal}
use Rattle.universe_core.specs.declared.fault.AdmitFault.{AdmitFault}
use Rattle.universe_core.specs.declared.fault.AdmitFault.TheVariants as faults
use Rattle.universe_core.proofs.Beginning.{few_by}
use Rattle.history_core.specs.Facts.{IsSound}
use Rattle.history_core.proofs.Ledger.{past_in_ledger}
use Rattle.publication_core.specs.Histories.{newest_of, GoesOn}

-- ---- no fault

none_of : (a b : Option AdmitFault) → option_or a b ≡ None → (a ≡ None) × (b ≡ None)
none_of None b h = (refl, h)
none_of (Some fault) b h = absurd cc

none_both : (a b : Option AdmitFault) → a ≡ None → b ≡ None → option_or a b ≡ None
none_both None b h k = k
none_both (Some fault) b h k = absurd cc

no_fault : (b : Bool) (fault : AdmitFault) → cond b (Some fault) None ≡ None → b ≡ false
no_fault true fault h = absurd cc
no_fault false fault h = refl

none_by : (b : Bool) (fault : AdmitFault) → b ≡ false → ◌≡◌ {A = Option AdmitFault} (cond b (Some fault) None) None
none_by true fault h = absurd cc
none_by false fault h = refl

-- ---- CRLs

crl_ok : (place : ℕ) (r : Result CrlFields CrlFault) → bad_crl_at place r ≡ None → IsOk r
crl_ok place (Ok c) h = refl
crl_ok place (Err fault) h = absurd cc

crls_ok : (place : ℕ) (crls : List CrlMeaning) → bad_crl_from place crls ≡ None → All (λ c. IsOk c.outcome) crls
crls_ok place [] h = All-nil (λ (c : CrlMeaning). IsOk c.outcome)
crls_ok place (c ∷ crls) h =
    let both = none_of (bad_crl_at place c.outcome) (bad_crl_from (suc place) crls) h in
    All-cons (λ (d : CrlMeaning). IsOk d.outcome) c crls (crl_ok place c.outcome both.0) (crls_ok (suc place) crls both.1)

ok_crl : (place : ℕ) (r : Result CrlFields CrlFault) → IsOk r → bad_crl_at place r ≡ None
ok_crl place (Ok c) h = refl
ok_crl place (Err fault) h = absurd cc

ok_crls : (place : ℕ) (crls : List CrlMeaning) → All (λ c. IsOk c.outcome) crls → bad_crl_from place crls ≡ None
ok_crls place [] h = refl
ok_crls place (c ∷ crls) h =
    ap (λ o. option_or o (bad_crl_from (suc place) crls)) (ok_crl place c.outcome (All-head (λ (d : CrlMeaning). IsOk d.outcome) c crls h))
    ∙ ok_crls (suc place) crls (All-tail (λ (d : CrlMeaning). IsOk d.outcome) c crls h)

-- ---- the newest part

newest_from : (rs : List Release) → newest (map part_from rs) ≡ option_map part_from (newest_of rs)
newest_from [] = refl
newest_from (r ∷ []) = refl
newest_from (r ∷ q ∷ rs) = newest_from (q ∷ rs)

none_shrunk : (o : Option (List ℕ)) → option_map faults.CoverageShrinks o ≡ None → IsNone o
none_shrunk None h = refl
none_shrunk (Some x) h = absurd cc

shrunk_none : (o : Option (List ℕ)) → IsNone o → option_map faults.CoverageShrinks o ≡ None
shrunk_none None h = refl
shrunk_none (Some x) h = absurd cc

goes_on : (o : Option Release) (job : JobFields) → old_epoch (option_map part_from o) job.epoch ≡ None → shrunk (option_map part_from o) (facts_of job) ≡ None → IfSome o (GoesOn job)
goes_on None job a b = tt
goes_on (Some r) job a b = record {
  epoch = leb-false job.epoch r.epoch (no_fault (nat_le job.epoch r.epoch) (faults.OldEpoch r.epoch job.epoch) a);
  coverage = (within-iff r.ranges job.ranges (first_outside r.ranges job.ranges) refl).0 (none_shrunk (first_outside r.ranges job.ranges) b);
}

not_old : (o : Option Release) (job : JobFields) → IfSome o (GoesOn job) → old_epoch (option_map part_from o) job.epoch ≡ None
not_old None job g = refl
not_old (Some r) job g = none_by (nat_le job.epoch r.epoch) (faults.OldEpoch r.epoch job.epoch) (lt-leb job.epoch r.epoch g.epoch)

not_shrunk : (o : Option Release) (job : JobFields) → IfSome o (GoesOn job) → shrunk (option_map part_from o) (facts_of job) ≡ None
not_shrunk None job g = refl
not_shrunk (Some r) job g =
    shrunk_none (first_outside r.ranges job.ranges) ((within-iff r.ranges job.ranges (first_outside r.ranges job.ranges) refl).1 g.coverage)

-- ---- admission

-- what admission asks of a job behind releases
pub record IsAdmitted (rs : List Release) (job : JobFields) : Type 0 where
  pub crls : All (λ c. IsOk c.outcome) job.crls
  pub goes_on : IfSome (newest_of rs) (GoesOn job)
  pub few_parts : length rs < 64
  pub few_identities : length (accepted_with (past_of rs) (facts_of job)) ≤ 4194304

module _ (rs : List Release) (job : JobFields) (sound : IsSound rs) where
  identities_same : length (accepted_with (past_in (ledger_of rs)) (facts_of job)) ≡ length (accepted_with (past_of rs) (facts_of job))
  identities_same = ap (λ (past : Past). length (accepted_with past (facts_of job))) (past_in_ledger rs sound)

  newest_is : newest (ledger_of rs).parts ≡ option_map part_from (newest_of rs)
  unfolding ledger_of
  newest_is = newest_from rs

  pub parts_many : length (ledger_of rs).parts ≡ length rs
  unfolding ledger_of
  parts_many = length-map rs part_from

  pub admitted : refusal PUBLISHED (ledger_of rs) job ≡ None → IsAdmitted rs job
  unfolding refusal
  admitted h =
      let a = none_of (bad_crl_from 0 job.crls) _ h in
      let b = none_of (old_epoch (newest (ledger_of rs).parts) job.epoch) _ a.1 in
      let c = none_of (shrunk (newest (ledger_of rs).parts) (facts_of job)) _ b.1 in
      let d = none_of (chain_full (ledger_of rs).parts) (too_many PUBLISHED (ledger_of rs) (facts_of job)) c.1 in
      let room : length (ledger_of rs).parts < 64 = leb-false 64 (length (ledger_of rs).parts) (no_fault (nat_le 64 (length (ledger_of rs).parts)) faults.ChainFull d.0) in
      let few : length (accepted_with (past_in (ledger_of rs)) (facts_of job)) ≤ 4194304
      = ltb-false 4194304 (length (accepted_with (past_in (ledger_of rs)) (facts_of job))) (no_fault (ltb 4194304 (length (accepted_with (past_in (ledger_of rs)) (facts_of job)))) _ d.1) in
      record {
        crls = crls_ok 0 job.crls a.0;
        goes_on = goes_on (newest_of rs) job (subst (λ o. old_epoch o job.epoch ≡ None) newest_is b.0) (subst (λ o. shrunk o (facts_of job) ≡ None) newest_is c.0);
        few_parts = omega (arith, room, parts_many);
        few_identities = omega (arith, few, identities_same);
      }

  pub not_refused : IsAdmitted rs job → refusal PUBLISHED (ledger_of rs) job ≡ None
  unfolding refusal
  not_refused a =
      none_both (bad_crl_from 0 job.crls) _ (ok_crls 0 job.crls a.crls)
      (none_both (old_epoch (newest (ledger_of rs).parts) job.epoch) _ (subst (λ o. old_epoch o job.epoch ≡ None) (sym newest_is) (not_old (newest_of rs) job a.goes_on))
      (none_both (shrunk (newest (ledger_of rs).parts) (facts_of job)) _ (subst (λ o. shrunk o (facts_of job) ≡ None) (sym newest_is) (not_shrunk (newest_of rs) job a.goes_on))
      (none_both (chain_full (ledger_of rs).parts) (too_many PUBLISHED (ledger_of rs) (facts_of job))
      (none_by (nat_le 64 (length (ledger_of rs).parts)) faults.ChainFull (lt-leb 64 (length (ledger_of rs).parts) (omega (arith, a.few_parts, parts_many))))
      (few_by PUBLISHED (length (accepted_with (past_in (ledger_of rs)) (facts_of job))) (omega (arith, identities_same, a.few_identities))))))
