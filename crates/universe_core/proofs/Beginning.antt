-- The first step of a chain.
use Rattle.std.specs.List.{AllByRecursion, filter_map, cons_option}
use Rattle.std.specs.List.Sorted.{IsStrictlySortedBy}
use Rattle.std.specs.Str.{bytes_eq}
use Rattle.std.proofs.Common.{◌≡◌, ℕ, ◌<◌, ◌≤◌, List, [], ◌∷◌, map, filter, length, All, Bool, true, false, cond, nat_lt, Option, Some, None, refl, sym, arith}
use Rattle.std.proofs.lemmas.Bool.{lt-ltb, le-ltb}
use Rattle.std.proofs.lemmas.List.{length-map}
use Rattle.std.proofs.lemmas.List.Elements.{All-from_recursion}
use Rattle.std.proofs.lemmas.List.Kept.{IsStrictlySortedBy-filter}
use Rattle.std.proofs.lemmas.List.Sums.{length-filter, count_by-le-length}
use Rattle.ident_core.specs.declared.identity.Identity.{Identity}
use Rattle.ident_core.specs.Order.{octets_cmp, identity_cmp}
use Rattle.job_core.specs.declared.bounds.Limits.{Limits}
use Rattle.job_core.specs.declared.bounds.What.TheVariants as what
use Rattle.job_core.specs.JobFields.{CrlMeaning, JobFields, crl_view, fields_of_job}
use Rattle.job_core.specs.declared.meaning.Job.{Job}
use Rattle.ledger_core.specs.declared.fields.LedgerItem.{LedgerItem}
use Rattle.ledger_core.specs.LedgerFields.{LedgerFields}
use Rattle.ident_core.specs.Sets.{has, key_set}
use Rattle.ident_core.proofs.Canonical.{all_from}
use Rattle.ident_core.proofs.Elements.{map_back, Among-filter}
use Rattle.ident_core.proofs.Sets.{bytes_same, set_few}
use Rattle.universe_core.specs.Jobs.{Crl, JobFacts, facts_of_job, accepted_crl, facts_of, enrolled}
use Rattle.universe_core.specs.History.{Past, Release}
use Rattle.universe_core.specs.Ledgers.{next_item}
use Rattle.universe_core.specs.Groups.{IsGroup, group_of, members_of}
use Rattle.universe_core.specs.declared.fault.AdmitFault.TheVariants as faults

-- ---- why a first job isn't admitted

pub many_by : (limits : Limits) (n : ℕ) → limits.identities < n
    → cond (nat_lt limits.identities n) (Some (faults.TooMany what.Identities limits.identities)) None ≡ Some (faults.TooMany what.Identities limits.identities)
many_by limits n h = let b : nat_lt limits.identities n ≡ true = lt-ltb limits.identities n h in rw b refl

pub few_by : (limits : Limits) (n : ℕ) → n ≤ limits.identities → cond (nat_lt limits.identities n) (Some (faults.TooMany what.Identities limits.identities)) None ≡ None
few_by limits n h = let b : nat_lt limits.identities n ≡ false = le-ltb limits.identities n h in rw b refl

-- ---- how many issuers are enrolled

pub enrolled_few : (job : JobFacts) → length (enrolled job) ≤ length job.crls
unfolding enrolled
enrolled_few job = few_of _ (key_set (map (λ (c : Crl). c.issuer) job.crls)) (set_few octets_cmp (map (λ (c : Crl). c.issuer) job.crls))
  where
    few_of : (p : List ℕ → Bool) (ks : List (List ℕ)) → length ks ≤ length (map (λ (c : Crl). c.issuer) job.crls) → length (filter p ks) ≤ length job.crls
    few_of p ks h = let a = length-filter p ks in let b = count_by-le-length p ks in let m = length-map job.crls (λ (c : Crl). c.issuer) in omega arith

accepted_crls_few : (cs : List CrlMeaning) → length (filter_map accepted_crl cs) ≤ length cs
accepted_crls_few [] = omega arith
accepted_crls_few (c ∷ cs) =
    let n = accepted_crls_few cs in
    elim (accepted_crl c) as (λ (o : Option Crl). length (cons_option o (filter_map accepted_crl cs)) ≤ length (c ∷ cs)) [ None ↦ omega arith | Some d ↦ omega arith ]

pub issuers_few : (job : JobFields) → length (enrolled (facts_of job)) ≤ length job.crls
issuers_few job = let a = enrolled_few (facts_of job) in let b = accepted_crls_few job.crls in omega arith

pub job_issuers_few : (job : Job) → length job.crls.items ≤ 65535 → length (enrolled (facts_of_job job)) ≤ 65535
job_issuers_few job h = let a = issuers_few (fields_of_job job) in let b = length-map job.crls.items crl_view in omega arith

-- ---- the first ledger

pub ids_are : (past : Past) (ledger : LedgerFields) (job : JobFacts) (xs : List Identity) → map (λ (i : LedgerItem). i.id) (map (next_item past ledger job) xs) ≡ xs
ids_are past ledger job xs = map_back (next_item past ledger job) (λ (i : LedgerItem). i.id) xs (λ x. refl)

pub every : {A : Type 0} (P : A → Type 0) (xs : List A) → ((x : A) → P x) → All P xs
every P xs f = λ k d h. f _

-- ---- what a first job makes

own : (k : List ℕ) (xs : List Identity) → AllByRecursion (λ (x : Identity). x.issuer ≡ k) (filter (λ (x : Identity). bytes_eq k x.issuer) xs)
own k xs = all_from (λ (x : Identity). x.issuer ≡ k) (filter (λ (x : Identity). bytes_eq k x.issuer) xs)
    (λ x a. sym (bytes_same k x.issuer (Among-filter (λ (x : Identity). bytes_eq k x.issuer) xs x a).1))

pub group_facts : (r : Release) (k : List ℕ) → IsStrictlySortedBy identity_cmp r.accepted → IsGroup (group_of r k)
group_facts r k s = record {
  issuer = All-from_recursion (λ (x : Identity). x.issuer ≡ k) (members_of k r.accepted) (own k r.accepted);
  ascend = IsStrictlySortedBy-filter identity_cmp (λ (x : Identity). bytes_eq k x.issuer) r.accepted s;
  beside = length-map (members_of k r.accepted) (has r.revoked);
}

-- ---- how many members there are
