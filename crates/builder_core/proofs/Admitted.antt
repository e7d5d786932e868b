-- What admission gives of its groups: their issuers ascend, and groups and identities are no more than the limits.
use Rattle.std.specs.List.{AllByRecursion}
use Rattle.std.specs.List.Sorted.{IsStrictlySortedBy}
use Rattle.std.specs.Option.{option_or}
use Rattle.std.specs.Str.{bytes_eq}
use Rattle.std.specs.declared.cmp.Ordering.TheVariants.{Less}
use Rattle.std.proofs.Common.{◌≡◌, ◌≤◌, ◌+◌, ℕ, suc, List, [], ◌∷◌, length, map, filter, Bool, true, false, not, cond, nat_lt, Option, Some, None, refl, sym, ap, ◌∙◌, subst, arith}
use Rattle.std.proofs.lemmas.Bool.{false_from_ne_true, true≢false, ltb-false}
use Rattle.std.proofs.lemmas.List.{length-map}
use Rattle.std.proofs.lemmas.List.Sums.{sum_by-cons}
use Rattle.ident_core.specs.declared.identity.Identity.{Identity}
use Rattle.ident_core.specs.Order.{octets_cmp}
use Rattle.job_core.specs.declared.bounds.Limits.{Limits}
use Rattle.job_core.specs.declared.bounds.What.TheVariants as what
use Rattle.job_core.specs.JobFields.{JobFields}
use Rattle.ledger_core.specs.LedgerFields.{LedgerFields, newest}
use Rattle.ident_core.proofs.Runs.{other_issuer}
use Rattle.ident_core.proofs.Sets.{bytes_same, bytes_refl}
use Rattle.universe_core.specs.declared.fault.AdmitFault.{AdmitFault}
use Rattle.universe_core.specs.declared.fault.AdmitFault.TheVariants as faults
use Rattle.universe_core.specs.Jobs.{JobFacts, facts_of, enrolled}
use Rattle.universe_core.specs.History.{Release, released, accepted_with}
use Rattle.universe_core.specs.Ledgers.{past_in}
use Rattle.universe_core.specs.Groups.{GroupFields, members_of, group_of, groups}
use Rattle.universe_core.specs.Rebases.{group_among}
use Rattle.universe_core.specs.Step.{bad_crl_from, old_epoch, shrunk, chain_full, too_many, refusal, groups_after}
use Rattle.universe_core.proofs.Beginning.{issuers_few}
use Rattle.universe_core.proofs.Issuers.{enrolled_ascend}
use Rattle.builder_core.specs.Building.{issuers_of, identities_in}

-- ---- issuers

pub issuers_among : (xs revoked : List Identity) (ks : List (List ℕ)) → issuers_of (map (group_among xs revoked) ks) ≡ ks
issuers_among xs revoked [] = refl
issuers_among xs revoked (k ∷ ks) = ap (λ ls. k ∷ ls) (issuers_among xs revoked ks)

pub issuers_are : (r : Release) → issuers_of (groups r) ≡ r.issuers
unfolding groups
issuers_are r = issuers_among r.accepted r.revoked r.issuers

pub groups_ascend : (ledger : LedgerFields) (job : JobFacts) (gs : List GroupFields) → gs ≡ groups_after ledger job → IsStrictlySortedBy octets_cmp (issuers_of gs)
groups_ascend ledger job gs is =
    let e : issuers_of gs ≡ enrolled job = ap issuers_of is ∙ issuers_are (released (past_in ledger) job []) in
    subst (IsStrictlySortedBy octets_cmp) (sym e) (enrolled_ascend job)

-- there are no more groups than CRLs
pub groups_few : (ledger : LedgerFields) (job : JobFields) (gs : List GroupFields) → gs ≡ groups_after ledger (facts_of job) → length gs ≤ length job.crls
unfolding groups
groups_few ledger job gs is =
    let e : length gs ≡ length (enrolled (facts_of job)) = ap length is ∙ length-map (enrolled (facts_of job)) (group_of (released (past_in ledger) (facts_of job) [])) in
    omega (arith, e, issuers_few job)

-- ---- identities

module _ {A : Type 0} where
  split_step : (x : A) (ys zs : List A) (n : ℕ) (b : Bool) → length ys + length zs ≡ n → length (cond b (x ∷ ys) ys) + length (cond (not b) (x ∷ zs) zs) ≡ suc n
  split_step x ys zs n true h = omega (arith, h)
  split_step x ys zs n false h = omega (arith, h)

  -- a test parts a list
  split : (p : A → Bool) (xs : List A) → length (filter p xs) + length (filter (λ x. not (p x)) xs) ≡ length xs
  split p [] = refl
  split p (x ∷ xs) = split_step x (filter p xs) (filter (λ y. not (p y)) xs) (length xs) (p x) (split p xs)

  skip_step : (q : A → Bool) (x : A) (ys zs : List A) (b : Bool) → (b ≡ true → q x ≡ false) → filter q ys ≡ filter q zs
      → filter q (cond (not b) (x ∷ ys) ys) ≡ cond (q x) (x ∷ filter q zs) (filter q zs)
  skip_step q x ys zs true h e = rw (h refl) e
  skip_step q x ys zs false h e = ap (λ ws. cond (q x) (x ∷ ws) ws) e

  -- what passes one test is among what fails another that excludes it
  skip : (p q : A → Bool) (xs : List A) → ((x : A) → p x ≡ true → q x ≡ false) → filter q (filter (λ x. not (p x)) xs) ≡ filter q xs
  skip p q [] h = refl
  skip p q (x ∷ xs) h = skip_step q x (filter (λ y. not (p y)) xs) xs (p x) (h x) (skip p q xs h)

apart : (k l : List ℕ) (x : Identity) → octets_cmp k l ≡ Less → bytes_eq k x.issuer ≡ true → bytes_eq l x.issuer ≡ false
apart k l x less e =
    false_from_ne_true (bytes_eq l x.issuer)
    (λ f.
    let same : l ≡ k = bytes_same l x.issuer f ∙ sym (bytes_same k x.issuer e) in
    absurd (true≢false (sym (bytes_refl k) ∙ subst (λ (m : List ℕ). bytes_eq k m ≡ false) same (other_issuer k l less))))

abbrev others_of : List ℕ → List Identity → List Identity
others_of k xs = filter (λ x. not (bytes_eq k x.issuer)) xs

-- how many members these issuers have together
abbrev total : List (List ℕ) → List Identity → ℕ
total [] xs = 0
total (k ∷ ks) xs = length (members_of k xs) + total ks xs

total_others : (k : List ℕ) (ks : List (List ℕ)) (xs : List Identity) → AllByRecursion (λ l. octets_cmp k l ≡ Less) ks → total ks (others_of k xs) ≡ total ks xs
total_others k [] xs h = refl
total_others k (l ∷ ks) xs h =
    ap (λ (ys : List Identity). length ys + total ks (others_of k xs)) (skip (λ x. bytes_eq k x.issuer) (λ x. bytes_eq l x.issuer) xs (λ x e. apart k l x h.0 e))
    ∙ ap (λ (n : ℕ). length (members_of l xs) + n) (total_others k ks xs h.1)

total_few : (ks : List (List ℕ)) (xs : List Identity) → IsStrictlySortedBy octets_cmp ks → total ks xs ≤ length xs
unfolding IsStrictlySortedBy
total_few [] xs s = omega arith
total_few (k ∷ ks) xs s =
    let parted : length (members_of k xs) + length (others_of k xs) ≡ length xs = split (λ x. bytes_eq k x.issuer) xs in
    let same : total ks (others_of k xs) ≡ total ks xs = total_others k ks xs s.0 in
    let few : total ks (others_of k xs) ≤ length (others_of k xs) = total_few ks (others_of k xs) s.1 in
    omega (arith, parted, same, few)

identities_from : (xs revoked : List Identity) (ks : List (List ℕ)) → identities_in (map (group_among xs revoked) ks) ≡ total ks xs
identities_from xs revoked [] = refl
identities_from xs revoked (k ∷ ks) =
    sum_by-cons (λ (g : GroupFields). length g.universe) (group_among xs revoked k) (map (group_among xs revoked) ks)
    ∙ ap (λ (n : ℕ). length (members_of k xs) + n) (identities_from xs revoked ks)

-- the groups of ascending issuers have no more identities together than there are
pub identities_among : (xs revoked : List Identity) (ks : List (List ℕ)) → IsStrictlySortedBy octets_cmp ks → identities_in (map (group_among xs revoked) ks) ≤ length xs
identities_among xs revoked ks s = omega (arith, identities_from xs revoked ks, total_few ks xs s)

none_of : (a b : Option AdmitFault) → option_or a b ≡ None → b ≡ None
none_of None b h = h
none_of (Some fault) b h = absurd cc

few_by : (limits : Limits) (n : ℕ) (b : Bool) → nat_lt limits.identities n ≡ b → cond b (Some (faults.TooMany what.Identities limits.identities)) None ≡ None → n ≤ limits.identities
few_by limits n true e h = absurd cc
few_by limits n false e h = ltb-false limits.identities n e

accepted_few : (limits : Limits) (ledger : LedgerFields) (job : JobFields) → refusal limits ledger job ≡ None → length (accepted_with (past_in ledger) (facts_of job)) ≤ limits.identities
unfolding refusal
accepted_few limits ledger job h =
    let many = too_many limits ledger (facts_of job) in
    let full = option_or (chain_full ledger.parts) many in
    let shrinks = option_or (shrunk (newest ledger.parts) (facts_of job)) full in
    let old = option_or (old_epoch (newest ledger.parts) job.epoch) shrinks in
    let none : many ≡ None =
    none_of (chain_full ledger.parts) many
    (none_of (shrunk (newest ledger.parts) (facts_of job)) full (none_of (old_epoch (newest ledger.parts) job.epoch) shrinks (none_of (bad_crl_from 0 job.crls) old h))) in
    let n = length (accepted_with (past_in ledger) (facts_of job)) in few_by limits n (nat_lt limits.identities n) refl none

-- the groups of an admitted job have no more identities than the limit
pub identities_few : (limits : Limits) (ledger : LedgerFields) (job : JobFields) (gs : List GroupFields) → gs ≡ groups_after ledger (facts_of job)
    → refusal limits ledger job ≡ None → identities_in gs ≤ limits.identities
unfolding groups
identities_few limits ledger job gs is none =
    let r = released (past_in ledger) (facts_of job) [] in
    let few : identities_in (groups_after ledger (facts_of job)) ≤ length (accepted_with (past_in ledger) (facts_of job))
    = identities_among r.accepted r.revoked (enrolled (facts_of job)) (enrolled_ascend (facts_of job)) in
    omega (arith, ap identities_in is, few, accepted_few limits ledger job none)
