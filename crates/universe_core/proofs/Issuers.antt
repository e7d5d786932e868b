-- The issuers with a CRL, without those with a CRL out of date.
use Rattle.std.specs.List.{list_all, filter_map, cons_option}
use Rattle.std.specs.Str.{bytes_eq}
use Rattle.std.specs.List.Sorted.{IsStrictlySortedBy}
use Rattle.std.proofs.Common.{◌≡◌, ℕ, List, [], ◌∷◌, map, filter, Bool, true, false, cond, not, Option, Some, None, refl, sym, ap, ◌∙◌}
use Rattle.std.proofs.lemmas.List.Kept.{IsStrictlySortedBy-filter}
use Rattle.ident_core.specs.Order.{octets_cmp}
use Rattle.job_core.specs.declared.meaning.JobCrl.{JobCrl}
use Rattle.job_core.specs.JobFields.{crl_view}
use Rattle.ident_core.specs.Sets.{has_key, key_set}
use Rattle.ident_core.proofs.Sets.{has_key_set, key_set_ascends}
use Rattle.universe_core.specs.Jobs.{Crl, JobFacts, accepted_crl, is_stale, crls_of, enrolled}
use Rattle.universe_core.specs.Enrolling.{facts_of_crl, issuer_if, stale_issuer_if}

pub enrolled_ascend : (job : JobFacts) → IsStrictlySortedBy octets_cmp (enrolled job)
unfolding enrolled
enrolled_ascend job =
    IsStrictlySortedBy-filter octets_cmp (λ issuer. list_all (λ c. not (is_stale job.moment c.next_update)) (crls_of issuer job)) (key_set (map (λ c. c.issuer) job.crls))
    (key_set_ascends (map (λ c. c.issuer) job.crls))

abbrev crl_issuers : List Crl → List (List ℕ)
crl_issuers cs = map (λ (c : Crl). c.issuer) cs

abbrev stale_in : ℕ → List Crl → List Crl
stale_in moment cs = filter (λ (c : Crl). is_stale moment c.next_update) cs

module _ (moment : ℕ) (k : List ℕ) where
  abbrev fresh : Crl → Bool
  fresh c = not (is_stale moment c.next_update)

  step : (b1 b2 : Bool) (c : Crl) (cs ds : List Crl) → is_stale moment c.next_update ≡ b1 → bytes_eq k c.issuer ≡ b2
      → not (has_key (crl_issuers cs) k) ≡ list_all fresh ds
      → not (has_key (crl_issuers (cond b1 (c ∷ cs) cs)) k) ≡ list_all fresh (cond b2 (c ∷ ds) ds)
  step true true c cs ds e1 e2 h = rw (e1, e2) refl
  step true false c cs ds e1 e2 h = rw e2 h
  step false true c cs ds e1 e2 h = rw e1 h
  step false false c cs ds e1 e2 h = h

  fresh_is : (cs : List Crl) → not (has_key (crl_issuers (stale_in moment cs)) k) ≡ list_all fresh (filter (λ (d : Crl). bytes_eq k d.issuer) cs)
  fresh_is [] = refl
  fresh_is (c ∷ cs) = step (is_stale moment c.next_update) (bytes_eq k c.issuer) c (stale_in moment cs) (filter (λ (d : Crl). bytes_eq k d.issuer) cs) refl refl (fresh_is cs)

filter_agree : {A : Type 0} (p q : A → Bool) (xs : List A) → ((x : A) → p x ≡ q x) → filter p xs ≡ filter q xs
filter_agree p q xs h = ap (λ f. filter f xs) (λ i. λ x. h x i)

enrolled_is : (job : JobFacts) → filter (λ k. not (has_key (key_set (crl_issuers (stale_in job.moment job.crls))) k)) (key_set (crl_issuers job.crls)) ≡ enrolled job
unfolding enrolled
enrolled_is job =
    filter_agree (λ k. not (has_key (key_set (crl_issuers (stale_in job.moment job.crls))) k))
    (λ k. list_all (λ (c : Crl). not (is_stale job.moment c.next_update)) (crls_of k job)) (key_set (crl_issuers job.crls))
    (λ k. ap not (has_key_set (crl_issuers (stale_in job.moment job.crls)) k) ∙ fresh_is job.moment k job.crls)

-- ---- of the CRLs as the job of some bytes tells them

issuers_told : (cs : List JobCrl) → filter_map (λ c. issuer_if (facts_of_crl c)) cs ≡ crl_issuers (filter_map accepted_crl (map crl_view cs))
issuers_told [] = refl
issuers_told (c ∷ cs) =
    (elim (facts_of_crl c) as (λ (o : Option Crl). cons_option (issuer_if o) (filter_map (λ d. issuer_if (facts_of_crl d)) cs) ≡ crl_issuers (cons_option o (filter_map accepted_crl (map crl_view cs))))
    [ None ↦ issuers_told cs | Some d ↦ ap (λ (z : List (List ℕ)). d.issuer ∷ z) (issuers_told cs) ])

stale_step : (moment : ℕ) (d : Crl) (xs : List (List ℕ)) (ds : List Crl) (b : Bool) → xs ≡ crl_issuers ds → cons_option (cond b (Some d.issuer) None) xs ≡ crl_issuers (cond b (d ∷ ds) ds)
stale_step moment d xs ds true h = ap (λ (z : List (List ℕ)). d.issuer ∷ z) h
stale_step moment d xs ds false h = h

stale_told : (moment : ℕ) (cs : List JobCrl) → filter_map (λ c. stale_issuer_if moment (facts_of_crl c)) cs ≡ crl_issuers (stale_in moment (filter_map accepted_crl (map crl_view cs)))
stale_told moment [] = refl
stale_told moment (c ∷ cs) =
    (elim (facts_of_crl c) as (λ (o : Option Crl). cons_option (stale_issuer_if moment o) (filter_map (λ d. stale_issuer_if moment (facts_of_crl d)) cs)
    ≡ crl_issuers (stale_in moment (cons_option o (filter_map accepted_crl (map crl_view cs)))))
    [ None ↦ stale_told moment cs | Some d ↦ stale_step moment d _ (stale_in moment (filter_map accepted_crl (map crl_view cs))) (is_stale moment d.next_update) (stale_told moment cs) ])

pub enrolled_from : (job : JobFacts) (crls : List JobCrl) (keys others left : List (List ℕ)) → job.crls ≡ filter_map accepted_crl (map crl_view crls)
    → keys ≡ key_set (filter_map (λ c. issuer_if (facts_of_crl c)) crls)
    → others ≡ key_set (filter_map (λ c. stale_issuer_if job.moment (facts_of_crl c)) crls)
    → left ≡ filter (λ k. not (has_key others k)) keys → left ≡ enrolled job
enrolled_from job crls keys others left t a b c =
    c ∙ ap (λ ks. filter (λ k. not (has_key others k)) ks) (a ∙ ap key_set (issuers_told crls ∙ ap crl_issuers (sym t)))
    ∙ ap (λ os. filter (λ k. not (has_key os k)) (key_set (crl_issuers job.crls))) (b ∙ ap key_set (stale_told job.moment crls ∙ ap (λ ds. crl_issuers (stale_in job.moment ds)) (sym t)))
    ∙ enrolled_is job
