-- Whether a job enrolls an issuer, as a test.
use Rattle.std.specs.List.{list_any, list_all, filter_map, cons_option}
use Rattle.std.specs.Str.{bytes_eq}
use Rattle.std.proofs.Common.{◌≡◌, ℕ, List, [], ◌∷◌, map, filter, Bool, true, false, cond, not, ◌&&◌, ◌||◌, Option, Some, None, refl, sym, ap, ◌∙◌}
use Rattle.std.proofs.lemmas.Bool.{and_parts, and_from}
use Rattle.job_core.specs.declared.meaning.JobCrl.{JobCrl}
use Rattle.job_core.specs.JobFields.{crl_view}
use Rattle.ident_core.specs.Sets.{has_key, key_set}
use Rattle.ident_core.proofs.Elements.{bool_same, Among-filter, Among-in_filter}
use Rattle.ident_core.proofs.Sets.{Among-from_has_key, has_key-from_Among, Among-key_set, Among-from_key_set}
use Rattle.universe_core.specs.Jobs.{Crl, JobFacts, accepted_crl, is_stale, crls_of, enrolled, is_enrolled}
use Rattle.universe_core.specs.Enrolling.{facts_of_crl, is_of, is_stale_of}

has_issuer : (k : List ℕ) (cs : List Crl) → has_key (map (λ (c : Crl). c.issuer) cs) k ≡ list_any (λ (c : Crl). bytes_eq k c.issuer) cs
has_issuer k [] = refl
has_issuer k (c ∷ cs) = ap (λ (b : Bool). bytes_eq k c.issuer || b) (has_issuer k cs)

-- of the enrolled issuers the test is true, and of no other
pub enrolled_test : (job : JobFacts) (k : List ℕ) → has_key (enrolled job) k ≡ is_enrolled job k
unfolding enrolled is_enrolled
enrolled_test job k =
    let P : List ℕ → Bool = λ issuer. list_all (λ c. not (is_stale job.moment c.next_update)) (crls_of issuer job) in
    let K : List (List ℕ) = map (λ c. c.issuer) job.crls in
    let has : has_key K k ≡ list_any (λ (c : Crl). bytes_eq k c.issuer) job.crls = has_issuer k job.crls in
    bool_same (has_key (filter P (key_set K)) k) (list_any (λ (c : Crl). bytes_eq k c.issuer) job.crls && P k)
    (λ h.
    let f = Among-filter P (key_set K) k (Among-from_has_key (filter P (key_set K)) k h) in
    and_from (list_any (λ (c : Crl). bytes_eq k c.issuer) job.crls) (P k) (sym has ∙ has_key-from_Among K k (Among-from_key_set K k f.0)) f.1)
    (λ h.
    let p = and_parts (list_any (λ (c : Crl). bytes_eq k c.issuer) job.crls) (P k) h in
    has_key-from_Among (filter P (key_set K)) k (Among-in_filter P (key_set K) k (Among-key_set K k (Among-from_has_key K k (has ∙ p.0))) p.1))

-- ---- of the CRLs as the job of some bytes tells them

abbrev told : List JobCrl → List Crl
told cs = filter_map accepted_crl (map crl_view cs)

has_told : (k : List ℕ) (cs : List JobCrl) → list_any (λ c. is_of k (facts_of_crl c)) cs ≡ list_any (λ (c : Crl). bytes_eq k c.issuer) (told cs)
has_told k [] = refl
has_told k (c ∷ cs) =
    (elim (facts_of_crl c) as (λ (o : Option Crl). (is_of k o || list_any (λ d. is_of k (facts_of_crl d)) cs) ≡ list_any (λ (d : Crl). bytes_eq k d.issuer) (cons_option o (told cs)))
    [ None ↦ has_told k cs | Some d ↦ ap (λ (b : Bool). bytes_eq k d.issuer || b) (has_told k cs) ])

fresh_step : (moment : ℕ) (d : Crl) (ds : List Crl) (b s n : Bool) → is_stale moment d.next_update ≡ s → not n ≡ list_all (λ (c : Crl). not (is_stale moment c.next_update)) ds
    → not ((b && s) || n) ≡ list_all (λ (c : Crl). not (is_stale moment c.next_update)) (cond b (d ∷ ds) ds)
fresh_step moment d ds true true n e h = rw e refl
fresh_step moment d ds true false n e h = rw e h
fresh_step moment d ds false s n e h = h

fresh_told : (moment : ℕ) (k : List ℕ) (cs : List JobCrl) → not (list_any (λ c. is_stale_of moment k (facts_of_crl c)) cs)
    ≡ list_all (λ (c : Crl). not (is_stale moment c.next_update)) (filter (λ (c : Crl). bytes_eq k c.issuer) (told cs))
fresh_told moment k [] = refl
fresh_told moment k (c ∷ cs) =
    (elim (facts_of_crl c) as (λ (o : Option Crl). not (is_stale_of moment k o || list_any (λ d. is_stale_of moment k (facts_of_crl d)) cs)
    ≡ list_all (λ (d : Crl). not (is_stale moment d.next_update)) (filter (λ (d : Crl). bytes_eq k d.issuer) (cons_option o (told cs)))) [
      | None ↦ fresh_told moment k cs
      | Some d ↦ fresh_step moment d (filter (λ (e : Crl). bytes_eq k e.issuer) (told cs)) (bytes_eq k d.issuer) (is_stale moment d.next_update)
          (list_any (λ e. is_stale_of moment k (facts_of_crl e)) cs) refl (fresh_told moment k cs)
    ])

enrolled_told : (job : JobFacts) (k : List ℕ) (crls : List JobCrl) → job.crls ≡ told crls
    → (list_any (λ c. is_of k (facts_of_crl c)) crls && not (list_any (λ c. is_stale_of job.moment k (facts_of_crl c)) crls)) ≡ is_enrolled job k
unfolding is_enrolled
enrolled_told job k crls t =
    ap (λ (b : Bool). b && not (list_any (λ c. is_stale_of job.moment k (facts_of_crl c)) crls)) (has_told k crls ∙ ap (list_any (λ (c : Crl). bytes_eq k c.issuer)) (sym t))
    ∙ ap (λ (b : Bool). list_any (λ (c : Crl). bytes_eq k c.issuer) job.crls && b)
    (fresh_told job.moment k crls ∙ ap (λ (cs : List Crl). list_all (λ (c : Crl). not (is_stale job.moment c.next_update)) (filter (λ (c : Crl). bytes_eq k c.issuer) cs)) (sym t))

pub enrolled_yes : (job : JobFacts) (k : List ℕ) (crls : List JobCrl) → job.crls ≡ told crls → (some stale : Bool) → some ≡ list_any (λ c. is_of k (facts_of_crl c)) crls
    → stale ≡ list_any (λ c. is_stale_of job.moment k (facts_of_crl c)) crls → some ≡ true → not stale ≡ is_enrolled job k
enrolled_yes job k crls t some stale a b is =
    ap not b ∙ ap (λ (h : Bool). h && not (list_any (λ c. is_stale_of job.moment k (facts_of_crl c)) crls)) (sym is ∙ a) ∙ enrolled_told job k crls t

pub enrolled_no : (job : JobFacts) (k : List ℕ) (crls : List JobCrl) → job.crls ≡ told crls → (some : Bool) → some ≡ list_any (λ c. is_of k (facts_of_crl c)) crls
    → some ≡ false → some ≡ is_enrolled job k
enrolled_no job k crls t some a is =
    is ∙ ap (λ (h : Bool). h && not (list_any (λ c. is_stale_of job.moment k (facts_of_crl c)) crls)) (sym is ∙ a) ∙ enrolled_told job k crls t
