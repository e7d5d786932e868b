-- Issuers that a base leaves out: what the parts say of them, and that they can come back.
use Rattle.std.proofs.Common.{◌≡◌, ℕ, inl, inr, ⊎_elim, ◌||◌, List, [], ◌∷◌, ◌++◌, map, Bool, true, false, cond, Option, Some, None, refl, sym, ap, ◌∙◌, subst}
use Rattle.std.specs.List.{list_any, cons_option}
use Rattle.ident_core.specs.declared.identity.Identity.{Identity}
use Rattle.ident_core.specs.declared.range.Sighting.{Sighting}
use Rattle.ident_core.specs.Coverage.{covers}
use Rattle.equation_core.specs.Rows.{sha256_row}
use Rattle.card_core.specs.declared.verdict.Verdict.{Verdict}
use Rattle.card_core.specs.declared.verdict.Verdict.TheVariants.{NotCovered, NotEnrolled}
use Rattle.card_core.specs.PartFields.{PartFields}
use Rattle.card_core.specs.Consulting.{consulted, covers_some}
use Rattle.card_core.specs.Verdict.{covering, answers, by_answers, by_covering, verdict}
use Rattle.part_text.specs.SealedFields.{SealedFields}
use Rattle.ident_core.specs.Among.{Among}
use Rattle.ident_core.specs.Sets.{has_key}
use Rattle.ident_core.proofs.Elements.{Among-filter, Among-in_map, Among-push_cases, zip_left}
use Rattle.universe_core.specs.Formats.{JobIn, facts_in}
use Rattle.universe_core.specs.Jobs.{Entry, is_enrolled}
use Rattle.universe_core.specs.History.{Release, seen}
use Rattle.universe_core.proofs.Enrolled.{enrolled_test}
use Rattle.history_core.specs.Bases.{is_lasting_by, releases_cut, base_at}
use Rattle.history_core.specs.Showing.{Shows}
use Rattle.history_core.proofs.Returning.{base_unenrolled, entry_seen}
use Rattle.publication_core.specs.Histories.{Published, release_of, releases_after, History, of_jobs, rebased, with_job, IsHistory, parts_of, releases_of, LeavesOut}
use Rattle.publication_core.proofs.Histories.{with_job_leaves}
use Rattle.publication_core.proofs.Shown.{shown_by}
use Rattle.publication_core.proofs.Verdicts.{parts_shown}

-- ---- no release enrolls the issuer

abbrev Unenrolled : List ℕ → List Release → Type 0
Unenrolled k rs = (r : Release) → Among rs r → has_key r.issuers k ≡ false

after_unenrolled : (k : List ℕ) (rs : List Release) (ps : List Published) → Unenrolled k rs
    → ((p : Published) → Among ps p → is_enrolled (facts_in p.job) k ≡ false) → Unenrolled k (releases_after rs ps)
after_unenrolled k rs [] u n = u
after_unenrolled k rs (p ∷ ps) u n =
    after_unenrolled k (rs ++ release_of rs p ∷ []) ps
    (λ r a. ⊎_elim (λ old. u r old) (λ e. subst (λ (z : Release). has_key z.issuers k ≡ false) e (enrolled_test (facts_in p.job) k ∙ n p (inl refl))) (Among-push_cases rs (release_of rs p) r a))
    (λ i a. n i (inr a))

no_release : (h : History) (k : List ℕ) → LeavesOut h k → Unenrolled k (releases_of h)
no_release (of_jobs ps) k left = absurd left
no_release (rebased h moment cut s ps) k left =
    let rest : List Release = releases_cut cut (releases_of h) in
    let base : Release = base_at moment rest s.trailer in
    after_unenrolled k (base ∷ []) ps
    (λ r a. ⊎_elim (λ e. subst (λ (z : Release). has_key z.issuers k ≡ false) e (base_unenrolled (is_lasting_by moment rest) cut (releases_of h) s.trailer k left.0)) (λ n. absurd n) a)
    left.1

-- ---- what the parts say

none_answers : (x : Identity) (ps : List PartFields) → ((p : PartFields) → Among ps p → consulted sha256_row x p.blocks ≡ None) → answers x ps ≡ []
none_answers x [] h = refl
none_answers x (p ∷ ps) h = ap (λ (o : Option Bool). cons_option o (answers x ps)) (h p (inl refl)) ∙ none_answers x ps (λ q a. h q (inr a))

-- what parts with no block of the issuer say, of which some cover
abbrev unsaid : Bool → Verdict
unsaid covered = cond covered NotEnrolled NotCovered

covering_step : (x : Identity) (ss : List Sighting) (p : PartFields) (ps : List PartFields) (b : Bool) → answers x (p ∷ covering ss ps) ≡ []
    → by_covering x (covering ss ps) ≡ unsaid (list_any (covers_some ss) ps)
    → by_covering x (cond b (p ∷ covering ss ps) (covering ss ps)) ≡ unsaid (b || list_any (covers_some ss) ps)
covering_step x ss p ps true none e = ap by_answers none
covering_step x ss p ps false none e = e

none_consulted : (x : Identity) (ss : List Sighting) (ps : List PartFields) → ((p : PartFields) → Among ps p → consulted sha256_row x p.blocks ≡ None)
    → verdict ps x ss ≡ unsaid (list_any (covers_some ss) ps)
none_consulted x ss [] h = refl
none_consulted x ss (p ∷ ps) h =
    covering_step x ss p ps (covers_some ss p)
    (none_answers x (p ∷ covering ss ps) (λ q a. ⊎_elim (λ e. subst (λ (z : PartFields). consulted sha256_row x z.blocks ≡ None) e (h p (inl refl)))
    (λ n. h q (inr (Among-filter (covers_some ss) ps q n).0)) a))
    (none_consulted x ss ps (λ q a. h q (inr a)))

pub left_out_verdict : (h : History) (x : Identity) (ss : List Sighting) → IsHistory h → LeavesOut h x.issuer
    → verdict (map (λ t. t.part) (parts_of h)) x ss ≡ cond (list_any (covers_some ss) (map (λ t. t.part) (parts_of h))) NotEnrolled NotCovered
left_out_verdict h x ss is left =
    none_consulted x ss (map (λ (t : SealedFields). t.part) (parts_of h)) (λ p a.
    let z = zip_left Shows (map shown_by (map (λ (t : SealedFields). t.part) (parts_of h))) (releases_of h) (shown_by p) (parts_shown h is)
    (Among-in_map shown_by (map (λ (t : SealedFields). t.part) (parts_of h)) p a) in
    z.2.other x (no_release h x.issuer left z.0 z.1))

-- ---- what the next job accepts

pub comes_back : (h : History) (j : JobIn) (s : SealedFields) (e : Entry) → LeavesOut h e.id.issuer
    → Among (facts_in j).entries (Some e) → covers (facts_in j).ranges e.sighting ≡ true → is_enrolled (facts_in j) e.id.issuer ≡ true
    → Among (seen (releases_of (with_job h j s))) e
comes_back h j s e left a v k =
    subst (λ (rs : List Release). Among (seen rs) e) (sym (with_job_leaves h (record { job = j; sealed = s })))
    (entry_seen (releases_of h) (facts_in j) s.trailer e (no_release h e.id.issuer left) a v (enrolled_test (facts_in j) e.id.issuer ∙ k))
