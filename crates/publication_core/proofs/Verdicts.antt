-- The verdict of the parts of a history is its truth.
use Rattle.std.proofs.Common.{◌≡◌, ℕ, ◌≤◌, List, [], ◌∷◌, ◌++◌, map, length, Bool, true, false, cond, refl, sym, ap, ◌∙◌, subst, append_assoc, arith}
use Rattle.std.specs.List.{list_any, filter, filter_map, cons_option, AllZip}
use Rattle.std.proofs.lemmas.List.{append-nil}
use Rattle.ident_core.specs.declared.identity.Identity.{Identity}
use Rattle.ident_core.specs.declared.range.Sighting.{Sighting}
use Rattle.ident_core.specs.Coverage.{covers}
use Rattle.equation_core.specs.Rows.{sha256_row}
use Rattle.card_core.specs.PartFields.{PartFields}
use Rattle.card_core.specs.Consulting.{consulted, covers_some}
use Rattle.part_text.specs.SealedFields.{SealedFields}
use Rattle.ident_core.specs.Among.{Among}
use Rattle.ident_core.specs.Sets.{has}
use Rattle.place_core.specs.Cuts.{Cut, is_kept}
use Rattle.universe_core.specs.History.{Release, seen, sightings}
use Rattle.history_core.specs.Bases.{kept_by, is_lasting_by, releases_cut, base_at}
use Rattle.history_core.specs.Facts.{IsSound}
use Rattle.history_core.specs.Showing.{PartView, Shows, answers_of}
use Rattle.history_core.proofs.Answers.{answers_are_truth}
use Rattle.history_core.proofs.Kept.{sightings_kept, listed_kept}
use Rattle.history_core.proofs.Cuts.{sightings_cut, listed_cut, kept_cut}
use Rattle.history_core.proofs.Words.{zip_push}
use Rattle.card_core.specs.declared.verdict.Verdict.TheVariants.{Good, Revoked}
use Rattle.card_core.specs.Verdict.{covering, answers, by_answers, by_covering, verdict}
use Rattle.publication_core.specs.Histories.{Published, release_of, releases_after, AreAdmissible, History, of_jobs, rebased, IsHistory, parts_of, releases_of}
use Rattle.publication_core.specs.Truth.{truth}
use Rattle.publication_core.proofs.Histories.{history_sound}
use Rattle.publication_core.proofs.Shown.{shown_by, part_shows, base_shows}

-- ---- the verdict, and the answers of the parts

answered : (x : Identity) (part : PartFields) (parts : List PartFields) (b : Bool) (rest : List PartView) → filter_map (λ (v : PartView). v.consulted x) rest ≡ answers x parts
    → filter_map (λ (v : PartView). v.consulted x) (cond b (shown_by part ∷ rest) rest) ≡ answers x (cond b (part ∷ parts) parts)
answered x part parts true rest e = ap (cons_option (consulted sha256_row x part.blocks)) e
answered x part parts false rest e = e

answers_same : (x : Identity) (ss : List Sighting) (parts : List PartFields) → answers_of x ss (map shown_by parts) ≡ answers x (covering ss parts)
unfolding answers_of
answers_same x ss [] = refl
answers_same x ss (part ∷ parts) =
    answered x part (covering ss parts) (covers_some ss part) (filter (λ (v : PartView). list_any (covers v.ranges) ss) (map shown_by parts)) (answers_same x ss parts)

by_answers_of : (x : Identity) (parts : List PartFields) (a : Bool) (others : List Bool) → answers x parts ≡ a ∷ others → by_covering x parts ≡ by_answers (a ∷ others)
by_answers_of x [] a others h = absurd cc
by_answers_of x (part ∷ parts) a others h = ap by_answers h

-- Parts that show the releases give the truth, asked with accepted sightings.
verdict_is_truth : (parts : List PartFields) (rs : List Release) (x : Identity) (s : Sighting) (ss : List Sighting) → IsSound rs → AllZip Shows (map shown_by parts) rs
    → ((t : Sighting) → Among (s ∷ ss) t → Among (sightings x (seen rs)) t) → verdict parts x (s ∷ ss) ≡ truth rs x
verdict_is_truth parts rs x s ss sound shows asked =
    let a = answers_are_truth (map shown_by parts) rs x s ss sound shows asked in
    by_answers_of x (covering (s ∷ ss) parts) a.0 a.1 (sym (answers_same x (s ∷ ss) parts) ∙ a.2) ∙ ap (λ (r : Bool). cond r Revoked Good) a.3

-- ---- the parts of a history show what its members leave

-- behind views that show the releases before
after_shown : (views : List PartView) (rs : List Release) (ps : List Published) → AllZip Shows views rs → AreAdmissible rs ps
    → AllZip Shows (views ++ map shown_by (map (λ s. s.part) (map (λ p. p.sealed) ps))) (releases_after rs ps)
after_shown views rs [] z h = rw append-nil z
after_shown views rs (p ∷ ps) z h =
    let view : PartView = shown_by p.sealed.part in
    let after : List Release = rs ++ release_of rs p ∷ [] in
    let pushed : AllZip Shows (views ++ view ∷ []) after = zip_push Shows views rs view (release_of rs p) z (part_shows rs p h.1) in
    subst (λ (vs : List PartView). AllZip Shows vs (releases_after after ps)) (append_assoc views (view ∷ []) (map shown_by (map (λ t. t.part) (map (λ p. p.sealed) ps))))
    (after_shown (views ++ view ∷ []) after ps pushed h.2)

pub parts_shown : (h : History) → IsHistory h → AllZip Shows (map shown_by (map (λ t. t.part) (parts_of h))) (releases_of h)
parts_shown (of_jobs ps) is = after_shown [] [] ps tt is
parts_shown (rebased h moment cut s ps) is =
    after_shown (shown_by s.part ∷ []) (base_at moment (releases_cut cut (releases_of h)) s.trailer ∷ []) ps
    (base_shows moment (releases_cut cut (releases_of h)) s is.2, tt) is.3

-- The parts of a history answer its truth, asked with accepted sightings.
pub history_verdict : (h : History) (x : Identity) (ss : List Sighting) → IsHistory h → 1 ≤ length ss
    → ((s : Sighting) → Among ss s → Among (sightings x (seen (releases_of h))) s) → verdict (map (λ s. s.part) (parts_of h)) x ss ≡ truth (releases_of h) x
history_verdict h x [] is some asked = absurd (omega arith)
history_verdict h x (s ∷ ss) is some asked =
    verdict_is_truth (map (λ t. t.part) (parts_of h)) (releases_of h) x s ss (history_sound h is) (parts_shown h is) asked

-- A rebase keeps the verdicts of what it keeps.
pub base_verdict : (h : History) (moment : ℕ) (cut : Cut) (s : SealedFields) (x : Identity) (ss : List Sighting)
    → IsHistory (rebased h moment cut s []) → has (kept_by (is_lasting_by moment (releases_of h)) (releases_of h)) x ≡ true → is_kept cut x ≡ true
    → 1 ≤ length ss → ((t : Sighting) → Among ss t → Among (sightings x (seen (releases_of h))) t) → verdict (map (λ t. t.part) (parts_of h)) x ss ≡ verdict (s.part ∷ []) x ss
base_verdict h moment cut s x ss is kept other some asked =
    let old : List Release = releases_of h in
    let rs : List Release = releases_cut cut old in
    let keeps : Identity → Bool = is_lasting_by moment rs in
    let stays : has (kept_by keeps rs) x ≡ true = kept_cut moment cut old x other ∙ kept in
    let same : sightings x (seen (base_at moment rs s.trailer ∷ [])) ≡ sightings x (seen old) = sightings_kept keeps rs s.trailer x stays ∙ sightings_cut cut old x other in
    history_verdict h x ss is.0 some asked
    ∙ ap (λ (b : Bool). cond b Revoked Good) (sym (listed_kept keeps rs s.trailer x stays ∙ listed_cut cut old x other))
    ∙ sym (history_verdict (rebased h moment cut s []) x ss is some (λ t a. subst (λ (ts : List Sighting). Among ts t) (sym same) (asked t a)))
