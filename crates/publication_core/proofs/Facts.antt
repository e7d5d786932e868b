-- What holds of every history: the last part of an identity, and what is listed in the words of jobs.
use Rattle.std.specs.List.{list_any, slice_get, AllZip}
use Rattle.std.proofs.Common.{◌≡◌, ℕ, zero, suc, List, [], ◌∷◌, ◌++◌, map, drop, length, Bool, true, ◌&&◌, ◌||◌, Some, refl, sym, ap, ◌∙◌, subst, append_assoc}
use Rattle.std.proofs.Math.Seq.{drop-append_seam}
use Rattle.std.proofs.lemmas.List.{append-nil, drop-map}
use Rattle.ident_core.specs.declared.identity.Identity.{Identity}
use Rattle.ident_core.specs.declared.range.Sighting.{Sighting}
use Rattle.ident_core.specs.declared.range.Range.{Range}
use Rattle.ident_core.specs.Coverage.{covers}
use Rattle.part_text.specs.SealedFields.{SealedFields}
use Rattle.ident_core.specs.Among.{Among}
use Rattle.ident_core.specs.Sets.{has, has_key}
use Rattle.ident_core.proofs.Elements.{some_item}
use Rattle.place_core.specs.Cuts.{Cut}
use Rattle.universe_core.specs.Jobs.{JobFacts, enrolled, is_enrolled, lists}
use Rattle.universe_core.specs.Formats.{facts_in}
use Rattle.universe_core.specs.History.{Release, past_of, seen, sightings, birth, is_listed}
use Rattle.universe_core.specs.Ledgers.{last}
use Rattle.universe_core.proofs.Enrolled.{enrolled_test}
use Rattle.history_core.specs.Bases.{kept_by, is_lasting_by, releases_cut, base_at}
use Rattle.history_core.specs.Facts.{Leaves, Widens}
use Rattle.history_core.specs.Showing.{Shows}
use Rattle.history_core.proofs.Kept.{base_lists}
use Rattle.history_core.proofs.Words.{last_covers_sightings, leaves, zip_push, listed_in_words, listed_behind}
use Rattle.publication_core.specs.Histories.{Published, release_of, releases_after, History, of_jobs, rebased, IsHistory, parts_of, releases_of}
use Rattle.publication_core.proofs.Histories.{history_sound}
use Rattle.publication_core.proofs.Shown.{shown_by}
use Rattle.publication_core.proofs.Verdicts.{parts_shown}

-- ---- the last part

-- the part at a release's place covers what it does
part_at : (parts : List SealedFields) (rs : List Release) (k : ℕ) (r : Release) → AllZip Shows (map shown_by (map (λ s. s.part) parts)) rs → slice_get rs k ≡ Some r
    → (s : SealedFields) × (slice_get parts k ≡ Some s) × (s.part.head.ranges ≡ r.ranges)
part_at [] [] k r z e = absurd cc
part_at [] (q ∷ rs) k r z e = absurd z
part_at (s ∷ parts) [] k r z e = absurd z
part_at (s ∷ parts) (q ∷ rs) zero r z e = (s, refl, z.0.ranges ∙ ap (λ (p : Release). p.ranges) (some_item q r e))
part_at (s ∷ parts) (q ∷ rs) (suc k) r z e = part_at parts rs k r z.1 e

pub last_part : (h : History) (x : Identity) (k : ℕ) → IsHistory h → last x (releases_of h) ≡ Some k
    → (s : SealedFields) × (slice_get (parts_of h) k ≡ Some s) × ((t : Sighting) → Among (sightings x (seen (releases_of h))) t → covers s.part.head.ranges t ≡ true)
last_part h x k is e =
    let l = last_covers_sightings (releases_of h) x k (history_sound h is) e in
    let at = part_at (parts_of h) (releases_of h) k l.0 (parts_shown h is) l.1 in
    (at.0, at.1, λ t a. ap (λ (C : List Range). covers C t) at.2 ∙ l.2 t a)

-- ---- what is listed

-- behind a front of releases, each release leaves what its job says
leaves_after : (front : List Release) (before : List JobFacts) (rs : List Release) (ps : List Published) → AllZip Leaves before rs
    → AllZip Leaves (before ++ map (λ p. facts_in p.job) ps) (drop (length front) (releases_after (front ++ rs) ps))
leaves_after front before rs [] z = rw (append-nil, drop-append_seam front rs) z
leaves_after front before rs (p ∷ ps) z =
    let job : JobFacts = facts_in p.job in
    let r : Release = release_of (front ++ rs) p in
    let facts : List JobFacts = map (λ (q : Published). facts_in q.job) ps in
    let pushed : AllZip Leaves (before ++ job ∷ []) (rs ++ r ∷ []) = zip_push Leaves before rs job r z (leaves (past_of (front ++ rs)) job p.sealed.trailer) in
    subst (λ (js : List JobFacts). AllZip Leaves js (drop (length front) (releases_after ((front ++ rs) ++ r ∷ []) ps))) (append_assoc before (job ∷ []) facts)
    (subst (λ (qs : List Release). AllZip Leaves ((before ++ job ∷ []) ++ facts) (drop (length front) (releases_after qs ps))) (sym (append_assoc front rs (r ∷ [])))
    (leaves_after front (before ++ job ∷ []) (rs ++ r ∷ []) ps pushed))

-- whether some job enrolls the issuer and lists the identity, the enrolled told by a list or by a test
any_lists : (x : Identity) (ps : List Published) → list_any (λ (job : JobFacts). lists job x && has_key (enrolled job) x.issuer) (map (λ p. facts_in p.job) ps)
    ≡ list_any (λ p. lists (facts_in p.job) x && is_enrolled (facts_in p.job) x.issuer) ps
any_lists x [] = refl
any_lists x (p ∷ ps) =
    ap (λ b. (lists (facts_in p.job) x && b) || list_any (λ (job : JobFacts). lists job x && has_key (enrolled job) x.issuer) (map (λ q. facts_in q.job) ps)) (enrolled_test (facts_in p.job) x.issuer)
    ∙ ap (λ b. (lists (facts_in p.job) x && is_enrolled (facts_in p.job) x.issuer) || b) (any_lists x ps)

any_lists_from : (x : Identity) (born : ℕ) (ps : List Published) → list_any (λ (job : JobFacts). lists job x && has_key (enrolled job) x.issuer) (drop born (map (λ p. facts_in p.job) ps))
    ≡ list_any (λ p. lists (facts_in p.job) x && is_enrolled (facts_in p.job) x.issuer) (drop born ps)
any_lists_from x born ps =
    ap (list_any (λ (job : JobFacts). lists job x && has_key (enrolled job) x.issuer)) (drop-map (λ (p : Published). facts_in p.job) born ps) ∙ any_lists x (drop born ps)

pub listed_in_jobs : (ps : List Published) (x : Identity) → is_listed (releases_of (of_jobs ps)) x
    ≡ list_any (λ p. lists (facts_in p.job) x && is_enrolled (facts_in p.job) x.issuer) (drop (birth x (releases_of (of_jobs ps))) ps)
listed_in_jobs ps x =
    listed_in_words x (map (λ (p : Published). facts_in p.job) ps) (releases_of (of_jobs ps)) (leaves_after [] [] [] ps tt)
    ∙ any_lists_from x (birth x (releases_of (of_jobs ps))) ps

-- releases behind a base begin with it
begins : (base : Release) (rs : List Release) (ps : List Published) → releases_after (base ∷ rs) ps ≡ base ∷ drop 1 (releases_after (base ∷ rs) ps)
begins base rs [] = refl
begins base rs (p ∷ ps) = begins base (rs ++ release_of (base ∷ rs) p ∷ []) ps

pub listed_behind_base : (h : History) (moment : ℕ) (cut : Cut) (s : SealedFields) (ps : List Published) (x : Identity) → IsHistory (rebased h moment cut s ps)
    → is_listed (releases_of (rebased h moment cut s ps)) x
    ≡ ((has (kept_by (is_lasting_by moment (releases_cut cut (releases_of h))) (releases_cut cut (releases_of h))) x
    && is_listed (releases_cut cut (releases_of h)) x)
    || list_any (λ p. lists (facts_in p.job) x && is_enrolled (facts_in p.job) x.issuer) (drop (birth x (drop 1 (releases_of (rebased h moment cut s ps)))) ps))
listed_behind_base h moment cut s ps x is =
    let rs : List Release = releases_cut cut (releases_of h) in
    let base : Release = base_at moment rs s.trailer in
    let all : List Release = releases_after (base ∷ []) ps in
    let born : ℕ = birth x (drop 1 all) in
    let facts : List JobFacts = map (λ (p : Published). facts_in p.job) ps in
    let says : JobFacts → Bool = λ job. lists job x && has_key (enrolled job) x.issuer in
    let first : all ≡ base ∷ drop 1 all = begins base [] ps in
    ap (λ (qs : List Release). is_listed qs x) first
    ∙ listed_behind x facts base (drop 1 all) (leaves_after (base ∷ []) [] [] ps tt) (subst Widens first (history_sound (rebased h moment cut s ps) is).widens)
    ∙ ap (λ b. b || list_any says (drop born facts)) (base_lists (is_lasting_by moment rs) rs s.trailer x)
    ∙ ap (λ b. (has (kept_by (is_lasting_by moment rs) rs) x && is_listed rs x) || b) (any_lists_from x born ps)
