-- What is spelled as queries is read as them.
use Rattle.std.proofs.Common.{◌≡◌, ℕ, ◌-◌, ◌^◌, suc, List, [], ◌∷◌, ◌++◌, length, Result, Ok, refl, sym, ap, ◌∙◌, arith}
use Rattle.std.specs.Prelude.{All, codes, flat_map}
use Rattle.std.specs.Int.{w8, w32, w64}
use Rattle.std.specs.Str.{bytes_eq}
use Rattle.std.proofs.lemmas.Bool.{le-ltb}
use Rattle.std.proofs.lemmas.List.{append-nil}
use Rattle.octets_core.specs.Layout.{Layout, then_read, ◌>>=◌, whole}
use Rattle.octets_core.specs.Linked.{Linked}
use Rattle.octets_core.specs.Reading.{any_key, end}
use Rattle.octets_core.specs.declared.fault.LayoutFault.{LayoutFault}
use Rattle.octets_core.proofs.Fields.{ok_is}
use Rattle.octets_core.proofs.Texts.{IsRead, Continues, reads, done, from_front, bytes_field-read, number_field-read, repeated-read, wide8, wide32, wide64}
use Rattle.ident_core.specs.declared.identity.Identity.{Identity}
use Rattle.ident_core.specs.declared.range.Sighting.{Sighting}
use Rattle.ident_core.proofs.RangeTexts.{below_limit}
use Rattle.ident_core.specs.declared.bounds.TheConstants.{MAX_SERIAL}
use Rattle.input_core.specs.declared.query.TheConstants.{MAX_QUERIES, MAX_SIGHTINGS}
use Rattle.input_core.specs.Queries.{Query, IdentityFits, SightingFits, QueryFits, QueriesFit}
use Rattle.input_core.specs.QueryText.{sighting_text, identity_text, query_text, queries_text}
use Rattle.input_core.specs.QueryLayout.{sighting, identity, query, many, body, query_file}

-- ---- many of one kind

each-linked : {X : Type 0} (P : X → Type 0) (xs : List X) → All P xs → Linked {S = Unit {0}} (λ s x. P x) (λ s x. s) tt xs
each-linked P [] all = tt
each-linked P (x ∷ xs) all = (all 0 x (omega arith), each-linked P xs (λ k d lt. all (suc k) d (omega arith)))

many-read : {X : Type 0} (one : Layout LayoutFault X) (P : X → Type 0) (text : X → List ℕ) → ((before : List ℕ) (x : X) → P x → IsRead one before x (text x))
    → (before : List ℕ) (xs : List X) → All P xs → IsRead (many one (length xs)) before xs (flat_map text xs)
many-read one P text each before xs all = repeated-read {S = Unit {0}} (λ s. one) (λ s x. s) (λ s x. P x) text (λ s before x fits. each before x fits) tt before xs (each-linked P xs all)

-- the last, whose value is that of the whole
last-read : {E A : Type 0} {layout : Layout E A} {before sofar : List ℕ} {x : A} {t : List ℕ} → IsRead layout (before ++ sofar) x t → Continues layout before sofar x (sofar ++ t)
last-read {E} {A} {layout} {before} {sofar} {x} {t} one = record { more = t; is = refl; read = one }

-- ---- queries

sighting-read : (before : List ℕ) (s : Sighting) → SightingFits s → IsRead sighting before s (sighting_text s)
unfolding sighting sighting_text
sighting-read before s fits = from_front
    (reads _ (bytes_field-read _ _ 32 any_key _ s.log fits.log refl)
    (reads _ (number_field-read _ _ w64 (2 ^ 64) 0 (2 ^ 64 - 1) wide64 _ s.time (omega arith) (below_limit _ fits.time) fits.time)
    (done s)))

identity-read : (before : List ℕ) (id : Identity) → IdentityFits id → IsRead identity before id (identity_text id)
unfolding identity identity_text
identity-read before id fits = from_front
    (reads _ (bytes_field-read _ _ 32 any_key _ id.issuer fits.issuer refl)
    (reads _ (number_field-read _ _ w8 (2 ^ 8) 1 MAX_SERIAL wide8 _ (length id.serial) fits.some_octets fits.few_octets (omega (arith, fits.few_octets)))
    (reads _ (bytes_field-read _ _ (length id.serial) (λ b. _) _ id.serial refl refl)
    (done id))))

query-read : (before : List ℕ) (q : Query) → QueryFits q → IsRead query before q (query_text q)
unfolding query query_text
query-read before q fits = from_front
    (reads _ (identity-read _ q.identity fits.identity)
    (reads _ (number_field-read _ _ w8 (2 ^ 8) 1 MAX_SIGHTINGS wide8 _ (length q.sightings) fits.some_sightings fits.few_sightings (omega (arith, fits.few_sightings)))
    (reads _ (many-read sighting SightingFits sighting_text sighting-read _ q.sightings fits.sightings)
    (done q))))

-- ---- files

body-read : (qs : List Query) → QueriesFit qs → IsRead body [] qs (queries_text qs)
unfolding body queries_text
body-read qs fits = from_front
    (reads _ (bytes_field-read _ _ 8 (bytes_eq (codes "CLUBQRY1")) _ (codes "CLUBQRY1") refl refl)
    (reads _ (number_field-read _ _ w32 (2 ^ 32) 0 MAX_QUERIES wide32 _ (length qs) (omega arith) fits.few (omega (arith, fits.few)))
    (last-read (many-read query QueryFits query_text query-read _ qs fits.each))))

at-end : (bytes : List ℕ) → end bytes (length bytes) ≡ Ok (tt, length bytes)
at-end bytes = rw (le-ltb (length bytes) (length bytes) (omega arith)) refl

-- the text of queries is read as them, and nothing follows
pub queries-again : (qs : List Query) → QueriesFit qs → query_file (queries_text qs) 0 ≡ Ok (qs, length (queries_text qs))
unfolding query_file
queries-again qs fits =
    let text : List ℕ = queries_text qs in
    let front : body text 0 ≡ Ok (qs, length text) = ap (λ (b : List ℕ). body b 0) (sym (append-nil text)) ∙ (body-read qs fits).each [] ∙ ap (λ (n : ℕ). Ok (qs, n)) (omega arith) in
    ap (λ (r : Result (List Query × ℕ) LayoutFault). then_read r (λ x. end >>= λ rest. whole x) text) front
    ∙ ap (λ (r : Result (Unit {0} × ℕ) LayoutFault). then_read r (λ rest. whole qs) text) (at-end text)

-- queries that have one text are the same
pub queries-same : (qs rs : List Query) → QueriesFit qs → QueriesFit rs → queries_text qs ≡ queries_text rs → qs ≡ rs
queries-same qs rs fits others is =
    let both : ◌≡◌ {A = Result (List Query × ℕ) LayoutFault} (Ok (qs, length (queries_text qs))) (Ok (rs, length (queries_text rs)))
    = sym (queries-again qs fits) ∙ ap (λ (b : List ℕ). query_file b 0) is ∙ queries-again rs others in
    ap (λ (x : List Query × ℕ). x.0) (ok_is {E = LayoutFault} (qs, length (queries_text qs)) (rs, length (queries_text rs)) both)
