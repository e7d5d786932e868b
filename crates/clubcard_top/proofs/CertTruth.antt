-- What a history tells of a certificate that is asked about by its file.
use Rattle.std.proofs.Common.{◌≡◌, ℕ, ◌≤◌, Bool, true, false, cond, inl, inr, List, [], ◌∷◌, map, length, Ok, refl, sym, ap, subst, ◌∙◌, arith}
use Rattle.std.specs.Prelude.{nat_lt, filter, IsTrue}
use Rattle.std.specs.List.{list_any}
use Rattle.std.proofs.lemmas.Bool.{le-ltb}
use Rattle.sha2.specs.Sha256.{sha256}
use Rattle.ident_core.specs.declared.identity.Identity.{Identity}
use Rattle.ident_core.specs.declared.range.Sighting.{Sighting}
use Rattle.ident_core.specs.Coverage.{covers}
use Rattle.log_core.specs.CertificateGrammar.{IsCertificate, HasKey}
use Rattle.log_core.proofs.CertificateLaws.{certificate_serial-read, certificate_key-read}
use Rattle.sct_core.specs.declared.bounds.TheConstants.{MAX_CERTIFICATE}
use Rattle.sct_core.specs.Grammar.{HasSightings}
use Rattle.sct_core.proofs.SightingLaws.{sightings-read}
use Rattle.card_core.specs.PartFields.{PartFields}
use Rattle.card_core.specs.Consulting.{covers_some}
use Rattle.part_text.specs.SealedFields.{SealedFields}
use Rattle.ident_core.specs.Among.{Among}
use Rattle.ident_core.proofs.Elements.{Among-filter, Among-in_filter, Among-map, found, any_at, bool_same}
use Rattle.universe_core.specs.History.{seen, sightings}
use Rattle.card_core.specs.Verdict.{by_covering, verdict}
use Rattle.publication_core.specs.Histories.{History, IsHistory, parts_of, releases_of}
use Rattle.publication_core.specs.Truth.{truth}
use Rattle.input_core.specs.Certificates.{certificate_in, issuer_in}

-- ---- what the files are read as

pub certificate_read : (bytes serial : List ℕ) (ss : List Sighting) → IsCertificate serial bytes → HasSightings ss bytes → certificate_in bytes ≡ Ok (record { serial = serial; scts = ss })
certificate_read bytes serial ss is has = rw (certificate_serial-read serial bytes is, sightings-read ss bytes has) refl

pub issuer_read : (bytes key hash : List ℕ) → length bytes ≤ MAX_CERTIFICATE → HasKey key bytes → hash ≡ sha256 key → issuer_in bytes ≡ Ok hash
issuer_read bytes key hash small has is =
    let within : nat_lt MAX_CERTIFICATE (length bytes) ≡ false = le-ltb _ _ small in
    rw (within, certificate_key-read key bytes has) (ap Ok (sym is))

-- ---- sightings that no part covers say nothing

filter_at : {A : Type 0} (p q : A → Bool) (xs : List A) → ((x : A) → Among xs x → p x ≡ q x) → filter p xs ≡ filter q xs
filter_at p q [] same = refl
filter_at p q (x ∷ xs) same =
    ap (λ (b : Bool). cond b (x ∷ filter p xs) (filter p xs)) (same x (inl refl))
    ∙ ap (λ ys. cond (q x) (x ∷ ys) ys) (filter_at p q xs (λ y a. same y (inr a)))

module _ (parts : List PartFields) (ss : List Sighting) (a : Sighting) (here : Among ss a) where
  abbrev is_covered : Sighting → Bool
  is_covered s = list_any (λ (part : PartFields). covers part.head.ranges s) parts

  -- this one, and those that some part covers
  abbrev kept : List Sighting
  kept = a ∷ filter is_covered ss

  of_kept : (s : Sighting) → Among kept s → Among ss s
  of_kept s (inl same) = subst (λ (t : Sighting). Among ss t) same here
  of_kept s (inr k) = (Among-filter is_covered ss s k).0

  to_kept : (part : PartFields) → Among parts part → covers_some ss part ≡ true → covers_some kept part ≡ true
  to_kept part p h =
      let f = found (covers part.head.ranges) ss h in
      any_at (covers part.head.ranges) kept f.0
      (inr (Among-in_filter is_covered ss f.0 f.1 (any_at (λ (q : PartFields). covers q.head.ranges f.0) parts part p f.2))) f.2

  from_kept : (part : PartFields) → covers_some kept part ≡ true → covers_some ss part ≡ true
  from_kept part h =
      let f = found (covers part.head.ranges) kept h in
      any_at (covers part.head.ranges) ss f.0 (of_kept f.0 f.1) f.2

  verdict_kept : (x : Identity) → verdict parts x ss ≡ verdict parts x kept
  verdict_kept x =
      ap (by_covering x) (filter_at (covers_some ss) (covers_some kept) parts (λ part p.
      bool_same (covers_some ss part) (covers_some kept part) (to_kept part p) (from_kept part)))

-- ---- the truth

-- The verdict of the parts of a history is its truth, asked with accepted sightings.
abbrev pub Truths : Type 0
Truths =
    (h : History) (x : Identity) (ss : List Sighting) → IsHistory h → 1 ≤ length ss
    → ((s : Sighting) → Among ss s → Among (sightings x (seen (releases_of h))) s) → verdict (map (λ s. s.part) (parts_of h)) x ss ≡ truth (releases_of h) x

module _ (h : History) (is : IsHistory h) (x : Identity) (ss : List Sighting)
    (covered : (s : Sighting) (t : SealedFields) → Among ss s → Among (parts_of h) t → IsTrue (covers t.part.head.ranges s) → Among (sightings x (seen (releases_of h))) s)
    (a : Sighting) (here : Among ss a) (accepted : Among (sightings x (seen (releases_of h))) a) where
  abbrev all_parts : List PartFields
  all_parts = map (λ (s : SealedFields). s.part) (parts_of h)

  -- a sighting that is kept is of an accepted entry
  kept_accepted : (s : Sighting) → Among (kept all_parts ss a here) s → Among (sightings x (seen (releases_of h))) s
  kept_accepted s (inl same) = subst (λ (t : Sighting). Among (sightings x (seen (releases_of h))) t) same accepted
  kept_accepted s (inr k) =
      let f = Among-filter (is_covered all_parts ss a here) ss s k in
      let part = found (λ (q : PartFields). covers q.head.ranges s) all_parts f.1 in
      let sealed = Among-map (λ (t : SealedFields). t.part) (parts_of h) part.0 part.1 in
      covered s sealed.0 f.0 sealed.1 (ap (λ (q : PartFields). covers q.head.ranges s) sealed.2 ∙ part.2)

  truth_kept : Truths → verdict all_parts x ss ≡ truth (releases_of h) x
  truth_kept truths =
      let some : 1 ≤ length (a ∷ filter (is_covered all_parts ss a here) ss) = omega arith in
      verdict_kept all_parts ss a here x ∙ truths h x (kept all_parts ss a here) is some kept_accepted

-- Asked with one accepted sighting, and no other that a part covers and that isn't accepted, the parts tell the truth.
pub truth_of_covered : Truths → (h : History) (x : Identity) (ss : List Sighting) → IsHistory h
    → (s : Sighting) × Among ss s × Among (sightings x (seen (releases_of h))) s
    → ((s : Sighting) (t : SealedFields) → Among ss s → Among (parts_of h) t → IsTrue (covers t.part.head.ranges s) → Among (sightings x (seen (releases_of h))) s)
    → verdict (map (λ s. s.part) (parts_of h)) x ss ≡ truth (releases_of h) x
truth_of_covered truths h x ss is (a, here, accepted) covered = truth_kept h is x ss covered a here accepted truths
