-- One sighting at a time is enough.
use Rattle.std.specs.List.{list_any}
use Rattle.std.proofs.Common.{◌≡◌, ◌≤◌, inl, inr, List, [], ◌∷◌, length, Bool, true, false, cond, Some, refl, sym, ap, ◌∙◌, subst, arith}
use Rattle.std.proofs.lemmas.Bool.{true≢false, false_from_ne_true}
use Rattle.ident_core.specs.declared.identity.Identity.{Identity}
use Rattle.ident_core.specs.declared.range.Sighting.{Sighting}
use Rattle.ident_core.specs.Coverage.{covers}
use Rattle.equation_core.specs.Rows.{sha256_row}
use Rattle.card_core.specs.PartFields.{PartFields}
use Rattle.card_core.specs.Consulting.{consulted, covers_some}
use Rattle.card_core.specs.declared.verdict.Verdict.TheVariants.{Good, Revoked}
use Rattle.card_core.specs.Verdict.{covering, answers, by_answers, by_covering, verdict}
use Rattle.ident_core.specs.Among.{Among}
use Rattle.ident_core.proofs.Elements.{Among-filter, Among-in_filter, Among-filter_map, Among-in_filter_map, found, any_at}

-- ---- answers

-- a part that covers one of the sightings, and says this
Says : List PartFields → Identity → List Sighting → Bool → Type 0
Says parts x ss b = (p : PartFields) × Among parts p × (covers_some ss p ≡ true) × (consulted sha256_row x p.blocks ≡ Some b)

says_of : (parts : List PartFields) (x : Identity) (ss : List Sighting) (b : Bool) → Among (answers x (covering ss parts)) b → Says parts x ss b
unfolding Says
says_of parts x ss b a =
    let f = Among-filter_map (λ (part : PartFields). consulted sha256_row x part.blocks) (covering ss parts) b a in
    let g = Among-filter (covers_some ss) parts f.0 f.1 in
    (f.0, g.0, g.1, f.2)

answer_of : (parts : List PartFields) (x : Identity) (ss : List Sighting) (b : Bool) → Says parts x ss b → Among (answers x (covering ss parts)) b
unfolding Says
answer_of parts x ss b s =
    Among-in_filter_map (λ (part : PartFields). consulted sha256_row x part.blocks) (covering ss parts) s.0 b (Among-in_filter (covers_some ss) parts s.0 s.1 s.2) s.3

-- one sighting among others
said_by_one : (parts : List PartFields) (x : Identity) (ss : List Sighting) (s : Sighting) (b : Bool) → Among ss s → Says parts x (s ∷ []) b → Says parts x ss b
unfolding Says
said_by_one parts x ss s b a h =
    let f = found (covers h.0.head.ranges) (s ∷ []) h.2 in
    let covered = any_at (covers h.0.head.ranges) ss s a (ap (covers h.0.head.ranges) (one s f.0 f.1) ∙ f.2) in
    (h.0, h.1, covered, h.3)
  where
    one : (u v : Sighting) → Among (u ∷ []) v → u ≡ v
    one u v (inl e) = e
    one u v (inr n) = absurd n

said_by_some : (parts : List PartFields) (x : Identity) (ss : List Sighting) (b : Bool) → Says parts x ss b → (s : Sighting) × Among ss s × Says parts x (s ∷ []) b
unfolding Says
said_by_some parts x ss b h =
    let f = found (covers h.0.head.ranges) ss h.2 in
    (f.0, f.1, (h.0, h.1, any_at (covers h.0.head.ranges) (f.0 ∷ []) f.0 (inl refl) f.2, h.3))

-- ---- verdicts by answers

by_some : (l : List Bool) (a : Bool) → Among l a → by_answers l ≡ cond (list_any (λ b. b) l) Revoked Good
by_some [] a h = absurd h
by_some (b ∷ l) a h = refl

covered_some : (x : Identity) (cs : List PartFields) (a : Bool) → Among (answers x cs) a → by_covering x cs ≡ cond (list_any (λ b. b) (answers x cs)) Revoked Good
covered_some x [] a h = absurd h
covered_some x (p ∷ cs) a h = by_some (answers x (p ∷ cs)) a h

revoked_bool : (b : Bool) → cond b Revoked Good ≡ Revoked → b ≡ true
revoked_bool true h = refl
revoked_bool false h = absurd cc

good_bool : (b : Bool) → cond b Revoked Good ≡ Good → b ≡ false
good_bool true h = absurd cc
good_bool false h = refl

by_revoked : (l : List Bool) → by_answers l ≡ Revoked → Among l true
by_revoked [] h = absurd cc
by_revoked (a ∷ l) h = let f = found (λ b. b) (a ∷ l) (revoked_bool (list_any (λ b. b) (a ∷ l)) h) in subst (λ b. Among (a ∷ l) b) f.2 f.1

covered_revoked : (x : Identity) (cs : List PartFields) → by_covering x cs ≡ Revoked → Among (answers x cs) true
covered_revoked x [] h = absurd cc
covered_revoked x (p ∷ cs) h = by_revoked (answers x (p ∷ cs)) h

by_good : (l : List Bool) → by_answers l ≡ Good → (a : Bool) × Among l a × (list_any (λ b. b) l ≡ false)
by_good [] h = absurd cc
by_good (a ∷ l) h = (a, inl refl, good_bool (list_any (λ b. b) (a ∷ l)) h)

covered_good : (x : Identity) (cs : List PartFields) → by_covering x cs ≡ Good → (a : Bool) × Among (answers x cs) a × (list_any (λ b. b) (answers x cs) ≡ false)
covered_good x [] h = absurd cc
covered_good x (p ∷ cs) h = by_good (answers x (p ∷ cs)) h

-- ---- one at a time

pub revoked_by_one : (parts : List PartFields) (x : Identity) (ss : List Sighting) (s : Sighting) → Among ss s → verdict parts x (s ∷ []) ≡ Revoked → verdict parts x ss ≡ Revoked
revoked_by_one parts x ss s a h =
    let one = says_of parts x (s ∷ []) true (covered_revoked x (covering (s ∷ []) parts) h) in
    let all = answer_of parts x ss true (said_by_one parts x ss s true a one) in
    covered_some x (covering ss parts) true all ∙ ap (λ (b : Bool). cond b Revoked Good) (any_at (λ b. b) (answers x (covering ss parts)) true all refl)

pub revoked_by_some : (parts : List PartFields) (x : Identity) (ss : List Sighting) → verdict parts x ss ≡ Revoked → (s : Sighting) × Among ss s × (verdict parts x (s ∷ []) ≡ Revoked)
revoked_by_some parts x ss h =
    let one = said_by_some parts x ss true (says_of parts x ss true (covered_revoked x (covering ss parts) h)) in
    let all = answer_of parts x (one.0 ∷ []) true one.2 in
    (one.0, one.1, covered_some x (covering (one.0 ∷ []) parts) true all ∙ ap (λ (b : Bool). cond b Revoked Good) (any_at (λ b. b) (answers x (covering (one.0 ∷ []) parts)) true all refl))

pub good_by_all : (parts : List PartFields) (x : Identity) (ss : List Sighting) → 1 ≤ length ss → ((s : Sighting) → Among ss s → verdict parts x (s ∷ []) ≡ Good) → verdict parts x ss ≡ Good
good_by_all parts x [] some h = absurd (omega (arith, some))
good_by_all parts x (s ∷ ss) some h =
    let first = covered_good x (covering (s ∷ []) parts) (h s (inl refl)) in
    let one = said_by_one parts x (s ∷ ss) s first.0 (inl refl) (says_of parts x (s ∷ []) first.0 first.1) in
    let all = answer_of parts x (s ∷ ss) first.0 one in
    let none : list_any (λ b. b) (answers x (covering (s ∷ ss) parts)) ≡ false
    = false_from_ne_true (list_any (λ b. b) (answers x (covering (s ∷ ss) parts))) (λ y.
    let f = found (λ b. b) (answers x (covering (s ∷ ss) parts)) y in
    let positive = subst (λ b. Among (answers x (covering (s ∷ ss) parts)) b) f.2 f.1 in
    let by = said_by_some parts x (s ∷ ss) true (says_of parts x (s ∷ ss) true positive) in
    let good = covered_good x (covering (by.0 ∷ []) parts) (h by.0 by.1) in
    true≢false (sym (any_at (λ b. b) (answers x (covering (by.0 ∷ []) parts)) true (answer_of parts x (by.0 ∷ []) true by.2) refl) ∙ good.2)) in
    covered_some x (covering (s ∷ ss) parts) first.0 all ∙ ap (λ (b : Bool). cond b Revoked Good) none
