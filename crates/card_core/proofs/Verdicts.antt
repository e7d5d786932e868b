-- What parts say together, from what each of them says, and what asking them costs.
use Rattle.std.proofs.Common.{◌≡◌, ℕ, ◌+◌, ◌-◌, ◌*◌, ◌≤◌, Bool, true, false, cond, List, [], ◌∷◌, ◌++◌, length, Option, Some, None}
use Rattle.std.proofs.Common.{refl, sym, ap, ◌∙◌, subst, length-append, arith}
use Rattle.std.specs.List.{list_any, cons_option}
use Rattle.std.proofs.lemmas.List.Elements.{filter-append}
use Rattle.ident_core.specs.declared.identity.Identity.{Identity}
use Rattle.ident_core.specs.declared.range.Sighting.{Sighting}
use Rattle.equation_core.specs.Rows.{sha256_row}
use Rattle.card_core.specs.PartFields.{PartFields}
use Rattle.card_core.specs.Consulting.{consulted, covers_some}
use Rattle.card_core.specs.declared.verdict.Verdict.{Verdict}
use Rattle.card_core.specs.declared.verdict.Verdict.TheVariants.{NotCovered, NotEnrolled, Good, Revoked}
use Rattle.card_core.specs.Verdict.{covering, answers, by_answers, by_covering, verdict, said_by_both, AreProbes}

-- ---- the verdict

joined_none : (v : Verdict) → said_by_both NotCovered v ≡ v
joined_none NotCovered = refl
joined_none NotEnrolled = refl
joined_none Good = refl
joined_none Revoked = refl

joined_assoc : (a b c : Verdict) → said_by_both a (said_by_both b c) ≡ said_by_both (said_by_both a b) c
joined_assoc NotCovered b c = joined_none (said_by_both b c) ∙ ap (λ v. said_by_both v c) (sym (joined_none b))
joined_assoc Revoked b c = refl
joined_assoc NotEnrolled NotCovered c = ap (said_by_both NotEnrolled) (joined_none c)
joined_assoc NotEnrolled NotEnrolled NotCovered = refl
joined_assoc NotEnrolled NotEnrolled NotEnrolled = refl
joined_assoc NotEnrolled NotEnrolled Good = refl
joined_assoc NotEnrolled NotEnrolled Revoked = refl
joined_assoc NotEnrolled Good NotCovered = refl
joined_assoc NotEnrolled Good NotEnrolled = refl
joined_assoc NotEnrolled Good Good = refl
joined_assoc NotEnrolled Good Revoked = refl
joined_assoc NotEnrolled Revoked c = refl
joined_assoc Good NotCovered c = ap (said_by_both Good) (joined_none c)
joined_assoc Good NotEnrolled NotCovered = refl
joined_assoc Good NotEnrolled NotEnrolled = refl
joined_assoc Good NotEnrolled Good = refl
joined_assoc Good NotEnrolled Revoked = refl
joined_assoc Good Good NotCovered = refl
joined_assoc Good Good NotEnrolled = refl
joined_assoc Good Good Good = refl
joined_assoc Good Good Revoked = refl
joined_assoc Good Revoked c = refl

-- by the answers of parts, one of which covers a sighting
unenrolled_first : (l : List Bool) → said_by_both NotEnrolled (by_answers l) ≡ by_answers l
unenrolled_first [] = refl
unenrolled_first (a ∷ others) = elim (list_any (λ b. b) (a ∷ others)) as (λ r. said_by_both NotEnrolled (cond r Revoked Good) ≡ cond r Revoked Good) [ true ↦ refl | false ↦ refl ]

answered_then : (a : Bool) (l : List Bool) → said_by_both (by_answers (a ∷ [])) (by_answers l) ≡ by_answers (a ∷ l)
answered_then true l = refl
answered_then false [] = refl
answered_then false (b ∷ others) = elim (list_any (λ b. b) (b ∷ others)) as (λ r. said_by_both Good (cond r Revoked Good) ≡ cond r Revoked Good) [ true ↦ refl | false ↦ refl ]

answered_alone : (a : Bool) → said_by_both (by_answers (a ∷ [])) NotCovered ≡ by_answers (a ∷ [])
answered_alone true = refl
answered_alone false = refl

-- a part that covers a sighting, and the covering parts behind it
covering_then : (x : Identity) (parts : List PartFields) (o : Option Bool) → said_by_both (by_answers (cons_option o [])) (by_covering x parts) ≡ by_answers (cons_option o (answers x parts))
covering_then x [] None = refl
covering_then x [] (Some a) = answered_alone a
covering_then x (q ∷ qs) None = unenrolled_first (answers x (q ∷ qs))
covering_then x (q ∷ qs) (Some a) = answered_then a (answers x (q ∷ qs))

one_then : (x : Identity) (p : PartFields) (covered : List PartFields) (b : Bool) → said_by_both (by_covering x (cond b (p ∷ []) [])) (by_covering x covered) ≡ by_covering x (cond b (p ∷ covered) covered)
one_then x p covered true = covering_then x covered (consulted sha256_row x p.blocks)
one_then x p covered false = joined_none (by_covering x covered)

pub verdict-append : (xs ys : List PartFields) (x : Identity) (ss : List Sighting) → verdict (xs ++ ys) x ss ≡ said_by_both (verdict xs x ss) (verdict ys x ss)
verdict-append [] ys x ss = sym (joined_none (verdict ys x ss))
verdict-append (p ∷ xs) ys x ss =
    sym (one_then x p (covering ss (xs ++ ys)) (covers_some ss p))
    ∙ ap (said_by_both (verdict (p ∷ []) x ss)) (verdict-append xs ys x ss)
    ∙ joined_assoc (verdict (p ∷ []) x ss) (verdict xs x ss) (verdict ys x ss)
    ∙ ap (λ v. said_by_both v (verdict ys x ss)) (one_then x p (covering ss xs) (covers_some ss p))

-- ---- what it costs

pub probes-append : (xs ys : List PartFields) (a b : ℕ) → AreProbes xs a → AreProbes ys b → AreProbes (xs ++ ys) (a + b)
probes-append [] ys a b one other = let same : a + b ≡ b = omega arith in subst (AreProbes ys) (sym same) other
probes-append (p ∷ xs) ys a b (k, rest, is, few, more) other = (k, rest + b, omega arith, few, probes-append xs ys rest b more other)

-- what asking these parts gave, by the counts before and behind it
pub record IsAsked (id : Identity) (sightings : List Sighting) (parts : List PartFields) (said : Verdict) (probes_old probes_new words_old words_new : ℕ) : Type 0 where
  pub value : said ≡ verdict parts id sightings
  pub more_probes : probes_old ≤ probes_new
  pub few_probes : AreProbes (covering sightings parts) (probes_new - probes_old)
  pub more_words : words_old ≤ words_new
  pub few_words : words_new ≤ words_old + 51 * length (covering sightings parts)

pub asked-append : (id : Identity) (ss : List Sighting) (xs ys : List PartFields) (v w : Verdict) (p0 p1 p2 w0 w1 w2 : ℕ)
    → IsAsked id ss xs v p0 p1 w0 w1 → IsAsked id ss ys w p1 p2 w1 w2 → IsAsked id ss (xs ++ ys) (said_by_both v w) p0 p2 w0 w2
asked-append id ss xs ys v w p0 p1 p2 w0 w1 w2 a b =
    let covers = filter-append (covers_some ss) xs ys in
    let sum : (p1 - p0) + (p2 - p1) ≡ p2 - p0 = omega (arith, a.more_probes, b.more_probes) in
    let both : AreProbes (covering ss xs ++ covering ss ys) (p2 - p0) = subst (AreProbes (covering ss xs ++ covering ss ys)) sum
    (probes-append (covering ss xs) (covering ss ys) (p1 - p0) (p2 - p1) a.few_probes b.few_probes) in
    record {
      value = ap (λ u. said_by_both u w) a.value ∙ ap (said_by_both (verdict xs id ss)) b.value ∙ sym (verdict-append xs ys id ss);
      more_probes = omega (arith, a.more_probes, b.more_probes);
      few_probes = subst (λ (l : List PartFields). AreProbes l (p2 - p0)) (sym covers) both;
      more_words = omega (arith, a.more_words, b.more_words);
      few_words = omega (arith, a.few_words, b.few_words, ap length covers, length-append (covering ss xs) (covering ss ys));
    }

pub asked-none : (id : Identity) (ss : List Sighting) (p w : ℕ) → IsAsked id ss [] NotCovered p p w w
asked-none id ss p w = record { value = refl; more_probes = omega arith; few_probes = omega arith; more_words = omega arith; few_words = omega arith }
